-- The servers that count, as an assignment that fits the case.
use Rattle.std.proofs.Common.{◌≡◌, ℕ, Bool, true, false, cond, List, set, map, ap, sym, ◌∙◌, refl, None}
use Rattle.std.specs.Prelude.{Option, nat_lt}
use Rattle.std.specs.Option.{option_map_or}
use Rattle.std.proofs.lemmas.List.{map-set}
use Rattle.plan_model.specs.declared.cases.Holder.{Holder}
use Rattle.plan_model.specs.declared.cases.Holder.TheVariants.{Held, Gone, Free as Nobody}
use Rattle.plan_model.specs.declared.cases.Assignment.{Assignment}
use Rattle.online_mover.specs.declared.stands.Stand.{Stand}
use Rattle.online_mover.specs.declared.stands.Stand.TheVariants.{Free, Joining, Bound, Draining}
use Rattle.online_mover.specs.declared.stands.Server.{Server}
use Rattle.online_mover.specs.States.{State, server_of, with_stand, bound_for, held_for, counts_for, counting, server_in_range, stand_in_range, holder_in_range}
use Rattle.online_mover.specs.Without.{without}
use Rattle.online_mover.proofs.Covers.{and-left}

abbrev in_range : ℕ → Option ℕ → Bool
in_range n to = option_map_or (λ r. nat_lt r n) to true

held-range : (n : ℕ) (q : Holder) → holder_in_range n q ≡ true → in_range n (held_for q) ≡ true
held-range n (Held r) h = h
held-range n Gone h = refl
held-range n Nobody h = refl

bound-range : (n : ℕ) (stand : Stand) → stand_in_range n stand ≡ true → in_range n (bound_for stand) ≡ true
bound-range n Free h = refl
bound-range n (Joining r) h = refl
bound-range n (Bound q) h = held-range n q h
bound-range n (Draining q) h = refl

up-range : (n : ℕ) (up : Bool) (bound : Option ℕ) → in_range n bound ≡ true → in_range n (cond up bound None) ≡ true
up-range n true bound h = h
up-range n false bound h = refl

pub count-range : (n : ℕ) (server : Server) → server_in_range n server ≡ true → in_range n (counts_for server) ≡ true
count-range n x here = up-range n x.up (bound_for x.stand) (bound-range n x.stand (and-left (stand_in_range n x.stand) (in_range n x.target) here))

pub counting-at : (state : State) (a : Assignment) → a.of ≡ map counts_for state.servers → a ≡ counting state
counting-at state a same = ap (λ (of : List (Option ℕ)). let b : Assignment = record { of = of } in b) same

no-count : (up : Bool) → ◌≡◌ {A = Option ℕ} (cond up None None) None
no-count true = refl
no-count false = refl

-- a server that drains is one that no longer counts
pub drain-counting : (state : State) (a : Assignment) (s : ℕ) (q : Holder) → a.of ≡ map counts_for state.servers
    → without a s ≡ counting (with_stand state s (Draining q))
drain-counting state a s q same =
    let new : Server = record (server_of state s) { stand = Draining q } in
    let edit : set a.of s None ≡ map counts_for (set state.servers s new) =
    ap (λ xs. set xs s None) same
    ∙ ap (λ (o : Option ℕ). set (map counts_for state.servers) s o) (sym (no-count (server_of state s).up))
    ∙ sym (map-set counts_for state.servers s new) in
    ap (λ (of : List (Option ℕ)). let b : Assignment = record { of = of } in b) edit
