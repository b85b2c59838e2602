-- A round changes the class of a server, or whether it is movable, only where it changes its holder, busy flag or up flag.
use Rattle.std.proofs.Common.{◌≡◌, ℕ, zero, suc, Bool, true, false, List, [], ◌∷◌, length, get_or, arith, ap, ap₂, sym, ◌∙◌, refl, None, replicate}
use Rattle.std.specs.Prelude.{map, zip, not, ◌&&◌, nat_lt, Option, slice_index, slice_index_or}
use Rattle.std.specs.Bool.{beq}
use Rattle.std.specs.List.{list_any, range_with_len}
use Rattle.std.proofs.lemmas.Bool.{eqb-true}
use Rattle.plan_model.specs.declared.cases.Holder.{Holder}
use Rattle.plan_model.specs.declared.cases.Holder.TheVariants.{Free, Held, Gone}
use Rattle.plan_model.specs.declared.cases.Place.{Place}
use Rattle.plan_model.specs.declared.cases.Want.{Want}
use Rattle.plan_model.specs.declared.cases.Case.{Case}
use Rattle.plan_model.specs.Units.{place_of, no_place, no_want}
use Rattle.plan_model.specs.Rack.{none_or_in}
use Rattle.plan_model.proofs.CaseFacts.{and-left, and-right}
use Rattle.symmetry_classes.specs.Groups.{same_holder}
use Rattle.program_rows.specs.Settings.{region_setting, movable_servers, movable_flags}
use Rattle.online_mover.specs.declared.stands.Server.{Server}
use Rattle.online_mover.specs.States.{State}
use Rattle.ras_rounds.specs.Rounds.{placed_after, places_after, IsAfter, differs, is_changed}
use Rattle.ras_rounds.specs.Mends.{AreUnchanged}
use Rattle.ras_rounds.proofs.Flags.{flagged-has, has-flagged}

beq-true : (a b : Bool) → beq a b ≡ true → a ≡ b
beq-true true true h = refl
beq-true false false h = refl
beq-true true false h = cc
beq-true false true h = cc

same_holder-true : (h k : Holder) → same_holder h k ≡ true → h ≡ k
same_holder-true Free Free e = refl
same_holder-true (Held q) (Held r) e = ap Held (eqb-true q r e)
same_holder-true Gone Gone e = refl
same_holder-true Free (Held r) e = cc
same_holder-true Free Gone e = cc
same_holder-true (Held q) Free e = cc
same_holder-true (Held q) Gone e = cc
same_holder-true Gone Free e = cc
same_holder-true Gone (Held r) e = cc

not-false : (b : Bool) → not b ≡ false → b ≡ true
not-false true h = refl
not-false false h = cc

-- whether a server may be moved in the region phase, by what is wanted
abbrev movable_by : List Want → Place × Option ℕ → Bool
movable_by wants s =
    s.0.up && none_or_in (range_with_len 0 (length wants)) s.1
    && list_any (λ r. nat_lt 0 (slice_index (slice_index_or wants r no_want).values s.0.kind)) (range_with_len 0 (length wants))

abbrev flags_of : List Want → List Place → List Bool
flags_of wants places = map (movable_by wants) (zip places (replicate (length places) None))

flags-are : (case : Case) → movable_flags case (region_setting case) ≡ flags_of case.wants case.places
flags-are case = refl

up-decides : (wants : List Want) (p : Place) (x : Server) → differs p (placed_after (p, x)) ≡ false → movable_by wants (p, None) ≡ movable_by wants (placed_after (p, x), None)
up-decides wants p x h =
    let up : p.up ≡ x.up = beq-true p.up x.up (and-right _ _ (not-false _ h)) in
    ap (λ b. b && none_or_in (range_with_len 0 (length wants)) None
    && list_any (λ r. nat_lt 0 (slice_index (slice_index_or wants r no_want).values p.kind)) (range_with_len 0 (length wants))) up

flags-agree : (wants : List Want) (places : List Place) (servers : List Server) → length servers ≡ length places → (k : ℕ)
    → differs (get_or places k no_place) (get_or (places_after places servers) k no_place) ≡ false
    → get_or (flags_of wants places) k false ≡ get_or (flags_of wants (places_after places servers)) k false
flags-agree wants [] [] same k h = refl
flags-agree wants [] (x ∷ servers) same k h = absurd (omega (arith, same))
flags-agree wants (p ∷ places) [] same k h = absurd (omega (arith, same))
flags-agree wants (p ∷ places) (x ∷ servers) same zero h = up-decides wants p x h
flags-agree wants (p ∷ places) (x ∷ servers) same (suc k) h = flags-agree wants places servers (omega (arith, same)) k h

stays-put : (places : List Place) (servers : List Server) → length servers ≡ length places → (k : ℕ)
    → ((get_or places k no_place).kind ≡ (get_or (places_after places servers) k no_place).kind)
    × ((get_or places k no_place).board ≡ (get_or (places_after places servers) k no_place).board)
stays-put [] [] same k = (refl, refl)
stays-put [] (x ∷ servers) same k = absurd (omega (arith, same))
stays-put (p ∷ places) [] same k = absurd (omega (arith, same))
stays-put (p ∷ places) (x ∷ servers) same zero = (refl, refl)
stays-put (p ∷ places) (x ∷ servers) same (suc k) = stays-put places servers (omega (arith, same)) k

pub round-unchanged : (before after : Case) (state : State) → IsAfter before state after → length state.servers ≡ length before.places
    → AreUnchanged before after (movable_servers before (region_setting before)) (movable_servers after (region_setting after)) (is_changed before after)
round-unchanged before after state is same =
    let now = flags_of before.wants before.places in
    let then-flags = flags_of after.wants after.places in
    let there : then-flags ≡ flags_of before.wants (places_after before.places state.servers) = ap₂ flags_of is.wants is.places in
    let agree : (s : ℕ) → is_changed before after s ≡ false → get_or now s false ≡ get_or then-flags s false =
    λ s still.
    flags-agree before.wants before.places state.servers same s
    (ap (λ ps. differs (get_or before.places s no_place) (get_or ps s no_place)) (sym is.places) ∙ still)
    ∙ ap (λ fs. get_or fs s false) (sym there) in
    record {
      stays = λ s still h. flagged-has then-flags s (sym (agree s still) ∙ has-flagged now s h);
      was = λ s still h. flagged-has now s (agree s still ∙ has-flagged then-flags s h);
      key = λ s still.
          let put = stays-put before.places state.servers same s in
          let like = and-left _ _ (not-false _ still) in
          record {
            kind = put.0 ∙ ap (λ ps. (get_or ps s no_place).kind) (sym is.places);
            board = put.1 ∙ ap (λ ps. (get_or ps s no_place).board) (sym is.places);
            holder = same_holder-true (place_of before s).holder (place_of after s).holder (and-left _ _ like);
            busy = beq-true (place_of before s).busy (place_of after s).busy (and-right _ _ like);
          };
    }
