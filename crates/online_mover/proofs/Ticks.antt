-- One server after the other waits no more.
use Rattle.std.proofs.Common.{◌≡◌, ℕ, suc, zero, ◌+◌, ◌<◌, ◌≤◌, true, cond, List, [], ◌∷◌, ◌++◌, length, get_or, set, map, take, drop, arith, ap, sym, ◌∙◌, refl, subst}
use Rattle.std.specs.Prelude.{count_by}
use Rattle.std.proofs.lemmas.List.Sums.{sum_by-cons}
use Rattle.std.proofs.lemmas.List.{take_all, drop_all, append-nil}
use Rattle.online_mover.specs.declared.stands.Server.{Server}
use Rattle.online_mover.specs.States.{State, state_rule, counts_for, moves, no_server}
use Rattle.online_mover.specs.Events.{after_tick}
use Rattle.online_mover.proofs.Rules.{facts-of, rule-of}
use Rattle.online_mover.proofs.EventRules.{tick-rule}

abbrev so_far : List Server → ℕ → List Server
so_far xs i = map after_tick (take i xs) ++ drop i xs

more-suc : (xs : List Server) (i : ℕ) → i < length xs → set (so_far xs i) i (after_tick (get_or (so_far xs i) i no_server)) ≡ so_far xs (suc i)
more-suc [] i h = absurd (omega (arith, h))
more-suc (x ∷ xs) zero h = refl
more-suc (x ∷ xs) (suc i) h = ap (λ ys. after_tick x ∷ ys) (more-suc xs i (omega (arith, h)))

pub more : (xs ys : List Server) (i : ℕ) → ys ≡ so_far xs i → i < length xs → set ys i (after_tick (get_or ys i no_server)) ≡ so_far xs (i + 1)
more xs ys i e h =
    let next : suc i ≡ i + 1 = omega arith in
    ap (λ zs. set zs i (after_tick (get_or zs i no_server))) e ∙ more-suc xs i h ∙ ap (so_far xs) next

pub whole : (xs ys : List Server) (i : ℕ) → ys ≡ so_far xs i → length xs ≤ i → ys ≡ map after_tick xs
whole xs ys i e h =
    e ∙ ap (λ zs. map after_tick zs ++ drop i xs) (take_all i xs h) ∙ ap (λ zs. map after_tick xs ++ zs) (drop_all i xs h) ∙ append-nil (map after_tick xs)

so_far-length : (xs : List Server) (i : ℕ) → length (so_far xs i) ≡ length xs
so_far-length [] zero = refl
so_far-length [] (suc i) = refl
so_far-length (x ∷ xs) zero = refl
so_far-length (x ∷ xs) (suc i) = let rest = so_far-length xs i in cc

pub long : (xs ys : List Server) (i : ℕ) → ys ≡ so_far xs i → length ys ≡ length xs
long xs ys i e = ap length e ∙ so_far-length xs i

tick-counts : (xs : List Server) → map counts_for (map after_tick xs) ≡ map counts_for xs
tick-counts [] = refl
tick-counts (x ∷ xs) = ap (λ ys. counts_for x ∷ ys) (tick-counts xs)

pub ticked-counts : (xs ys : List Server) → ys ≡ map after_tick xs → map counts_for ys ≡ map counts_for xs
ticked-counts xs ys e = ap (map counts_for) e ∙ tick-counts xs

tick-flight : (xs : List Server) → count_by moves (map after_tick xs) ≡ count_by moves xs
tick-flight [] = refl
tick-flight (x ∷ xs) =
    sum_by-cons (λ server. cond (moves server) 1 0) (after_tick x) (map after_tick xs)
    ∙ ap (λ k. cond (moves x) 1 0 + k) (tick-flight xs)
    ∙ sym (sum_by-cons (λ server. cond (moves server) 1 0) x xs)

pub ticked-flight : (xs ys : List Server) → ys ≡ map after_tick xs → count_by moves ys ≡ count_by moves xs
ticked-flight xs ys e = ap (count_by moves) e ∙ tick-flight xs

pub ticked-rule : (state : State) (ys : List Server) → state_rule state ≡ true → ys ≡ map after_tick state.servers
    → state_rule (record { case = state.case; at_once = state.at_once; servers = ys }) ≡ true
ticked-rule state ys rule e =
    subst (λ (zs : List Server). state_rule (record { case = state.case; at_once = state.at_once; servers = zs }) ≡ true) (sym e)
    (rule-of (record { case = state.case; at_once = state.at_once; servers = map after_tick state.servers }) (tick-rule state (facts-of state rule)))
