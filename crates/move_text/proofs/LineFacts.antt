-- Lines that are put one after the other.
use Rattle.std.proofs.Common.{◌≡◌, ℕ, zero, suc, ◌+◌, ◌<◌, ◌≤◌, true, List, [], ◌∷◌, ◌++◌, length, take, sym, ap, ◌∙◌, refl, arith, append_assoc, Option, Some, None}
use Rattle.std.specs.Prelude.{flat_map, nat_lt, slice_get}
use Rattle.std.specs.List.{list_all, range_with_len}
use Rattle.std.proofs.lemmas.Bool.Decides.{nat_tests}
use Rattle.std.proofs.lemmas.List.{flat_map_more}
use Rattle.plan_model.proofs.NumberLemmas.{range_more}
use Rattle.online_mover.specs.declared.stands.Command.{Command}
use Rattle.online_mover.specs.Changes.{commanded}
use Rattle.online_mover.proofs.Covers.{and-left, and-right}
use Rattle.online_mover.proofs.Given.{none-some, some-same}

-- the command at a place is for one of so many servers
pub command-within : (n : ℕ) (commands : List Command) (i : ℕ) (command : Command) → list_all (λ c. nat_lt (commanded c) n) commands ≡ true → slice_get commands i ≡ Some command
    → commanded command < n
command-within n [] i command all h = absurd (none-some command h)
command-within n (c ∷ commands) zero command all h =
    let here : nat_lt (commanded c) n ≡ true = and-left _ _ all in
    let test : nat_lt (commanded command) n ≡ true = sym (ap (λ d. nat_lt (commanded d) n) (some-same c command h)) ∙ here in
    grind (arith, nat_tests, test)
command-within n (c ∷ commands) (suc i) command all h = command-within n commands i command (and-right (nat_lt (commanded c) n) _ all) h

take-get : {X : Type 0} (xs : List X) (i : ℕ) (x : X) → slice_get xs i ≡ Some x → take (suc i) xs ≡ take i xs ++ x ∷ []
take-get [] i x h = absurd (none-some x h)
take-get (y ∷ xs) zero x h = ap (λ z. z ∷ []) (some-same y x h)
take-get (y ∷ xs) (suc i) x h = ap (λ zs. y ∷ zs) (take-get xs i x h)

-- the pieces up to the next
pub pieces-more : (f : Command → List ℕ) (commands : List Command) (i : ℕ) (command : Command) (before text grown : List ℕ)
    → text ≡ before ++ flat_map f (take i commands) → slice_get commands i ≡ Some command → grown ≡ text ++ f command
    → grown ≡ before ++ flat_map f (take (i + 1) commands)
pieces-more f commands i command before text grown so at is =
    let next : suc i ≡ i + 1 = omega arith in
    is ∙ ap (λ xs. xs ++ f command) so ∙ flat_map_more f before (take i commands) command
    ∙ ap (λ xs. before ++ flat_map f xs) (sym (take-get commands i command at) ∙ ap (λ n. take n commands) next)

pub past-end : {X : Type 0} (xs : List X) (i : ℕ) → slice_get xs i ≡ None → i < length xs → ⊥
past-end [] i h k = absurd (omega (arith, k))
past-end (x ∷ xs) zero h k = absurd (none-some x (sym h))
past-end (x ∷ xs) (suc i) h k = past-end xs i h (omega (arith, k))

-- the same over numbers
pub numbers-more : (f : ℕ → List ℕ) (n : ℕ) (before text grown : List ℕ) → text ≡ before ++ flat_map f (range_with_len 0 n) → grown ≡ text ++ f n
    → grown ≡ before ++ flat_map f (range_with_len 0 (n + 1))
numbers-more f n before text grown so is =
    is ∙ ap (λ xs. xs ++ f n) so ∙ flat_map_more f before (range_with_len 0 n) n ∙ ap (λ xs. before ++ flat_map f xs) (sym (range_more n))

-- three texts after an empty one
pub three-joined : (t u v w a b c : List ℕ) → t ≡ [] → u ≡ t ++ a → v ≡ u ++ b → w ≡ v ++ c → w ≡ a ++ (b ++ c)
three-joined t u v w a b c e f g h =
    h ∙ ap (λ xs. xs ++ c) (g ∙ ap (λ xs. xs ++ b) (f ∙ ap (λ xs. xs ++ a) e)) ∙ append_assoc a b c
