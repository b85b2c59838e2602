-- Numbers that rise, and the number of a number among them.
use Rattle.std.proofs.Common.{◌≡◌, ℕ, zero, suc, ◌==◌, ◌<◌, Bool, true, false, cond, List, [], ◌∷◌, length, get_or, arith, ap, sym, ◌∙◌, refl}
use Rattle.std.specs.Prelude.{nat_lt, Some, None, Option, position}
use Rattle.std.specs.List.{position_or_len}
use Rattle.std.proofs.lemmas.Bool.Decides.{nat_tests}
use Rattle.std.proofs.lemmas.List.Sums.{fails_before_first}
use Rattle.std.proofs.lemmas.List.Quantifiers.{position-Some}
use Rattle.plan_model.specs.Units.{is_for}
use Rattle.plan_model.proofs.CaseFacts.{list_all-at, and-left, and-right}
use Rattle.conflict_core.specs.Kept.{rises}
use Rattle.conflict_core.specs.Cases.{number_in, kept_to}

pub rises-at : (members : List ℕ) (i j : ℕ) → rises members ≡ true → i < j → j < length members → get_or members i 0 < get_or members j 0
rises-at [] i j h p q = absurd (omega arith)
rises-at (r ∷ rs) i zero h p q = absurd (omega arith)
rises-at (r ∷ rs) zero (suc j) h p q =
    let one : nat_lt r (get_or rs j 0) ≡ true = list_all-at (nat_lt r) rs j 0 (omega arith) (and-left _ _ h) in
    grind (arith, nat_tests, one)
rises-at (r ∷ rs) (suc i) (suc j) h p q = rises-at rs i j (and-right _ _ h) (omega arith) (omega arith)

-- one number stands at one place
pub one-place : (members : List ℕ) (k n : ℕ) → rises members ≡ true → k < length members → n < length members → get_or members k 0 ≡ get_or members n 0 → k ≡ n
one-place members k n h p q same = by (nat_lt k n) (nat_lt n k) refl refl
  where
    by : (b c : Bool) → nat_lt k n ≡ b → nat_lt n k ≡ c → k ≡ n
    by true c e f =
        let before : k < n = grind (arith, nat_tests, e) in
        absurd (omega (arith, rises-at members k n h before q, same))
    by false true e f =
        let before : n < k = grind (arith, nat_tests, f) in
        absurd (omega (arith, rises-at members n k h before p, same))
    by false false e f = grind (arith, nat_tests, e, f)

same-tests : (k n a b : ℕ) → (k ≡ n → a ≡ b) → (a ≡ b → k ≡ n) → (k == n) ≡ (a == b)
same-tests k n a b to back = by (k == n) (a == b) refl refl
  where
    by : (x y : Bool) → (k == n) ≡ x → (a == b) ≡ y → x ≡ y
    by true true e f = refl
    by false false e f = refl
    by true false e f = let same : a ≡ b = to (grind (arith, nat_tests, e)) in absurd (grind (arith, nat_tests, f, same))
    by false true e f = let same : k ≡ n = back (grind (arith, nat_tests, f)) in absurd (grind (arith, nat_tests, e, same))

none-cond : (b : Bool) (n : ℕ) → cond b (Some n) None ≡ None → b ≡ false
none-cond true n h = cc
none-cond false n h = refl

-- where nothing passes, nothing at any place does
pub none-passes : {X : Type 0} (test : X → Bool) (xs : List X) (k : ℕ) (d : X) → position test xs ≡ None → k < length xs → test (get_or xs k d) ≡ false
none-passes test xs k d none within =
    let end : nat_lt (position_or_len test xs) (length xs) ≡ false = none-cond (nat_lt (position_or_len test xs) (length xs)) (position_or_len test xs) none in
    fails_before_first test xs k d (grind (arith, nat_tests, end, within))

-- a server is for the n-th member among the members exactly where it is for that reservation
pub for-member : (members : List ℕ) (n : ℕ) (to : Option ℕ) → rises members ≡ true → n < length members
    → is_for n (kept_to members to) ≡ is_for (get_or members n 0) to
for-member members n None h within = refl
for-member members n (Some r) h within = by (number_in members r) refl
  where
    by : (o : Option ℕ) → number_in members r ≡ o → is_for n o ≡ (r == get_or members n 0)
    by None e =
        let fails : (get_or members n 0 == r) ≡ false = none-passes (λ q. q == r) members n 0 e within in
        grind (arith, nat_tests, fails)
    by (Some k) e =
        let there = position-Some (λ q. q == r) members k 0 e in
        let is : get_or members k 0 ≡ r = grind (arith, nat_tests, there.1) in
        same-tests k n r (get_or members n 0) (λ same. sym is ∙ ap (λ i. get_or members i 0) same)
        (λ same. one-place members k n h there.0 within (is ∙ same))
