-- The rule of multipliers, read as their range, and made from it.
use Rattle.std.proofs.Common.{◌≡◌, ℕ, zero, suc, ◌<◌, ◌≤◌, ◌^◌, refl, arith, Bool, true, false, ◌&&◌, List, [], ◌∷◌, length, nat_le, nat_lt, IsTrue, get_or, All, AllPairs}
use Rattle.std.proofs.lemmas.Bool.{and_parts, and_from}
use Rattle.std.proofs.lemmas.List.Sums.{AllPass-from_list_all, list_all-from_AllPass}
use Rattle.std.proofs.lemmas.List.Kept.{AllPairs-cons}
use Rattle.std.specs.List.{list_all}
use Rattle.bound_certificate.specs.declared.multipliers.Top.{Top}
use Rattle.bound_certificate.specs.declared.multipliers.Multipliers.{Multipliers}
use Rattle.bound_certificate.specs.Rising.{TopInRange, KeepsRange}
use Rattle.bound_certificate.specs.Rule.{numerator_in_range, rows_rise, multipliers_rule}

-- from 1 to 2^60
record InRange (n : ℕ) : Type 0 where
  some : 1 ≤ n
  most : n ≤ 2 ^ 60

in_range_of : (n : ℕ) → numerator_in_range n ≡ true → InRange n
in_range_of n h = let parts = and_parts (nat_le 1 n) (nat_le n 1152921504606846976) h in record { some = nat_le-true 1 n parts.0; most = nat_le-true n 1152921504606846976 parts.1 }
  where
    nat_le-true : (m n : ℕ) → nat_le m n ≡ true → m ≤ n
    nat_le-true m n h = grind arith

in_range_from : (n : ℕ) → 1 ≤ n → n ≤ 2 ^ 60 → numerator_in_range n ≡ true
in_range_from n some most = and_from (nat_le 1 n) (nat_le n 1152921504606846976) (nat_le-from 1 n some) (nat_le-from n 1152921504606846976 most)
  where
    nat_le-from : (m n : ℕ) → m ≤ n → nat_le m n ≡ true
    nat_le-from m n h = grind arith

below_of : (m n : ℕ) → nat_lt m n ≡ true → m < n
below_of m n h = grind arith

below_from : (m n : ℕ) → m < n → nat_lt m n ≡ true
below_from m n h = grind arith

rising_of : (ts : List Top) → rows_rise ts ≡ true → AllPairs (λ s t. s.row < t.row) ts
rising_of [] h = λ i j d lt within. absurd (omega arith)
rising_of (s ∷ ts) h =
    let parts = and_parts _ _ h in
    AllPairs-cons (λ s t. s.row < t.row) s ts (λ k d q. below_of s.row (get_or ts k d).row (AllPass-from_list_all (λ (t : Top). nat_lt s.row t.row) ts parts.0 k d q)) (rising_of ts parts.1)

rising_from : (ts : List Top) → AllPairs (λ s t. s.row < t.row) ts → rows_rise ts ≡ true
rising_from [] h = refl
rising_from (s ∷ ts) h =
    and_from _ _
    (list_all-from_AllPass (λ (t : Top). nat_lt s.row t.row) ts (λ k d q. below_from s.row (get_or ts k d).row (h zero (suc k) d (omega arith) (omega arith))))
    (rising_from ts (λ i j d lt within. h (suc i) (suc j) d (omega arith) (omega arith)))

pub range_of : (den : ℕ) (tops : List Top) → IsTrue (multipliers_rule den tops) → KeepsRange den tops
range_of den tops h =
    let front = (and_parts _ _ h).0 in
    let first = in_range_of den (and_parts _ _ front).0 in
    record {
      den_above_none = first.some;
      den_most = first.most;
      nums = λ k d q. let one = in_range_of (get_or tops k d).num (AllPass-from_list_all (λ (t : Top). numerator_in_range t.num) tops (and_parts _ _ front).1 k d q) in
          record { above_none = one.some; most = one.most };
      rising = rising_of tops (and_parts _ _ h).1;
    }

pub rule_of : (den : ℕ) (tops : List Top) → KeepsRange den tops → IsTrue (multipliers_rule den tops)
rule_of den tops is =
    and_from _ _ (and_from _ _ (in_range_from den is.den_above_none is.den_most)
    (list_all-from_AllPass (λ (t : Top). numerator_in_range t.num) tops (λ k d q. let one = is.nums k d q in in_range_from (get_or tops k d).num one.above_none one.most)))
    (rising_from tops is.rising)

pub multipliers_range : (y : Multipliers) → KeepsRange y.den y.tops
multipliers_range y = range_of y.den y.tops y.kept
