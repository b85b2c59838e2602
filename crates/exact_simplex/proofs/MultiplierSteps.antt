-- Multipliers that are given numbers.
use Rattle.std.proofs.Common.{◌≡◌, ℕ, suc, ◌+◌, ◌<◌, ◌≤◌, ◌^◌, pos, refl, arith, List, [], ◌∷◌, ◌++◌, length, All, AllPairs, if◌then◌else◌, ◌==◌, inl, inr}
use Rattle.std.proofs.lemmas.Bool.{ne_eqb}
use Rattle.std.proofs.lemmas.Bool.Decides.{eqb_tells}
use Rattle.std.specs.Int.{◌∣◌}
use Rattle.bound_certificate.specs.declared.multipliers.Multipliers.{Multipliers}
use Rattle.bound_certificate.specs.declared.multipliers.Top.{Top}
use Rattle.bound_certificate.specs.Rising.{TopInRange}
use Rattle.bound_certificate.proofs.RuleFacts.{multipliers_range}
use Rattle.exact_fraction.specs.declared.fraction.Fraction.{Fraction}
use Rattle.exact_simplex.specs.Cells.{cell_of}
use Rattle.exact_simplex.specs.Commons.{AreOver, AreNumsOver, IsLeastOver}
use Rattle.exact_simplex.specs.Duals.{num_at, AreMultipliers}
use Rattle.exact_simplex.proofs.Divides.{lowest_divides}

choice_none : (i row num : ℕ) → (i ≡ row → ⊥) → (if i == row then num else 0) ≡ 0
choice_none i row num other = rw (ne_eqb i row other) refl

choice_own : (row num : ℕ) → (if row == row then num else 0) ≡ num
choice_own row num =
    elim (eqb_tells row row) [
      | inl x ↦ rw x.0 refl
      | inr x ↦ absurd (x.1 refl)
    ]

-- a row above all that are listed has the multiplier 0
pub num_at-none : (tops : List Top) (n i : ℕ) → All (λ top. top.row < n) tops → n ≤ i → num_at tops i ≡ 0
num_at-none [] n i below h = refl
num_at-none (top ∷ tops) n i below h =
    let here = below 0 top (omega arith) in
    let rest = num_at-none tops n i (λ k d p. below (suc k) d (omega arith)) h in
    let gone = choice_none i top.row top.num (λ e. absurd (omega arith)) in
    omega (arith, gone, rest)

num_at-append : (tops : List Top) (top : Top) (i : ℕ) → num_at (tops ++ top ∷ []) i ≡ num_at tops i + (if i == top.row then top.num else 0)
num_at-append [] top i = omega arith
num_at-append (t ∷ tops) top i = let rest = num_at-append tops top i in omega (arith, rest)

pub pushed_own : (tops : List Top) (row num : ℕ) (top : Top) → top.row ≡ row → top.num ≡ num → All (λ top. top.row < row) tops → num_at (tops ++ top ∷ []) row ≡ num
pushed_own tops row num top is_row is_num below =
    let all = num_at-append tops top row in
    let before = num_at-none tops row row below (omega arith) in
    let own : (if row == top.row then top.num else 0) ≡ num = rw (is_row, is_num) (choice_own row num) in
    omega (arith, all, before, own)

pub pushed_other : (tops : List Top) (row i : ℕ) (top : Top) → top.row ≡ row → i < row → num_at (tops ++ top ∷ []) i ≡ num_at tops i
pushed_other tops row i top is_row h =
    let all = num_at-append tops top i in
    let gone = choice_none i top.row top.num (λ e. absurd (omega arith)) in
    omega (arith, all, gone)

-- a listed multiplier's numerator is at most 2^60
num_at-most : (tops : List Top) (i : ℕ) → All TopInRange tops → AllPairs (λ s t. s.row < t.row) tops → num_at tops i ≤ 2 ^ 60
num_at-most [] i nums rising = omega arith
num_at-most (top ∷ tops) i nums rising =
    elim (eqb_tells i top.row) [
      | inl x ↦
          let rest = later tops top.row i (λ k d p. rising 0 (suc k) d (omega arith) (omega arith)) (omega arith) in
          let here = (nums 0 top (omega arith)).most in
          rw (x.0, rest) (omega (arith, here))
      | inr x ↦
          let rest = num_at-most tops i (λ k d p. nums (suc k) d (omega arith)) (λ j k d lt p. rising (suc j) (suc k) d (omega arith) (omega arith)) in
          rw x.0 (omega (arith, rest))
    ]
  where
    later : (tops : List Top) (row i : ℕ) → All (λ top. row < top.row) tops → i ≤ row → num_at tops i ≡ 0
    later [] row i above h = refl
    later (top ∷ tops) row i above h =
        let here = above 0 top (omega arith) in
        let rest = later tops row i (λ k d p. above (suc k) d (omega arith)) h in
        let gone = choice_none i top.row top.num (λ e. absurd (omega arith)) in
        omega (arith, gone, rest)

pub multipliers_over : (numbers : List Fraction) (y : Multipliers) → AreMultipliers numbers y → AreOver (length numbers) numbers y.den
multipliers_over numbers y h = λ i p. lowest_divides (cell_of numbers i) (pos (num_at y.tops i)) y.den (h.nums i p)

pub no_common : (numbers : List Fraction) → ((d : ℕ) → 1 ≤ d → d ≤ 2 ^ 60 → AreOver (length numbers) numbers d → ⊥) → (y : Multipliers) → AreMultipliers numbers y → ⊥
no_common numbers none y h = let range = multipliers_range y in none y.den range.den_above_none range.den_most (multipliers_over numbers y h)

pub no_nums : (numbers : List Fraction) (den : ℕ) → IsLeastOver (length numbers) numbers den → ((nums : ℕ → ℕ) (d : ℕ) → 1 ≤ d → den ∣ d → AreNumsOver numbers nums d → ⊥) → (y : Multipliers) → AreMultipliers numbers y → ⊥
no_nums numbers den least none y h =
    let range = multipliers_range y in
    none (num_at y.tops) y.den range.den_above_none (least.least y.den (multipliers_over numbers y h)) (λ i p. (num_at-most y.tops i range.nums range.rising, h.nums i p))
