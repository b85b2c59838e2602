-- Common denominators of fractions.
use Rattle.std.specs.Prelude.{ℕ, ◌<◌, ◌≤◌, ◌^◌, List, length, pos, ◌+ℤ◌, ◌*ℤ◌, ◌≤ℤ◌, unsigned_abs}
use Rattle.std.specs.Int.{◌∣◌}
use Rattle.exact_fraction.specs.declared.fraction.Fraction.{Fraction}
use Rattle.exact_fraction.specs.Exact.{IsRatio}
use Rattle.exact_simplex.specs.Cells.{cell_of}

-- the least common multiple of a and b, at most 2^60
pub record IsLeastMultiple (a b both : ℕ) : Type 0 where
  pub some : 1 ≤ both
  pub most : both ≤ 2 ^ 60
  pub left : a ∣ both
  pub right : b ∣ both
  pub least : (d : ℕ) → a ∣ d → b ∣ d → both ∣ d

-- the denominators of the first numbers divide d
abbrev pub AreOver : ℕ → List Fraction → ℕ → Type 0
AreOver count numbers d = (i : ℕ) → i < count → unsigned_abs (cell_of numbers i).den ∣ d

-- the least common denominator of the first numbers, at most 2^60
pub record IsLeastOver (count : ℕ) (numbers : List Fraction) (den : ℕ) : Type 0 where
  pub some : 1 ≤ den
  pub most : den ≤ 2 ^ 60
  pub over : AreOver count numbers den
  pub least : (d : ℕ) → AreOver count numbers d → den ∣ d

-- the number is n / d
abbrev pub IsNumOver : Fraction → ℕ → ℕ → Type 0
IsNumOver number n d = IsRatio number.num number.den (pos n) (pos d)

-- the numbers are these numerators, up to 2^60, over d
abbrev pub AreNumsOver : List Fraction → (ℕ → ℕ) → ℕ → Type 0
AreNumsOver numbers nums d = (i : ℕ) → i < length numbers → (nums i ≤ 2 ^ 60) × IsNumOver (cell_of numbers i) (nums i) d

-- the step from a low number is not below 0 and leads to at most 2^25
pub record IsStepFrom (low : ℕ) (step : Fraction) : Type 0 where
  pub above : pos 0 ≤ℤ step.num
  pub most : (pos low *ℤ step.den +ℤ step.num) ≤ℤ (pos (2 ^ 25) *ℤ step.den)
