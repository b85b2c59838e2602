-- When certificate multipliers stand for weights of the rows.
use Rattle.std.specs.Prelude.{ℕ, ◌≡◌, ◌+◌, ◌<◌, ◌≤◌, ◌^◌, List, [], ◌∷◌, length, ℤ, pos, ◌*ℤ◌, ◌≤ℤ◌, if◌then◌else◌, ◌==◌, All, ◌⊎◌}
use Rattle.bound_certificate.specs.declared.multipliers.Multipliers.{Multipliers}
use Rattle.bound_certificate.specs.declared.multipliers.Top.{Top}
use Rattle.bound_certificate.specs.Rising.{KeepsRange}
use Rattle.exact_fraction.specs.declared.fraction.Fraction.{Fraction}
use Rattle.exact_simplex.specs.Cells.{cell_of}
use Rattle.exact_simplex.specs.Commons.{IsNumOver}

-- the numerator of row i, 0 where it is not listed
abbrev pub num_at : List Top → ℕ → ℕ
num_at [] i = 0
num_at (top ∷ tops) i = (if i == top.row then top.num else 0) + num_at tops i

-- the numerators over den are the weights over scale
pub record AreWeights (rows : ℕ) (den scale : ℕ) (tops : List Top) (weight : ℕ → ℤ) : Type 0 where
  pub there : All (λ top. top.row < rows) tops
  pub nums : (i : ℕ) → i < rows → pos (num_at tops i) *ℤ pos scale ≡ pos den *ℤ weight i

-- multipliers of rows below n, within their limits
pub record IsListed (den : ℕ) (tops : List Top) (n : ℕ) : Type 0 where
  pub range : KeepsRange den tops
  pub below : All (λ top. top.row < n) tops

-- the multipliers of the rows are these numbers
pub record AreMultipliers (numbers : List Fraction) (y : Multipliers) : Type 0 where
  pub there : All (λ top. top.row < length numbers) y.tops
  pub nums : (i : ℕ) → i < length numbers → IsNumOver (cell_of numbers i) (num_at y.tops i) y.den

-- num is top / bottom in units of 1 over 2^40, rounded down: the largest number of them up to 2^60 that does not pass it, and 0 where top is below 0
pub record IsRounded (top bottom : ℤ) (num : ℕ) : Type 0 where
  pub most : num ≤ 2 ^ 60
  pub under : 1 ≤ num → (pos num *ℤ bottom) ≤ℤ (pos (2 ^ 40) *ℤ top)
  pub greatest : (m : ℕ) → m ≤ 2 ^ 60 → (pos m *ℤ bottom) ≤ℤ (pos (2 ^ 40) *ℤ top) → m ≤ num

-- the multipliers of the rows are these numbers, each rounded down
pub record AreRounded (numbers : List Fraction) (y : Multipliers) : Type 0 where
  pub there : All (λ top. top.row < length numbers) y.tops
  pub den : y.den ≡ 2 ^ 40
  pub nums : (i : ℕ) → i < length numbers → IsRounded (cell_of numbers i).num (cell_of numbers i).den (num_at y.tops i)

-- the multipliers of the rows are these numbers, each rounded down where no multipliers are these numbers
abbrev pub AreExactOrRounded : List Fraction → Multipliers → Type 0
AreExactOrRounded numbers y = AreMultipliers numbers y ⊎ (((z : Multipliers) → AreMultipliers numbers z → ⊥) × AreRounded numbers y)
