-- The rows of the start tableau, of whole numbers.
use Rattle.std.specs.Prelude.{ℕ, ◌≡◌, ◌<◌, suc, List, length, slice_index_or, if◌then◌else◌, ◌==◌, ℤ, pos}
use Rattle.exact_fraction.specs.declared.fraction.Fraction.{Fraction}
use Rattle.exact_simplex.specs.Cells.{cell_of}
use Rattle.exact_simplex.specs.Tableaus.{Form}

abbrev pub IsWhole : Fraction → ℤ → Type 0
IsWhole f z = (f.num ≡ z) × (f.den ≡ pos 1)

-- the row has the value and then the slopes
pub record IsWholeRow (row : List Fraction) (value : ℤ) (slopes : List ℤ) : Type 0 where
  pub size : length row ≡ suc (length slopes)
  pub first : IsWhole (cell_of row 0) value
  pub others : (k : ℕ) → k < length slopes → IsWhole (cell_of row (suc k)) (slice_index_or slopes k (pos 0))

-- the row has the constant and the slopes of the form
pub record ShowsForm (n : ℕ) (row : List Fraction) (form : Form) : Type 0 where
  pub size : length row ≡ suc n
  pub first : IsWhole (cell_of row 0) form.constant
  pub others : (k : ℕ) → k < n → IsWhole (cell_of row (suc k)) (form.slope k)

-- the slopes of a form
pub record AreSlopes (slopes : List ℤ) (n : ℕ) (slope : ℕ → ℤ) : Type 0 where
  pub size : length slopes ≡ n
  pub at : (k : ℕ) → k < n → slice_index_or slopes k (pos 0) ≡ slope k

-- the affine function of a value and one slope
abbrev pub single_form : ℤ → ℕ → ℤ → Form
single_form value place slope = record { slope = λ j. if j == place then slope else pos 0; constant = value }
