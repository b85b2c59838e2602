-- The helper of a row, and what the rows ask of the helpers.
use Rattle.std.specs.Prelude.{ℕ, ◌≡◌, ◌<◌, ◌≤◌, ◌*◌, List, length, All, false, IsTrue, pos, ◌≤ℤ◌, ◌<ℤ◌, slice_index, get_or}
use Rattle.ip_model.specs.declared.parts.Column.{Column}
use Rattle.ip_model.specs.declared.parts.Term.{Term}
use Rattle.ip_model.specs.declared.program.Program.{Program}
use Rattle.ip_model.specs.Limits.{helper_at, top_of}
use Rattle.ip_model.specs.Sums.{terms_at, factor_of}
use Rattle.bound_certificate.specs.Bound.{terms_of, least_of}

abbrev pub HasNoHelper : List Column → List Term → Type 0
HasNoHelper columns terms = All (λ t. helper_at columns t.column ≡ false) terms

-- one of the terms is of this column
pub record HasColumn (terms : List Term) (h : ℕ) : Type 0 where
  pub place : ℕ
  pub within : place < length terms
  pub column : (d : Term) → (get_or terms place d).column ≡ h

-- a helper with factor 1, and the row has no other
pub record IsHelperOf (columns : List Column) (terms : List Term) (h : ℕ) : Type 0 where
  pub helper : IsTrue (helper_at columns h)
  pub stands : HasColumn terms h
  pub factor : factor_of terms h ≡ pos 1
  pub only : All (λ t. IsTrue (helper_at columns t.column) → t.column ≡ h) terms

-- the row has at these numbers what it asks, with nothing to spare
abbrev pub IsTight : Program → List ℕ → ℕ → Type 0
IsTight program point row = terms_at (terms_of program.rows row) (slice_index point) ≡ least_of program.rows row

-- one of the rows before row i asks of helper j the number that it has
pub record IsAsked (program : Program) (point : List ℕ) (i j : ℕ) : Type 0 where
  pub row : ℕ
  pub before : row < i
  pub helper : IsHelperOf program.columns (terms_of program.rows row) j
  pub tight : IsTight program point row

-- den times these numbers at the count columns
abbrev pub AgreesAtCounts : Program → List ℕ → ℕ → (ℕ → ℕ) → Type 0
AgreesAtCounts program counts den x = (j : ℕ) → j < length program.columns → helper_at program.columns j ≡ false → x j ≡ den * slice_index counts j

-- the count columns have the same numbers in both
abbrev pub KeepsCounts : List Column → List ℕ → List ℕ → Type 0
KeepsCounts columns old new = (j : ℕ) → helper_at columns j ≡ false → slice_index new j ≡ slice_index old j

-- numbers within the tops that meet the rows before row i, where each helper has 0 or what one of these rows asks
pub record ServesBefore (program : Program) (i : ℕ) (point : List ℕ) : Type 0 where
  pub size : length point ≡ length program.columns
  pub within : (j : ℕ) → slice_index point j ≤ top_of program.columns j
  pub met : (k : ℕ) → k < i → least_of program.rows k ≤ℤ terms_at (terms_of program.rows k) (slice_index point)
  pub asked : (j : ℕ) → IsTrue (helper_at program.columns j) → 0 < slice_index point j → IsAsked program point i j

-- the row has no helper, and less than it asks
pub record IsShortAt (program : Program) (row : ℕ) (point : List ℕ) : Type 0 where
  pub there : row < length program.rows
  pub alone : HasNoHelper program.columns (terms_of program.rows row)
  pub less : terms_at (terms_of program.rows row) (slice_index point) <ℤ least_of program.rows row
