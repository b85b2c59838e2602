-- What a relaxation reaches: tableaus after written pivots, over or open.
use Rattle.std.specs.Prelude.{ℕ, ◌≡◌, ◌+◌, ◌<◌, ◌≤◌, suc, List, length, pos, ◌<ℤ◌, Option, Some, None}
use Rattle.exact_fraction.specs.declared.fraction.Fraction.{Fraction}
use Rattle.exact_simplex.specs.declared.state.State.{State}
use Rattle.exact_simplex.specs.declared.state.State.TheVariants.{Least, Empty, Open}
use Rattle.exact_simplex.specs.declared.state.Advance.{Advance}
use Rattle.exact_simplex.specs.declared.state.Advance.TheVariants.{Made, Wide}
use Rattle.exact_simplex.specs.declared.table.Tableau.{Tableau}
use Rattle.exact_simplex.specs.Tableaus.{Scaled, StandsFor, IsPositive, pivot_of}
use Rattle.exact_simplex.specs.Forms.{Parts, forms_of}
use Rattle.exact_simplex.specs.Start.{Reaches}
use Rattle.exact_simplex.specs.Cells.{cell_of, row_of, Shows}
use Rattle.exact_simplex.specs.Choices.{FirstCandidate, ChoiceFits, IsHeld}
use Rattle.exact_simplex.specs.Pivots.{PivotFits}

-- the tableau shows this one over one denominator, which stands for the program and is lexicographically positive; no unit is the row of the costs
pub record Stands (p : Parts) (at : Tableau) (t : Scaled) : Type 0 where
  pub rows : length at.cells ≡ suc (p.columns + p.rows + p.columns)
  pub shows : Shows p.columns at.cells at.units t
  pub stands : StandsFor p.columns (forms_of p) t
  pub positive : IsPositive p.columns t
  pub units : (k : ℕ) → k < p.columns → 1 ≤ t.unit k

-- the tableau stands for the program and is lexicographically positive
pub record IsStanding (p : Parts) (at : Tableau) : Type 0 where
  pub scaled : Scaled
  pub stands : Stands p at scaled

abbrev pub IsBelowNone : List (List Fraction) → ℕ → Type 0
IsBelowNone cells i = (cell_of (row_of cells i) 0).num <ℤ pos 0

-- no row from 1 on has a value below 0: the tableau is over and least
abbrev pub IsLeastTable : List (List Fraction) → Type 0
IsLeastTable cells = (i : ℕ) → 1 ≤ i → i < length cells → IsBelowNone cells i → ⊥

-- the first row from 1 on with a value below 0
pub record IsFirstBelow (cells : List (List Fraction)) (r : ℕ) : Type 0 where
  pub some : 1 ≤ r
  pub within : r < length cells
  pub below : IsBelowNone cells r
  pub first : (i : ℕ) → 1 ≤ i → i < r → IsBelowNone cells i → ⊥

-- the written pivot at row r and unit k: the row is the first below 0, the unit is chosen, and the choice and the pivot fit
pub record IsFittingPivot (n : ℕ) (cells : List (List Fraction)) (t : Scaled) (r k : ℕ) : Type 0 where
  pub below : IsFirstBelow cells r
  pub choice : ChoiceFits n cells t r
  pub held : IsHeld cells t r n k
  pub pivot : PivotFits cells r (suc k)

-- the tableau after so many written pivots from this one, each of which fits, with each one between
pub data IsWritten (p : Parts) (from : Scaled) : ℕ → Tableau → Scaled → Type 0 where
  begun : (at : Tableau) → Stands p at from → IsWritten p from 0 at from
  pivoted : (made : ℕ) (at next : Tableau) (t : Scaled) (r k : ℕ) → IsWritten p from made at t → IsFittingPivot p.columns at.cells t r k → Stands p next (pivot_of t r k) → IsWritten p from (suc made) next (pivot_of t r k)

-- the tableau stands for the program by the one over one denominator that so many written pivots reach from this one, each of which fits
pub record IsReached (p : Parts) (from : Scaled) (made : ℕ) (at : Tableau) (t : Scaled) : Type 0 where
  pub reaches : Reaches p.columns made from t
  pub stands : Stands p at t
  pub written : IsWritten p from made at t

abbrev pub FirstBelow : Option ℕ → List (List Fraction) → Type 0
FirstBelow None cells = IsLeastTable cells
FirstBelow (Some r) cells = IsFirstBelow cells r

-- whether the tableau is over: least, or empty at a row without a candidate; else its pivot row and first candidate
abbrev pub IsState : State → List (List Fraction) → ℕ → Type 0
IsState Least cells n = IsLeastTable cells
IsState (Empty row) cells n = IsFirstBelow cells row × FirstCandidate None cells row n
IsState (Open row first) cells n = IsFirstBelow cells row × FirstCandidate (Some first) cells row n

-- the written pivot at the row does not fit in its column, which is that of the chosen unit, or the choice of the column where that is None
abbrev pub WideAt : Option ℕ → ℕ → Tableau → Scaled → ℕ → Type 0
WideAt None n at t row = ChoiceFits n at.cells t row → ⊥
WideAt (Some column) n at t row = (k : ℕ) × (column ≡ suc k) × IsHeld at.cells t row n k × (PivotFits at.cells row column → ⊥)

-- the written pivot at the row was made, or it does not fit and the tableau is as before
abbrev pub AdvanceGives : Advance → Parts → Scaled → ℕ → Tableau → Tableau → ℕ → Scaled → Type 0
AdvanceGives (Made unit) p from made old new row t = IsReached p from (suc made) new (pivot_of t row unit)
AdvanceGives (Wide column) p from made old new row t = (new ≡ old) × WideAt column p.columns old t row
