-- The exact point, duals and refutation of a tableau, and when a point or multipliers are these.
use Rattle.std.specs.Prelude.{ℕ, ◌≡◌, ◌+◌, ◌*◌, ◌<◌, ◌^◌, suc, List, length, slice_index, ℤ, pos, ◌-ℤ◌, ◌<ℤ◌, neg_ℤ, ◌⊎◌}
use Rattle.ip_model.specs.declared.parts.Bounds.{Bounds}
use Rattle.ip_model.specs.declared.point.Point.{Point}
use Rattle.ip_model.specs.declared.program.Program.{Program}
use Rattle.ip_model.specs.Points.{numerator}
use Rattle.bound_certificate.specs.declared.multipliers.Multipliers.{Multipliers}
use Rattle.bound_certificate.specs.Bound.{RowsInRange}
use Rattle.exact_fraction.specs.declared.fraction.Fraction.{Fraction}
use Rattle.exact_fraction.specs.Exact.{IsRatio}
use Rattle.exact_simplex.specs.declared.table.Tableau.{Tableau}
use Rattle.exact_simplex.specs.Cells.{cell_of, row_of}
use Rattle.exact_simplex.specs.Duals.{num_at, IsRounded}
use Rattle.exact_simplex.specs.Relaxing.{IsFirstBelow}

-- no row is the unit of two columns
abbrev pub UnitsDiffer : List ℕ → Type 0
UnitsDiffer units = (k l : ℕ) → k < length units → l < length units → slice_index units k ≡ slice_index units l → k ≡ l

-- the row is the surplus of program row i, where there are n columns
abbrev pub IsSurplus : ℕ → ℕ → ℕ → Type 0
IsSurplus n row i = row ≡ suc (n + i)

-- top / bottom is the weight that a row gives to program row i: its cell in the column, of the first ones, whose unit is that row's surplus, and 0 where there is none
pub record IsWeight (units : List ℕ) (row : List Fraction) (count i : ℕ) (top bottom : ℤ) : Type 0 where
  pub unit : (k : ℕ) → k < count → IsSurplus (length units) (slice_index units k) i → IsRatio (cell_of row (suc k)).num (cell_of row (suc k)).den top bottom
  pub other : ((k : ℕ) → k < count → IsSurplus (length units) (slice_index units k) i → ⊥) → top ≡ pos 0

-- top / bottom is the weight of program row i in the refutation by row r: the cell with its sign turned, 1 where r is itself that row's surplus, and else 0
pub record IsRefutingWeight (units : List ℕ) (row : List Fraction) (r i : ℕ) (top bottom : ℤ) : Type 0 where
  pub unit : (k : ℕ) → k < length units → IsSurplus (length units) (slice_index units k) i → IsRatio (neg_ℤ (cell_of row (suc k)).num) (cell_of row (suc k)).den top bottom
  pub own : IsSurplus (length units) r i → top ≡ bottom
  pub other : (IsSurplus (length units) r i → ⊥) → ((k : ℕ) → k < length units → IsSurplus (length units) (slice_index units k) i → ⊥) → top ≡ pos 0

-- the point is in each column its low number and the value of its step
pub record IsExactPoint (box : Bounds) (at : Tableau) (point : Point) : Type 0 where
  pub wholes : length point.whole ≡ length at.units
  pub parts : length point.part ≡ length at.units
  pub steps : (j : ℕ) → j < length at.units → IsRatio (cell_of (row_of at.cells (suc j)) 0).num (cell_of (row_of at.cells (suc j)) 0).den (pos (numerator point j) -ℤ pos (point.den * slice_index box.low j)) (pos point.den)

-- the multipliers are the weights that the row of the costs gives
pub record AreExactDuals (program : Program) (at : Tableau) (y : Multipliers) : Type 0 where
  pub there : RowsInRange program y
  pub weights : (i : ℕ) → i < length program.rows → IsWeight at.units (row_of at.cells 0) (length at.units) i (pos (num_at y.tops i)) (pos y.den)

-- the multipliers are the refutation by the first row with a value below 0
pub record AreExactRefutation (program : Program) (at : Tableau) (y : Multipliers) : Type 0 where
  pub row : ℕ
  pub below : IsFirstBelow at.cells row
  pub there : RowsInRange program y
  pub weights : (i : ℕ) → i < length program.rows → IsRefutingWeight at.units (row_of at.cells row) row i (pos (num_at y.tops i)) (pos y.den)

-- there are a point and multipliers that are the tableau's exact point and duals
pub record CertificateFits (program : Program) (box : Bounds) (at : Tableau) : Type 0 where
  pub point : Point
  pub duals : Multipliers
  pub is_point : IsExactPoint box at point
  pub are_duals : AreExactDuals program at duals

-- there are multipliers that are the tableau's exact refutation
pub record RefutationFits (program : Program) (at : Tableau) : Type 0 where
  pub duals : Multipliers
  pub are : AreExactRefutation program at duals

-- num / 2^40 is the weight that the row gives to program row i, rounded down
pub record IsRoundedWeight (units : List ℕ) (row : List Fraction) (i num : ℕ) : Type 0 where
  pub top : ℤ
  pub bottom : ℤ
  pub above : pos 0 <ℤ bottom
  pub weight : IsWeight units row (length units) i top bottom
  pub rounded : IsRounded top bottom num

-- the multipliers are the weights that the row of the costs gives, each rounded down
pub record AreRoundedDuals (program : Program) (at : Tableau) (y : Multipliers) : Type 0 where
  pub there : RowsInRange program y
  pub den : y.den ≡ 2 ^ 40
  pub weights : (i : ℕ) → i < length program.rows → IsRoundedWeight at.units (row_of at.cells 0) i (num_at y.tops i)

-- the duals that an answer without a certificate has: the exact duals where these fit, and else each weight rounded down
abbrev pub AreDualsOfStop : Program → Tableau → Multipliers → Type 0
AreDualsOfStop program at y = AreExactDuals program at y ⊎ (((z : Multipliers) → AreExactDuals program at z → ⊥) × AreRoundedDuals program at y)
