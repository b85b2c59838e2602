-- The written choice of a pivot's column, and when it fits. Columns are numbered from 0 at the values.
use Rattle.std.specs.Prelude.{ℕ, ◌≡◌, ◌<◌, ◌≤◌, suc, Bool, true, false, Option, Some, None, List, length, ℤ, pos, ◌-ℤ◌, ◌*ℤ◌, ◌<ℤ◌, ◌⊎◌, if◌then◌else◌, ◌==◌}
use Rattle.std.specs.Ordering.{int_cmp}
use Rattle.std.specs.declared.cmp.Ordering.{Ordering}
use Rattle.exact_fraction.specs.declared.fraction.Fraction.{Fraction}
use Rattle.exact_fraction.specs.Exact.{IsRatio}
use Rattle.exact_simplex.specs.Tableaus.{Scaled, IsFirstAbove}
use Rattle.exact_simplex.specs.Cells.{cell_of, row_of, number_at, ShowsRow}
use Rattle.exact_simplex.specs.Pivots.{QuotientFits}

-- the order of a / p and b / q, over any scale; where not both are 0, both fit
pub record IsOrderOf (order : Ordering) (a p b q : Fraction) : Type 0 where
  pub scaled : (z u w v d : ℤ) → pos 0 <ℤ d → pos 0 <ℤ u → pos 0 <ℤ v → IsRatio a.num a.den z d → IsRatio p.num p.den u d → IsRatio b.num b.den w d → IsRatio q.num q.den v d → order ≡ int_cmp (z *ℤ v) (w *ℤ u)
  pub fits : ((a.num ≡ pos 0) × (b.num ≡ pos 0) → ⊥) → QuotientFits a p × QuotientFits b q

-- the quotients of columns k and l by row r are the same in row i
abbrev pub SameQuotients : Scaled → ℕ → ℕ → ℕ → ℕ → Type 0
SameQuotients t r k l i = number_at t i l *ℤ number_at t r k ≡ number_at t i k *ℤ number_at t r l

-- the quotients of column k by row r come before those of column l
abbrev pub IsBefore : Scaled → ℕ → ℕ → ℕ → Type 0
IsBefore t r k l = IsFirstAbove (λ i. number_at t i l *ℤ number_at t r k -ℤ number_at t i k *ℤ number_at t r l)

-- the quotients of columns k and l by row r are computed up to the first row where they differ, but for rows where both cells are 0: they fit
pub record CompareFits (cells : List (List Fraction)) (t : Scaled) (r k l : ℕ) : Type 0 where
  pub at : (i : ℕ) → i < length cells → ((j : ℕ) → j < i → SameQuotients t r k l j) → (((cell_of (row_of cells i) k).num ≡ pos 0) × ((cell_of (row_of cells i) l).num ≡ pos 0) → ⊥)
      → QuotientFits (cell_of (row_of cells i) k) (cell_of (row_of cells r) k) × QuotientFits (cell_of (row_of cells i) l) (cell_of (row_of cells r) l)

-- what a comparison of columns k and l answers: whether l comes before k, where it fits, or None where it does not
abbrev pub ComparisonGives : Option Bool → List (List Fraction) → Scaled → ℕ → ℕ → ℕ → Type 0
ComparisonGives None cells t r k l = CompareFits cells t r k l → ⊥
ComparisonGives (Some true) cells t r k l = IsBefore t r l k × CompareFits cells t r k l
ComparisonGives (Some false) cells t r k l = (IsBefore t r k l ⊎ ((i : ℕ) → i < length cells → SameQuotients t r k l i)) × CompareFits cells t r k l

-- the rows show a tableau over one denominator, with its pivot row's cells of two columns above 0
pub record ShowsPair (n : ℕ) (cells : List (List Fraction)) (t : Scaled) (r k l : ℕ) : Type 0 where
  pub scale : 1 ≤ t.scale
  pub rows : (i : ℕ) → i < length cells → ShowsRow n (row_of cells i) t i
  pub place : r < length cells
  pub first : k ≤ n
  pub second : l ≤ n
  pub first_above : pos 0 <ℤ number_at t r k
  pub second_above : pos 0 <ℤ number_at t r l

-- the cell of row r in column c is above 0
abbrev pub IsCandidate : List (List Fraction) → ℕ → ℕ → Type 0
IsCandidate cells r c = pos 0 <ℤ (cell_of (row_of cells r) c).num

-- the first unit whose column is a candidate
abbrev pub FirstCandidate : Option ℕ → List (List Fraction) → ℕ → ℕ → Type 0
FirstCandidate None cells r n = (k : ℕ) → k < n → IsCandidate cells r (suc k) → ⊥
FirstCandidate (Some first) cells r n = (first < n) × IsCandidate cells r (suc first) × ((k : ℕ) → k < first → IsCandidate cells r (suc k) → ⊥)

-- unit k is held once the units before l were seen: a candidate whose quotients come before those of each other one
pub record IsHeld (cells : List (List Fraction)) (t : Scaled) (r l k : ℕ) : Type 0 where
  pub column : k < l
  pub candidate : IsCandidate cells r (suc k)
  pub first : (j : ℕ) → j < l → (j ≡ k → ⊥) → IsCandidate cells r (suc j) → IsBefore t r (suc k) (suc j)

-- each comparison of the choice among the first n units at row r fits
pub record ChoiceFits (n : ℕ) (cells : List (List Fraction)) (t : Scaled) (r : ℕ) : Type 0 where
  pub at : (k l : ℕ) → l < n → IsHeld cells t r l k → IsCandidate cells r (suc l) → CompareFits cells t r (suc k) (suc l)

-- the rows show a tableau over one denominator whose unit rows are among them
pub record IsSetting (n : ℕ) (cells : List (List Fraction)) (t : Scaled) : Type 0 where
  pub scale : 1 ≤ t.scale
  pub rows : (i : ℕ) → i < length cells → ShowsRow n (row_of cells i) t i
  pub units_in : (k : ℕ) → k < n → t.unit k < length cells
  pub unit_factor : (k l : ℕ) → k < n → l < n → t.factor (t.unit k) l ≡ (if l == k then pos t.scale else pos 0)

-- the unit that is held once unit l was seen, where the comparisons with it fit
abbrev pub NextGives : Option ℕ → ℕ → List (List Fraction) → Scaled → ℕ → ℕ → Type 0
NextGives None n cells t r l = ChoiceFits n cells t r → ⊥
NextGives (Some next) n cells t r l = IsHeld cells t r (suc l) next × (ChoiceFits l cells t r → ChoiceFits (suc l) cells t r)

-- the choice gives the unit that is held at the end, where it fits, or None where it does not
abbrev pub ChoiceGives : Option ℕ → ℕ → List (List Fraction) → Scaled → ℕ → Type 0
ChoiceGives None n cells t r = ChoiceFits n cells t r → ⊥
ChoiceGives (Some chosen) n cells t r = IsHeld cells t r n chosen × ChoiceFits n cells t r
