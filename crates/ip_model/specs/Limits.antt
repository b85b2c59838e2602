-- The limits that a program always keeps.
use Rattle.std.specs.Prelude.{ℕ, ◌≡◌, ◌<◌, ◌≤◌, ◌^◌, List, length, All, AllPairs, pos, unsigned_abs, ◌≤ℤ◌, Bool, true, false, IsTrue, slice_index, slice_index_or, map}
use Rattle.ip_model.specs.declared.parts.Mark.{Mark}
use Rattle.ip_model.specs.declared.parts.Mark.TheVariants.{Count, Share, BoardExcess, Shortage, RackExcess}
use Rattle.ip_model.specs.declared.parts.Column.{Column}
use Rattle.ip_model.specs.declared.parts.Term.{Term}
use Rattle.ip_model.specs.declared.parts.Line.{Line}
use Rattle.ip_model.specs.Sums.{terms_at}

abbrev pub is_helper : Mark → Bool
is_helper (Count class to) = false
is_helper (Share r) = true
is_helper (BoardExcess r board) = true
is_helper (Shortage r entry) = true
is_helper (RackExcess r rack) = true

abbrev pub top_of : List Column → ℕ → ℕ
top_of columns j = slice_index (map (λ c. c.top) columns) j

abbrev pub cost_of : List Column → ℕ → ℕ
cost_of columns j = slice_index (map (λ c. c.cost) columns) j

-- whether column j is a helper
abbrev pub helper_at : List Column → ℕ → Bool
helper_at columns j = slice_index_or (map (λ c. is_helper c.mark) columns) j false

pub record ColumnInRange (c : Column) : Type 0 where
  pub cost : c.cost ≤ 10000
  pub top : c.top ≤ 20000000
  pub helper_costs : IsTrue (is_helper c.mark) → 1 ≤ c.cost

pub record TermInRange (columns : List Column) (t : Term) : Type 0 where
  pub column : t.column < length columns
  pub above_none : 1 ≤ unsigned_abs t.factor
  pub factor : unsigned_abs t.factor ≤ 1000
  pub helper_factor : IsTrue (helper_at columns t.column) → t.factor ≡ pos 1

-- numbers of the columns within their tops, where each helper is at its top
pub record HelpersAtTop (columns : List Column) (x : ℕ → ℕ) : Type 0 where
  pub within : (j : ℕ) → x j ≤ top_of columns j
  pub helpers : (j : ℕ) → IsTrue (helper_at columns j) → x j ≡ top_of columns j

pub record LineInRange (columns : List Column) (line : Line) : Type 0 where
  pub least : unsigned_abs line.least ≤ 20000000
  pub terms : All (TermInRange columns) line.terms
  pub rising : AllPairs (λ s t. s.column < t.column) line.terms
  pub one_helper : AllPairs (λ s t. IsTrue (helper_at columns s.column) → IsTrue (helper_at columns t.column) → t.column < s.column) line.terms
  pub helper_serves : All (λ t. IsTrue (helper_at columns t.column) → (x : ℕ → ℕ) → HelpersAtTop columns x → line.least ≤ℤ terms_at line.terms x) line.terms

pub record KeepsLimits (base : ℕ) (columns : List Column) (rows : List Line) : Type 0 where
  pub few_columns : length columns ≤ 2048
  pub few_rows : length rows ≤ 2048
  pub base_bound : base ≤ 2 ^ 48
  pub columns_in : All ColumnInRange columns
  pub rows_in : All (LineInRange columns) rows
