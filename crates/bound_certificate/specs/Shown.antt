-- Points that show why splits were made.
use Rattle.std.specs.Prelude.{ℕ, ◌+◌, ◌*◌, ◌<◌, ◌≤◌, ◌==◌, ◌&&◌, nat_le, nat_lt, int_le, Bool, true, if◌then◌else◌, List, [], ◌∷◌, length, Option, Some, None, pos, ◌*ℤ◌, slice_index, ⊤}
use Rattle.std.specs.List.{list_all, range_with_len}
use Rattle.ip_model.specs.declared.parts.Bounds.{Bounds}
use Rattle.ip_model.specs.declared.point.Point.{Point}
use Rattle.ip_model.specs.declared.program.Program.{Program}
use Rattle.ip_model.specs.Points.{numerator, value_up_of, IsPointOf}
use Rattle.ip_model.specs.Sums.{terms_at}
use Rattle.bound_certificate.specs.declared.tree.Node.{Node}
use Rattle.bound_certificate.specs.declared.tree.Node.TheVariants.{Split, Bound, Refute}
use Rattle.bound_certificate.specs.Trees.{box_of}

-- it lies in the relaxation of the box, strictly between `at` and `at + 1` in the column, and its value, rounded up, is at most the bound
pub record Shows (program : Program) (box : Bounds) (column at lower : ℕ) (point : Point) : Type 0 where
  pub lies : IsPointOf program box point
  pub above : point.den * at < numerator point column
  pub below : numerator point column < point.den * (at + 1)
  pub value : value_up_of program point ≤ lower

-- a split that shows a point shows one that tells why it was made
abbrev pub IsShown : Program → ℕ → Bounds → Node → Type 0
IsShown program lower box (Split column at low high (Some point)) = Shows program box column at lower point
IsShown program lower box (Split column at low high None) = ⊤
IsShown program lower box (Bound y) = ⊤
IsShown program lower box (Refute y) = ⊤

-- each of these nodes, after the earlier ones, the latest of which stands first
abbrev pub AreShown : Program → ℕ → List Node → List Node → Type 0
AreShown program lower earlier [] = ⊤
AreShown program lower earlier (node ∷ nodes) = IsShown program lower (box_of program earlier (length earlier)) node × AreShown program lower (node ∷ earlier) nodes

-- ---- the same as tests

-- whether a point of fractions has one number for each column, lies in the box and meets each row
abbrev pub lies_in : Program → Bounds → Point → Bool
lies_in program box point =
    length point.whole == length program.columns && length point.part == length program.columns
    && list_all (λ j. nat_le (point.den * slice_index box.low j) (numerator point j) && nat_le (numerator point j) (point.den * slice_index box.high j)) (range_with_len 0 (length program.columns))
    && list_all (λ line. int_le (pos point.den *ℤ line.least) (terms_at line.terms (numerator point))) program.rows

abbrev pub strictly_between : Point → ℕ → ℕ → Bool
strictly_between point column at = nat_lt (point.den * at) (numerator point column) && nat_lt (numerator point column) (point.den * (at + 1))

abbrev pub point_shows : Program → Bounds → ℕ → ℕ → ℕ → Point → Bool
point_shows program box column at lower point = lies_in program box point && (strictly_between point column at && nat_le (value_up_of program point) lower)

abbrev pub node_shows : Program → ℕ → Bounds → Node → Bool
node_shows program lower box (Split column at low high (Some point)) = point_shows program box column at lower point
node_shows program lower box (Split column at low high None) = true
node_shows program lower box (Bound y) = true
node_shows program lower box (Refute y) = true

-- the first of these nodes, after the earlier ones, whose shown point does not tell why it was split
abbrev pub first_unshown : Program → ℕ → List Node → List Node → Option ℕ
first_unshown program lower earlier [] = None
first_unshown program lower earlier (node ∷ nodes) =
    if node_shows program lower (box_of program earlier (length earlier)) node then first_unshown program lower (node ∷ earlier) nodes else Some (length earlier)
