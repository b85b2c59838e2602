-- The nodes of a tree of a program are in the ranges of the format.
use Rattle.std.proofs.Common.{◌≡◌, ℕ, zero, suc, ◌+◌, ◌*◌, ◌<◌, ◌≤◌, arith, Bool, true, false, ◌==◌, cond, List, [], ◌∷◌, length, map, slice_index, slice_set, Option, Some, None, All, mul-le-mul, ◌∙◌, sym, inl, inr}
use Rattle.std.specs.Prelude.{IfSome}
use Rattle.std.proofs.Math.Nat.{mul_comm}
use Rattle.std.proofs.lemmas.Bool.{cases_lt}
use Rattle.std.proofs.lemmas.List.Elements.{All-cons, All-nil}
use Rattle.ip_model.specs.declared.parts.Bounds.{Bounds}
use Rattle.ip_model.specs.declared.parts.Column.{Column}
use Rattle.ip_model.specs.declared.point.Point.{Point}
use Rattle.ip_model.specs.declared.program.Program.{Program}
use Rattle.ip_model.specs.Limits.{ColumnInRange}
use Rattle.ip_model.specs.Points.{full_box_of, IsPointOf}
use Rattle.ip_model.proofs.RuleFacts.{program_limits, point_range}
use Rattle.bound_certificate.specs.declared.multipliers.Multipliers.{Multipliers}
use Rattle.bound_certificate.specs.declared.tree.Node.{Node}
use Rattle.bound_certificate.specs.declared.tree.Node.TheVariants.{Split, Bound, Refute}
use Rattle.bound_certificate.specs.Trees.{low_side, high_side, box_of, fault_of, first_fault, fault_of_tree}
use Rattle.bound_certificate.specs.Shown.{IsShown, AreShown}
use Rattle.bound_certificate.proofs.Rules.{none_of_sooner, own_rules, rule_says, split_rules}
use Rattle.bound_certificate.proofs.WalkSteps.{same_default}
use Rattle.plan_document.specs.Writable.{PointIsEven, NodeIsInRange}
use Rattle.plan_checker.specs.Points.{shows_points}

-- ---- boxes

-- each column's high number is at most the greatest top
abbrev IsSmall : Bounds → Type 0
IsSmall box = (j : ℕ) → slice_index box.high j ≤ 20000000

top_small : (columns : List Column) (j : ℕ) → All ColumnInRange columns → slice_index (map (λ column. column.top) columns) j ≤ 20000000
top_small [] j h = omega arith
top_small (c ∷ cs) zero h = (h 0 c (omega arith)).top
top_small (c ∷ cs) (suc j) h = top_small cs j (λ k d p. h (suc k) d (omega arith))

full_small : (program : Program) → IsSmall (full_box_of program)
full_small program j = top_small program.columns j (program_limits program).columns_in

set_small : (xs : List ℕ) (i n most j : ℕ) → ((k : ℕ) → slice_index xs k ≤ most) → n ≤ most → slice_index (slice_set xs i n) j ≤ most
set_small [] i n most j h p = h j
set_small (x ∷ xs) zero n most zero h p = p
set_small (x ∷ xs) zero n most (suc j) h p = h (suc j)
set_small (x ∷ xs) (suc i) n most zero h p = h zero
set_small (x ∷ xs) (suc i) n most (suc j) h p = set_small xs i n most j (λ k. h (suc k)) p

low_small : (box : Bounds) (column at : ℕ) → IsSmall box → at ≤ 20000000 → IsSmall (low_side box column at)
low_small box column at small p j = set_small box.high column at 20000000 j small p

chosen_small : (a b : Bool) (x y z : Bounds) → IsSmall x → IsSmall y → IsSmall z → IsSmall (cond a x (cond b y z))
chosen_small true b x y z p q r = p
chosen_small false true x y z p q r = q
chosen_small false false x y z p q r = r

-- the boxes of nodes that are named by these
abbrev AreSmall : Program → List Node → Type 0
AreSmall program earlier = (k : ℕ) → IsSmall (box_of program earlier k)

split_small : (program : Program) (earlier : List Node) (column at low high : ℕ) (shown : Option Point) → AreSmall program earlier → at ≤ 20000000 → AreSmall program (Split column at low high shown ∷ earlier)
split_small program earlier column at low high shown small p k =
    let box = box_of program earlier (length earlier) in
    chosen_small (low == k) (high == k) (low_side box column at) (high_side box column at) (box_of program earlier k)
    (low_small box column at (small (length earlier)) p) (small (length earlier)) (small k)

-- ---- shown points

times_below : (whole part den most : ℕ) → 1 ≤ den → whole * den + part ≤ den * most → whole ≤ most
times_below whole part den most some h = elim (cases_lt most whole) [
  | inl above ↦
      let same : den ≤ den = omega arith in
      let next : most + 1 ≤ whole = omega arith in
      let more = mul-le-mul same next in
      absurd (omega (arith, h, more, some, mul_comm den whole))
  | inr below ↦ below
]

point_even : (program : Program) (box : Bounds) (point : Point) → IsSmall box → IsPointOf program box point → PointIsEven point
point_even program box point small is = record {
  even = is.wholes ∙ sym is.parts;
  wholes = λ k d p.
      let inside : k < length program.columns = omega (arith, p, is.wholes) in
      let same : point.den ≤ point.den = omega arith in
      let high = mul-le-mul same (small k) in
      let below = is.is_point.lies.below k inside in
      let sum : slice_index point.whole k * point.den + slice_index point.part k ≤ point.den * 20000000 = omega (arith, below, high) in
      let whole = times_below (slice_index point.whole k) (slice_index point.part k) point.den 20000000 (point_range point).den_above_none sum in
      omega (arith, whole, same_default point.whole k d 0 p);
}

shown_even : (program : Program) (lower column at low high : ℕ) (box : Bounds) (shown : Option Point) → IsSmall box → IsShown program lower box (Split column at low high shown) → IfSome shown PointIsEven
shown_even program lower column at low high box None small h = tt
shown_even program lower column at low high box (Some point) small h = point_even program box point small h.lies

-- ---- nodes

rows_small : (program : Program) (count : ℕ) (box : Bounds) (y : Multipliers) → All (λ t. t.row < length program.rows) y.tops → All (λ t. t.row ≤ 2047) y.tops
rows_small program count box y there k d p = let few = (program_limits program).few_rows in let row = there k d p in omega (arith, few, row)

-- the nodes from some node on of a tree that breaks no rule
in_range_from : (program : Program) (lower count : ℕ) (earlier nodes : List Node) → count ≤ 20000 → first_fault program count earlier nodes ≡ None → AreShown program lower earlier nodes → AreSmall program earlier
    → All NodeIsInRange nodes
in_range_from program lower count earlier [] few none shown small = All-nil NodeIsInRange
in_range_from program lower count earlier (Split column at low high point ∷ nodes) few none shown small =
    let node = Split column at low high point in
    let box = box_of program earlier (length earlier) in
    let faults = none_of_sooner (length earlier) (fault_of program count earlier node) _ none in
    let rules = split_rules program count earlier box column at low high (own_rules program count earlier node faults.0) in
    let columns = (program_limits program).few_columns in
    let within = small (length earlier) column in
    let cut : at ≤ 20000000 = omega (arith, within, rules.below) in
    All-cons NodeIsInRange node nodes
    (record {
      column_most = omega (arith, columns, rules.there);
      at_most = omega (arith, cut);
      low_most = omega (arith, few, rules.low_child.there);
      high_most = omega (arith, few, rules.high_child.there);
      shown_even = shown_even program lower column at low high box point (small (length earlier)) shown.0;
    })
    (in_range_from program lower count (node ∷ earlier) nodes few faults.1 shown.1 (split_small program earlier column at low high point small cut))
in_range_from program lower count earlier (Bound y ∷ nodes) few none shown small =
    let faults = none_of_sooner (length earlier) (fault_of program count earlier (Bound y)) _ none in
    let rules = rule_says program count earlier (box_of program earlier (length earlier)) (Bound y) (own_rules program count earlier (Bound y) faults.0) in
    All-cons NodeIsInRange (Bound y) nodes (rows_small program count (box_of program earlier (length earlier)) y rules)
    (in_range_from program lower count (Bound y ∷ earlier) nodes few faults.1 shown.1 small)
in_range_from program lower count earlier (Refute y ∷ nodes) few none shown small =
    let faults = none_of_sooner (length earlier) (fault_of program count earlier (Refute y)) _ none in
    let rules = rule_says program count earlier (box_of program earlier (length earlier)) (Refute y) (own_rules program count earlier (Refute y) faults.0) in
    All-cons NodeIsInRange (Refute y) nodes (rows_small program count (box_of program earlier (length earlier)) y rules)
    (in_range_from program lower count (Refute y ∷ earlier) nodes few faults.1 shown.1 small)

pub tree_in_range : (program : Program) (lower : ℕ) (nodes : List Node) → length nodes ≤ 20000 → fault_of_tree program nodes ≡ None → AreShown program lower [] nodes → All NodeIsInRange nodes
tree_in_range program lower nodes few none shown = in_range_from program lower (length nodes) [] nodes few none shown (λ k. full_small program)

-- ---- trees that show no points

pub unshown : (program : Program) (lower : ℕ) (earlier nodes : List Node) → shows_points nodes ≡ false → AreShown program lower earlier nodes
unshown program lower earlier [] h = tt
unshown program lower earlier (Split column at low high None ∷ nodes) h = (tt, unshown program lower (Split column at low high None ∷ earlier) nodes h)
unshown program lower earlier (Split column at low high (Some point) ∷ nodes) h = absurd (cc)
unshown program lower earlier (Bound y ∷ nodes) h = (tt, unshown program lower (Bound y ∷ earlier) nodes h)
unshown program lower earlier (Refute y ∷ nodes) h = (tt, unshown program lower (Refute y ∷ earlier) nodes h)
