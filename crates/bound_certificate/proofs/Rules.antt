-- What the rules say of a node that breaks none.
use Rattle.std.proofs.Common.{◌≡◌, ℕ, ◌<◌, ◌≤◌, ◌≢◌, refl, arith, List, length, slice_index, Option, Some, None, Bool, true, false, not, ◌&&◌, ◌||◌, ◌⊎◌, if◌then◌else◌, nat_lt, nat_le}
use Rattle.std.proofs.lemmas.Int.{ints}
use Rattle.std.proofs.lemmas.Grind.{common_steps}
use Rattle.std.proofs.lemmas.Bool.{eqb-false}
use Rattle.ip_model.specs.declared.parts.Bounds.{Bounds}
use Rattle.ip_model.specs.declared.program.Program.{Program}
use Rattle.bound_certificate.specs.declared.multipliers.Multipliers.{Multipliers}
use Rattle.bound_certificate.specs.declared.tree.Node.{Node}
use Rattle.bound_certificate.specs.declared.tree.Node.TheVariants.{Split, Bound, Refute}
use Rattle.bound_certificate.specs.declared.tree.TreeWhy.{TreeWhy}
use Rattle.bound_certificate.specs.declared.tree.TreeWhy.TheVariants as why
use Rattle.bound_certificate.specs.Bound.{Refutes, RowsInRange}
use Rattle.bound_certificate.specs.Pending.{NodeFits}
use Rattle.bound_certificate.specs.Trees.{box_of, is_named, child_fits, rows_fit, broken_split, broken_rule, fault_of, sooner_fault}

-- no fault of a node, and none later
pub none_of_sooner : (i : ℕ) (here : Option TreeWhy) (later : Option (ℕ × TreeWhy)) → sooner_fault i here later ≡ None → (here ≡ None) × (later ≡ None)
none_of_sooner i None later h = (refl, h)
none_of_sooner i (Some rule) later h = cc

-- what the rules say of a child
pub record Child (count : ℕ) (earlier : List Node) (child : ℕ) : Type 0 where
  pub later : length earlier < child
  pub there : child < count
  pub unnamed : is_named earlier child ≡ false

child_fits_says : (count : ℕ) (earlier : List Node) (child : ℕ) → child_fits count earlier child ≡ true → Child count earlier child
child_fits_says count earlier child h = grind arith

nat_le-false : (m n : ℕ) → nat_le m n ≡ false → n < m
nat_le-false m n h = grind arith

nat_le-true : (m n : ℕ) → nat_le m n ≡ true → m ≤ n
nat_le-true m n h = grind arith

nat_lt-true : (m n : ℕ) → nat_lt m n ≡ true → m < n
nat_lt-true m n h = grind arith

three_tests : (a b c : Bool) (x y z : TreeWhy) → (if a then Some x else (if b then Some y else (if c then Some z else None))) ≡ None → (a ≡ false) × (b ≡ false) × (c ≡ false)
three_tests a b c x y z h = grind arith

both_and_not : (a b c : Bool) → not (a && (b && not c)) ≡ false → (a ≡ true) × (b ≡ true) × (c ≡ false)
both_and_not a b c h = grind arith

both_tests : (a b : Bool) → not (a && b) ≡ false → (a ≡ true) × (b ≡ true)
both_tests a b h = grind arith

-- a split that breaks no rule
pub record Rightly (program : Program) (count : ℕ) (earlier : List Node) (box : Bounds) (column at low high : ℕ) : Type 0 where
  pub there : column < length program.columns
  pub above : slice_index box.low column ≤ at
  pub below : at < slice_index box.high column
  pub low_child : Child count earlier low
  pub high_child : Child count earlier high
  pub apart : low ≢ high

pub split_rules : (program : Program) (count : ℕ) (earlier : List Node) (box : Bounds) (column at low high : ℕ) → broken_split program count earlier box column at low high ≡ None → Rightly program count earlier box column at low high
split_rules program count earlier box column at low high h =
    let tests = three_tests (nat_le (length program.columns) column) _ _ why.Column why.At why.Child h in
    let cut = both_tests (nat_le (slice_index box.low column) at) (nat_lt at (slice_index box.high column)) tests.1 in
    let children = both_and_not _ _ _ tests.2 in
    record {
      there = nat_le-false (length program.columns) column tests.0;
      above = nat_le-true (slice_index box.low column) at cut.0;
      below = nat_lt-true at (slice_index box.high column) cut.1;
      low_child = child_fits_says count earlier low children.0;
      high_child = child_fits_says count earlier high children.1;
      apart = eqb-false low high children.2;
    }

-- the rows of a leaf that breaks no rule are there
rows_there : (program : Program) (y : Multipliers) → rows_fit program y ≡ true → RowsInRange program y
rows_there program y h = grind (arith, common_steps)

unless_row : (b : Bool) (rest : Option TreeWhy) → (if b then rest else Some why.Row) ≡ None → b ≡ true
unless_row b rest h = grind arith

pub rule_says : (program : Program) (count : ℕ) (earlier : List Node) (box : Bounds) (node : Node) → broken_rule program count earlier box node ≡ None → NodeFits program count box node
rule_says program count earlier box (Split column at low high shown) h =
    let rules = split_rules program count earlier box column at low high h in
    (rules.there, rules.above, rules.below, rules.low_child.there, rules.high_child.there)
rule_says program count earlier box (Bound y) h = rows_there program y (unless_row (rows_fit program y) None h)
rule_says program count earlier box (Refute y) h = rows_there program y (unless_row (rows_fit program y) _ h)

pub refute_rules : (program : Program) (count : ℕ) (earlier : List Node) (box : Bounds) (y : Multipliers) → broken_rule program count earlier box (Refute y) ≡ None → Refutes program box y
refute_rules program count earlier box y h = grind (arith, ints)

no_first : (a : Bool) (rule : TreeWhy) (rest : Option TreeWhy) → (if a then Some rule else rest) ≡ None → rest ≡ None
no_first a rule rest h = grind arith

-- a node's own rules, where it breaks none
pub own_rules : (program : Program) (count : ℕ) (earlier : List Node) (node : Node) → fault_of program count earlier node ≡ None → broken_rule program count earlier (box_of program earlier (length earlier)) node ≡ None
own_rules program count earlier node h = no_first (nat_lt 0 (length earlier) && not (is_named earlier (length earlier))) why.Orphan _ h

pub choose : {A : Type 0} (a b : Bool) (x y z : A) → (a ≡ true → (if a then x else (if b then y else z)) ≡ x) × (a ≡ false → b ≡ true → (if a then x else (if b then y else z)) ≡ y) × (a ≡ false → b ≡ false → (if a then x else (if b then y else z)) ≡ z)
choose true b x y z = (λ h. refl, λ h k. absurd (cc), λ h k. absurd (cc))
choose false true x y z = (λ h. absurd (cc), λ h k. refl, λ h k. absurd (cc))
choose false false x y z = (λ h. absurd (cc), λ h k. absurd (cc), λ h k. refl)

pub either_named : (a b c : Bool) → (a ≡ true) ⊎ ((b ≡ true) ⊎ (c ≡ true)) → (a || (b || c)) ≡ true
either_named a b c h = grind arith
