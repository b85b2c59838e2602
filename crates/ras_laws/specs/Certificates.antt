-- Certificates of the worked examples, over the programs of their cases.
use Rattle.std.specs.Prelude.{ℕ, ◌≡◌, true, List, [], ◌∷◌, Option, Some, None, option_map, ℤ, pos, refl}
use Rattle.plan_model.specs.declared.cases.Case.{Case}
use Rattle.plan_model.specs.declared.cases.Grouping.{Grouping}
use Rattle.plan_model.specs.declared.cases.Grouping.TheVariants.{Single, Class}
use Rattle.ip_model.specs.declared.program.Program.{Program}
use Rattle.ip_model.specs.Programs.{program_from}
use Rattle.ip_model.specs.Points.{full_box_of}
use Rattle.bound_certificate.specs.declared.multipliers.Top.{Top}
use Rattle.bound_certificate.specs.declared.multipliers.Multipliers.{Multipliers}
use Rattle.bound_certificate.specs.declared.tree.Node.{Node}
use Rattle.bound_certificate.specs.declared.tree.Node.TheVariants.{Split, Bound}
use Rattle.bound_certificate.specs.declared.tree.Least.{Least}
use Rattle.bound_certificate.specs.declared.tree.Least.TheVariants.{At}
use Rattle.bound_certificate.specs.declared.tree.TreeWhy.{TreeWhy}
use Rattle.bound_certificate.specs.declared.tree.TreeWhy.TheVariants.{Child}
use Rattle.bound_certificate.specs.Rule.{multipliers_rule}
use Rattle.bound_certificate.specs.Bound.{leaf_bound, refutation}
use Rattle.bound_certificate.specs.Trees.{fault_of_tree, bound_of_tree}
use Rattle.program_rows.specs.Settings.{region_setting, phase_classes}
use Rattle.program_rows.specs.Programs.{program_base, program_columns, program_lines}
use Rattle.ras_laws.specs.Examples.{six_servers, three_servers}

-- the program of a case's region phase
abbrev pub region_program : Case → Grouping → Option Program
region_program case how =
    let classes = phase_classes case (region_setting case) how in
    program_from (program_base case (region_setting case)) (program_columns case (region_setting case) classes) (program_lines case (region_setting case) classes)

-- one multiplier for each of these rows, over the denominator
abbrev pub ones : List ℕ → List Top
ones [] = []
ones (row ∷ rows) = record { row = row; num = 1 } ∷ ones rows

abbrev pub multipliers : (den : ℕ) (tops : List Top) → multipliers_rule den tops ≡ true → Multipliers
multipliers den tops kept = record { den = den; tops = tops; kept = kept }

-- the bound that multipliers show in the full box
abbrev pub bound_of : Option Program → Multipliers → Option ℕ
bound_of program y = option_map (λ p. leaf_bound p (full_box_of p) y) program

-- the three losses, with the denominator 20, show a bound of 6: in the program of single servers they are rows 13 to 15,
-- in the program of classes rows 7 to 9
abbrev pub SixServersBound : Type 0
SixServersBound =
    (bound_of (region_program (six_servers 40 refl) Single) (multipliers 20 (ones (13 ∷ 14 ∷ 15 ∷ [])) refl) ≡ Some 6)
    × (bound_of (region_program (six_servers 40 refl) Class) (multipliers 20 (ones (7 ∷ 8 ∷ 9 ∷ [])) refl) ≡ Some 6)

-- with need 35 they show 105/20, which rounds up to 6
abbrev pub SixServersBoundRoundsUp : Type 0
SixServersBoundRoundsUp =
    (bound_of (region_program (six_servers 35 refl) Single) (multipliers 20 (ones (13 ∷ 14 ∷ 15 ∷ [])) refl) ≡ Some 6)
    × (bound_of (region_program (six_servers 35 refl) Class) (multipliers 20 (ones (7 ∷ 8 ∷ 9 ∷ [])) refl) ≡ Some 6)

-- with need 41 one loss alone refutes the full box: it asks for 41, and the servers that are left give 40
abbrev pub OneLossRefutes : Type 0
OneLossRefutes =
    option_map (λ p. refutation p (full_box_of p) (multipliers 1 (ones (13 ∷ [])) refl)) (region_program (six_servers 41 refl) Single) ≡ Some (pos 1)

-- the first server is left out, where two losses must be met by the other two; or it is taken, and the loss of its
-- switchboard asks for another one
abbrev pub split_tree : List Node
split_tree =
    Split 0 0 1 2 None
    ∷ Bound (multipliers 1 (record { row = 8; num = 2 } ∷ record { row = 9; num = 2 } ∷ []) refl)
    ∷ Bound (multipliers 1 (record { row = 7; num = 2 } ∷ []) refl)
    ∷ []

abbrev pub ThreeServersSplit : Type 0
ThreeServersSplit =
    (option_map (λ p. fault_of_tree p split_tree) (region_program (three_servers refl) Single) ≡ Some None)
    × (option_map (λ p. bound_of_tree p split_tree) (region_program (three_servers refl) Single) ≡ Some (At 4))

-- a split whose two children are one node breaks the rule of children at node 0
abbrev pub OneChildBreaksARule : Type 0
OneChildBreaksARule =
    option_map (λ p. fault_of_tree p (Split 0 0 1 1 None ∷ Bound (multipliers 1 [] refl) ∷ [])) (region_program (three_servers refl) Single)
    ≡ Some (Some (0, Child))
