-- When a part of a document is right, and when a budget is spent. A part states a tree and numbers for the program of a phase and a grouping.
use Rattle.std.specs.Prelude.{ℕ, ◌≡◌, ◌+◌, ◌<◌, ◌≤◌, true, List, [], length, Option, Some, None, IfSome}
use Rattle.plan_model.specs.declared.cases.Case.{Case}
use Rattle.plan_model.specs.declared.cases.Grouping.{Grouping}
use Rattle.ip_model.specs.declared.program.Program.{Program}
use Rattle.ip_model.specs.Programs.{program_from}
use Rattle.bound_certificate.specs.declared.tree.Node.{Node}
use Rattle.bound_certificate.specs.declared.tree.Least.TheVariants.{At}
use Rattle.bound_certificate.specs.Trees.{fault_of_tree, bound_of_tree}
use Rattle.bound_certificate.specs.Shown.{AreShown}
use Rattle.program_rows.specs.Settings.{Setting, phase_classes}
use Rattle.program_rows.specs.Programs.{program_base, program_columns, program_lines, program_fits}

-- the program of a phase and a grouping, if it keeps the rule of programs
abbrev pub phase_program : Case → Setting → Grouping → Option Program
phase_program case setting how =
    let classes = phase_classes case setting how in
    program_from (program_base case setting) (program_columns case setting classes) (program_lines case setting classes)

-- the program fits the limits, the tree is one of that program, and the stated bound, if there is one, is the tree's
pub record IsRightTree (case : Case) (setting : Setting) (how : Grouping) (lower : Option ℕ) (nodes : List Node) : Type 0 where
  pub fits : program_fits case setting (phase_classes case setting how) ≡ true
  pub program : Program
  pub is_program : phase_program case setting how ≡ Some program
  pub is_tree : fault_of_tree program nodes ≡ None
  pub is_bound : IfSome lower (λ n. bound_of_tree program nodes ≡ At n)

-- The part's tree has n nodes with n at most the budget and the budget below n + 2, its gap, if it has a plan, is above the wanted gap, and its
-- shown points tell why their splits were made.
pub record IsSpent (case : Case) (setting : Setting) (how : Grouping) (budget wanted : ℕ) (gap : Option ℕ) (lower : ℕ) (nodes : List Node) : Type 0 where
  pub within : length nodes ≤ budget
  pub used : budget < length nodes + 2
  pub wide : IfSome gap (λ g. wanted < g)
  pub program : Program
  pub is_program : phase_program case setting how ≡ Some program
  pub shown : AreShown program lower [] nodes
