-- What is known of a part whose search was stopped.
use Rattle.std.specs.Prelude.{ℕ, ◌≡◌, ◌≤◌, [], Option, Some, None, IfSome}
use Rattle.plan_model.specs.declared.cases.Case.{Case}
use Rattle.plan_model.specs.declared.cases.Grouping.{Grouping}
use Rattle.ip_model.specs.declared.program.Program.{Program}
use Rattle.exact_simplex.specs.Reasons.{AreReasoned, AreKnown}
use Rattle.program_rows.specs.Settings.{Setting}
use Rattle.program_rows.specs.Accepted.{phase_program}
use Rattle.steady_plans.specs.Steady.{IsSteady}
use Rattle.plan_document.specs.declared.part.Planned.{Planned}
use Rattle.plan_document.specs.declared.part.Part.{Part}

-- there is a plan of at most this value
abbrev pub HasPlanWithin : Option Planned → ℕ → Type 0
HasPlanWithin (Some plan) value = plan.value ≤ value
HasPlanWithin None value = ⊥

-- A point that a split shows lies strictly inside it, a split that shows none is licensed, and a leaf that is not refuted is tight. Where such a leaf
-- is not undecided, there is a plan of at most its bound. No change of one server makes the plan cheaper.
pub record HasCauses (case : Case) (setting : Setting) (how : Grouping) (part : Part) : Type 0 where
  pub program : Program
  pub is_program : phase_program case setting how ≡ Some program
  pub reasoned : AreReasoned program [] part.tree.nodes
  pub decided : AreKnown program (HasPlanWithin part.plan) [] part.tree.nodes
  pub steady : IfSome part.plan (λ plan. IsSteady case setting plan.of)
