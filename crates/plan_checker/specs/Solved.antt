-- What the answer and the part of a phase keep.
use Rattle.std.specs.Prelude.{ℕ, ◌≡◌, ◌+◌, ◌*◌, ◌<◌, ◌≤◌, Bool, true, false, length, Option, None, IfSome}
use Rattle.std.specs.List.{list_all}
use Rattle.std.specs.Option.{IsSomeAnd}
use Rattle.plan_model.specs.declared.cases.Case.{Case}
use Rattle.plan_model.specs.declared.cases.Assignment.{Assignment}
use Rattle.plan_model.specs.declared.cases.Grouping.{Grouping}
use Rattle.ip_model.specs.Choices.{choices_of}
use Rattle.program_rows.specs.Accepted.{IsSpent}
use Rattle.program_rows.specs.Programs.{program_columns}
use Rattle.program_rows.specs.Settings.{Setting, phase_classes}
use Rattle.plan_document.specs.declared.document.Answer.{Answer}
use Rattle.plan_document.specs.declared.document.Answer.TheVariants as answer
use Rattle.plan_document.specs.declared.part.Part.{Part}
use Rattle.plan_checker.specs.Accepted.{IsRightPart, gap_of}
use Rattle.plan_checker.specs.Reasons.{is_closed}
use Rattle.plan_checker.specs.Shape.{GoesWith, PartInRange}
use Rattle.plan_checker.specs.Causes.{HasCauses}
use Rattle.plan_checker.specs.Points.{shows_points}

-- The part is right and has the members that go with the answer, its numbers are in range, and its tree has at most the budget's nodes. With answer plan the gap
-- is at most the wanted one, with answer infeasible all leaves are refuted, and with answer limit the budget is spent, and did not suffice for every choice of the
-- counts; what is known of the splits and leaves then, and of the plan, are its causes. Points are shown with answer limit alone. Where there is a first assignment, there
-- is a plan of at most its cost.
pub record IsSolved (case : Case) (setting : Setting) (how : Grouping) (allows : Assignment → Bool) (cost : Assignment → ℕ) (wanted budget : ℕ)
    (first : Option Assignment) (outcome : Answer) (part : Part) : Type 0 where
  pub right : IsRightPart case setting how allows cost part
  pub range : PartInRange case part
  pub members : GoesWith outcome part.plan part.lower None
  pub within : length part.tree.nodes ≤ budget
  pub close : outcome ≡ answer.Plan → IfSome part.plan (λ plan. plan.gap ≤ wanted)
  pub refuted : outcome ≡ answer.Infeasible → list_all is_closed part.tree.nodes ≡ true
  pub spent : outcome ≡ answer.Limit → IfSome part.lower (λ lower. IsSpent case setting how budget wanted (gap_of part.plan) lower part.tree.nodes)
  pub too_few : outcome ≡ answer.Limit → budget + 1 < 2 * choices_of (program_columns case setting (phase_classes case setting how))
  pub causes : outcome ≡ answer.Limit → HasCauses case setting how part
  pub points : (outcome ≡ answer.Limit → ⊥) → shows_points part.tree.nodes ≡ false
  pub no_worse : IfSome first (λ a. IsSomeAnd part.plan (λ plan. plan.value ≤ cost a))
