-- Phases that can be solved.
use Rattle.std.specs.Prelude.{ℕ, ◌≡◌, ◌+◌, ◌≤◌, true, List, Option, Some, None, ⊤}
use Rattle.plan_model.specs.declared.cases.Case.{Case}
use Rattle.plan_model.specs.declared.cases.Assignment.{Assignment}
use Rattle.plan_model.specs.declared.cases.Grouping.{Grouping}
use Rattle.plan_model.specs.Chosen.{AreChosen}
use Rattle.ip_model.specs.declared.program.Program.{Program}
use Rattle.symmetry_classes.specs.declared.groups.Class.{Class}
use Rattle.program_rows.specs.declared.phases.Phase.{Phase}
use Rattle.program_rows.specs.declared.phases.Phase.TheVariants.{Region, Rack}
use Rattle.ip_model.specs.Points.{IsWholePoint, value_of}
use Rattle.plan_document.specs.declared.part.Planned.{Planned}
use Rattle.program_rows.specs.Phases.{phase_allowed, phase_cost, start_allowed}
use Rattle.program_rows.specs.Settings.{Setting, setting_of, phase_classes}
use Rattle.class_expand.specs.Dealing.{IsProgramFor}

-- the chosen reservations of a rack phase are there, each at most once
abbrev pub HasChosen : Case → Phase → Type 0
HasChosen case Region = ⊤
HasChosen case (Rack from chosen) = AreChosen case chosen.now

-- the phase starts from an allowed assignment, and these are its classes and its program
pub record IsPrepared (case : Case) (phase : Phase) (how : Grouping) (classes : List Class) (program : Program) : Type 0 where
  pub start : start_allowed case phase ≡ true
  pub chosen : HasChosen case phase
  pub grouped : classes ≡ phase_classes case (setting_of case phase) how
  pub is_program : IsProgramFor case (setting_of case phase) classes program

-- the phase starts from an allowed assignment, and these are the classes of some grouping and its program
abbrev pub IsReady : Case → Phase → List Class → Program → Type 0
IsReady case phase classes program = (how : Grouping) × IsPrepared case phase how classes program

-- the point of the first assignment, if there is one: a whole point of that cost
abbrev pub IsFirstPoint : Program → (Assignment → ℕ) → Option Assignment → Option (List ℕ) → Type 0
IsFirstPoint program cost None None = ⊤
IsFirstPoint program cost None (Some point) = ⊥
IsFirstPoint program cost (Some a) None = ⊥
IsFirstPoint program cost (Some a) (Some point) = IsWholePoint program point × (value_of program point ≡ cost a)

-- a plan that the phase allows, of its cost, which is at most a point's value, and with its distance from a bound
pub record IsPlanOf (case : Case) (setting : Setting) (most lower : ℕ) (plan : Planned) : Type 0 where
  pub allowed : phase_allowed case setting plan.of ≡ true
  pub value : plan.value ≡ phase_cost case setting plan.of
  pub gap : plan.gap + lower ≡ plan.value
  pub no_more : plan.value ≤ most
  pub small : plan.value ≤ 141000000000000
