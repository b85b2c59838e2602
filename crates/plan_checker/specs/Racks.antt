-- What follows a region part.
use Rattle.std.specs.Prelude.{ℕ, ◌≡◌, ◌<◌, [], length, Option, Some, None}
use Rattle.plan_model.specs.declared.cases.Case.{Case}
use Rattle.plan_model.specs.declared.cases.Assignment.{Assignment}
use Rattle.plan_model.specs.declared.cases.Grouping.TheVariants.{Class}
use Rattle.plan_model.specs.Costs.{rack_cost}
use Rattle.plan_model.specs.Rack.{rack_allowed}
use Rattle.program_rows.specs.Choice.{chosen_of}
use Rattle.program_rows.specs.Settings.{rack_setting}
use Rattle.plan_document.specs.declared.document.Answer.{Answer}
use Rattle.plan_document.specs.declared.document.Answer.TheVariants as answers
use Rattle.plan_document.specs.declared.part.Planned.{Planned}
use Rattle.plan_document.specs.declared.part.RackPart.{RackPart}
use Rattle.plan_checker.specs.Solved.{IsSolved}

-- the part of the rack phase over a region's assignment, with its answer
pub record IsRackOf (case : Case) (first : Assignment) (gap nodes racks : ℕ) (answer : Answer) (rack : RackPart) : Type 0 where
  pub chosen : rack.chosen ≡ chosen_of case first racks
  pub some : 0 < length rack.chosen
  pub solved : IsSolved case (rack_setting case first rack.chosen) Class (rack_allowed case first rack.chosen) (λ a. rack_cost case a rack.chosen) gap nodes (Some first) answer rack.part

-- What follows a region's assignment, and the answer of the document: nothing exactly where no reservation is chosen, and then that is a plan.
abbrev pub FollowsPlan : Case → Assignment → ℕ → ℕ → ℕ → Answer → Option RackPart → Type 0
FollowsPlan case first gap nodes racks last None = (chosen_of case first racks ≡ []) × (last ≡ answers.Plan)
FollowsPlan case first gap nodes racks last (Some rack) = IsRackOf case first gap nodes racks last rack

-- what follows a region part with that answer, and the answer of the document: nothing unless the region's answer is a plan
abbrev pub Follows : Case → ℕ → ℕ → ℕ → Answer → Option Planned → Answer → Option RackPart → Type 0
Follows case gap nodes racks answers.Plan (Some plan) last rack = FollowsPlan case plan.of gap nodes racks last rack
Follows case gap nodes racks answers.Plan None last rack = (rack ≡ None) × (last ≡ answers.Plan)
Follows case gap nodes racks answers.Infeasible plan last rack = (rack ≡ None) × (last ≡ answers.Infeasible)
Follows case gap nodes racks answers.Limit plan last rack = (rack ≡ None) × (last ≡ answers.Limit)
