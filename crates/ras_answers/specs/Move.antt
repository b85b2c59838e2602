-- What `move` answers.
use Rattle.std.specs.Prelude.{ℕ, ◌≡◌, List}
use Rattle.ras_inventory.specs.RegionRule.{server_names}
use Rattle.ras_requests.specs.RequestsRule.{reservation_names}
use Rattle.plan_model.specs.declared.cases.Assignment.{Assignment}
use Rattle.plan_model.specs.declared.cases.Case.{Case}
use Rattle.online_mover.specs.declared.timed.Timed.{Timed}
use Rattle.online_mover.specs.States.{state_at_start}
use Rattle.move_text.specs.Texts.{IsMoveText}
use Rattle.ras_answers.specs.declared.all.Inputs.{Inputs}
use Rattle.ras_answers.specs.declared.answer.Ending.TheVariants as ending
use Rattle.ras_answers.specs.Answered.{Answered, Printed}
use Rattle.ras_answers.specs.Inputs.{events_read}
use Rattle.ras_answers.specs.Target.{TargetAnswers}

-- the text of the run over the events from where the servers of the case are to the target, at most so many at once
abbrev pub MovesTo : ℕ → Inputs → List Timed → Case → Assignment → Answered → Type 0
MovesTo at_once inputs events case target a =
    (text : List ℕ) × (IsMoveText (server_names inputs.files.region.servers) (reservation_names inputs.files.requests.list) (state_at_start case target at_once) events text
    × (a ≡ Printed ending.Done text))

-- what `move` answers to the bytes of an inventory, requests, bindings, a plan document and events
abbrev pub MoveAnswers : List ℕ → List ℕ → List ℕ → List ℕ → List ℕ → ℕ → Answered → Type 0
MoveAnswers inventory requests bindings plan events at_once a =
    TargetAnswers (MovesTo at_once) (λ servers. events_read servers events) inventory requests bindings plan a
