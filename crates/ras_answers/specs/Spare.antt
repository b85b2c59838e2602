-- What `spare` answers.
use Rattle.std.specs.Prelude.{ℕ, ◌≡◌, List}
use Rattle.ras_inventory.specs.RegionRule.{server_names}
use Rattle.ras_requests.specs.RequestsRule.{reservation_names}
use Rattle.plan_model.specs.declared.cases.Assignment.{Assignment}
use Rattle.plan_model.specs.declared.cases.Case.{Case}
use Rattle.spare_pool.specs.declared.failure.Failure.{Failure}
use Rattle.spare_pool.specs.States.{state_at_start}
use Rattle.spare_text.specs.Texts.{IsSpareText}
use Rattle.ras_answers.specs.declared.all.Inputs.{Inputs}
use Rattle.ras_answers.specs.declared.answer.Ending.TheVariants as ending
use Rattle.ras_answers.specs.Answered.{Answered, Printed}
use Rattle.ras_answers.specs.Inputs.{failures_read}
use Rattle.ras_answers.specs.Target.{TargetAnswers}

-- the text of the run over the failures, from where each server serves what the target says
abbrev pub ReplacesFrom : Inputs → List Failure → Case → Assignment → Answered → Type 0
ReplacesFrom inputs failures case target a =
    (text : List ℕ) × (IsSpareText (server_names inputs.files.region.servers) (reservation_names inputs.files.requests.list) (state_at_start case target) failures text
    × (a ≡ Printed ending.Done text))

-- what `spare` answers to the bytes of an inventory, requests, bindings, a plan document and failures
abbrev pub SpareAnswers : List ℕ → List ℕ → List ℕ → List ℕ → List ℕ → Answered → Type 0
SpareAnswers inventory requests bindings plan failures a =
    TargetAnswers ReplacesFrom (λ servers. failures_read servers failures) inventory requests bindings plan a
