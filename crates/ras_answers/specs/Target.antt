-- What a command answers that takes an accepted plan to where the servers are to be.
use Rattle.std.specs.Prelude.{ℕ, ◌≡◌, List, codes, Option, Some, None, Result, Ok, Err}
use Rattle.ras_inventory.specs.RegionRule.{server_names}
use Rattle.plan_model.specs.declared.cases.Assignment.{Assignment}
use Rattle.plan_model.specs.declared.cases.Case.{Case}
use Rattle.plan_checker.specs.declared.verdict.Verdict.{Verdict}
use Rattle.plan_checker.specs.declared.verdict.Verdict.TheVariants.{Yes, No}
use Rattle.plan_checker.specs.Target.{target_of}
use Rattle.ras_answers.specs.declared.all.Inputs.{Inputs}
use Rattle.ras_answers.specs.declared.answer.Ending.TheVariants as ending
use Rattle.ras_answers.specs.Answered.{Answered, Printed, Invalid}
use Rattle.ras_answers.specs.Check.{AreRead, IsJudged, verdict_answer}
use Rattle.ras_answers.specs.Inputs.{invalid_note}

-- that there is no such assignment
abbrev pub no_target : Answered
no_target = Printed ending.NotAccepted (codes "no target\n")

-- what T says of a target in the case, or that there is none
abbrev pub ToTarget : (Case → Assignment → Answered → Type 0) → Case → Option Assignment → Answered → Type 0
ToTarget T case None a = a ≡ no_target
ToTarget T case (Some target) a = T case target a

-- the line of a verdict that is no, and what T says of the target where it is yes
abbrev pub ByVerdict : (Case → Assignment → Answered → Type 0) → Inputs → Case → Verdict → Answered → Type 0
ByVerdict T inputs case Yes a = ToTarget T case (target_of inputs.document) a
ByVerdict T inputs case (No reason) a = a ≡ verdict_answer inputs (No reason)

-- the same, in the case of the region, the requests and the bindings
pub record IsByVerdict (T : Case → Assignment → Answered → Type 0) (inputs : Inputs) (a : Answered) : Type 0 where
  pub case : Case
  pub verdict : Verdict
  pub judged : IsJudged inputs case verdict
  pub answered : ByVerdict T inputs case verdict a

-- by what a last file says: the note on its first fault, or what T says of its lines
abbrev pub ByLines : {L : Type 0} → (Inputs → L → Case → Assignment → Answered → Type 0) → Inputs → Result L (List ℕ) → Answered → Type 0
ByLines T inputs (Err note) a = a ≡ Invalid note
ByLines T inputs (Ok lines) a = IsByVerdict (T inputs lines) inputs a

-- the same over the bytes of the files; `read` is what the last one says, by the names of the servers
pub record IsByBytes {L : Type 0} (T : Inputs → L → Case → Assignment → Answered → Type 0) (read : List (List ℕ) → Result L (List ℕ)) (inventory requests bindings plan : List ℕ) (a : Answered)
    : Type 0 where
  pub inputs : Inputs
  pub are_read : AreRead inventory requests bindings plan inputs
  pub answered : ByLines T inputs (read (server_names inputs.files.region.servers)) a

-- the note on the first of the other files that is not valid, and then by the last
abbrev pub ByFirstNote : {L : Type 0} → (Inputs → L → Case → Assignment → Answered → Type 0) → (List (List ℕ) → Result L (List ℕ)) → List ℕ → List ℕ → List ℕ → List ℕ → Option (List ℕ) → Answered → Type 0
ByFirstNote T read inventory requests bindings plan (Some note) a = a ≡ Invalid note
ByFirstNote T read inventory requests bindings plan None a = IsByBytes T read inventory requests bindings plan a

-- what a command answers to the bytes of an inventory, requests, bindings, a plan document and a last file
unfoldable pub TargetAnswers : {L : Type 0} → (Inputs → L → Case → Assignment → Answered → Type 0) → (List (List ℕ) → Result L (List ℕ)) → List ℕ → List ℕ → List ℕ → List ℕ → Answered → Type 0
TargetAnswers T read inventory requests bindings plan a = ByFirstNote T read inventory requests bindings plan (invalid_note inventory requests bindings plan) a
