-- What `check` answers.
use Rattle.std.specs.Prelude.{ℕ, ◌≡◌, ◌↔◌, List, Option, Some, None, Result, Ok, Err, IfSome}
use Rattle.ras_inventory.specs.RegionRule.{server_names}
use Rattle.ras_requests.specs.RequestsRule.{reservation_names}
use Rattle.plan_document.specs.Documents.{seen_document, document_of}
use Rattle.plan_model.specs.declared.cases.Case.{Case}
use Rattle.plan_model.specs.Joined.{IsJoined}
use Rattle.plan_checker.specs.declared.verdict.Verdict.{Verdict}
use Rattle.plan_checker.specs.declared.verdict.Verdict.TheVariants.{Yes, No}
use Rattle.plan_checker.specs.Accepted.{IsAccepted}
use Rattle.plan_checker.specs.Headline.{KeepsPromises}
use Rattle.plan_checker.specs.Reasons.{first_reason, verdict_of}
use Rattle.ras_texts.specs.Verdicts.{verdict_text}
use Rattle.ras_answers.specs.declared.answer.Ending.{Ending}
use Rattle.ras_answers.specs.declared.answer.Ending.TheVariants as ending
use Rattle.ras_answers.specs.declared.all.Inputs.{Inputs}
use Rattle.ras_answers.specs.declared.inputs.InputFault.{InputFault}
use Rattle.ras_answers.specs.Answered.{Answered, Printed, Invalid}
use Rattle.ras_answers.specs.Inputs.{AreCaseFiles, invalid_note, told}

-- the inputs are what the bytes of the files say
pub record AreRead (inventory requests bindings plan : List ℕ) (inputs : Inputs) : Type 0 where
  pub files : AreCaseFiles inventory requests bindings inputs.files
  pub document_is : document_of (server_names inputs.files.region.servers) (reservation_names inputs.files.requests.list) plan ≡ Ok (seen_document inputs.document)

-- the inputs, or the note on the first file that is not valid
abbrev pub GivesInputs : List ℕ → List ℕ → List ℕ → List ℕ → Result Inputs InputFault → Type 0
GivesInputs inventory requests bindings plan (Ok inputs) = AreRead inventory requests bindings plan inputs
GivesInputs inventory requests bindings plan (Err f) = IfSome (told f) (λ note. invalid_note inventory requests bindings plan ≡ Some note)

-- how a check ends
abbrev pub ending_of : Verdict → Ending
ending_of Yes = ending.Done
ending_of (No reason) = ending.NotAccepted

-- the verdict on a document in the case of its region, requests and bindings: by the first reason that holds, yes exactly
-- where the document is accepted, and then the document keeps its promises
pub record IsJudged (inputs : Inputs) (case : Case) (verdict : Verdict) : Type 0 where
  pub joined : IsJoined inputs.files.region inputs.files.requests inputs.files.bindings case
  pub first : verdict ≡ verdict_of (first_reason case inputs.document)
  pub accepted : (verdict ≡ Yes) ↔ IsAccepted case inputs.document
  pub promises : verdict ≡ Yes → KeepsPromises case inputs.document

-- the line of a verdict
abbrev pub verdict_answer : Inputs → Verdict → Answered
verdict_answer inputs verdict = Printed (ending_of verdict) (verdict_text inputs.files.region inputs.files.requests inputs.document verdict)

-- the verdict is printed
pub record IsVerdictOn (inputs : Inputs) (a : Answered) : Type 0 where
  pub case : Case
  pub verdict : Verdict
  pub judged : IsJudged inputs case verdict
  pub printed : a ≡ verdict_answer inputs verdict

pub record IsVerdictOnBytes (inventory requests bindings plan : List ℕ) (a : Answered) : Type 0 where
  pub inputs : Inputs
  pub read : AreRead inventory requests bindings plan inputs
  pub verdict : IsVerdictOn inputs a

-- the note on the first file that is not valid, and where all are valid the verdict
abbrev pub AnswersWith : List ℕ → List ℕ → List ℕ → List ℕ → Option (List ℕ) → Answered → Type 0
AnswersWith inventory requests bindings plan (Some note) a = a ≡ Invalid note
AnswersWith inventory requests bindings plan None a = IsVerdictOnBytes inventory requests bindings plan a

unfoldable pub CheckAnswers : List ℕ → List ℕ → List ℕ → List ℕ → Answered → Type 0
CheckAnswers inventory requests bindings plan a = AnswersWith inventory requests bindings plan (invalid_note inventory requests bindings plan) a
