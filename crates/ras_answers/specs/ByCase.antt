-- What a command answers to the files of a case.
use Rattle.std.specs.Prelude.{ℕ, ◌≡◌, List, Option, Some, None}
use Rattle.ras_answers.specs.declared.all.CaseFiles.{CaseFiles}
use Rattle.ras_answers.specs.Answered.{Answered, Invalid}
use Rattle.ras_answers.specs.Inputs.{AreCaseFiles, case_read, note_in}

-- T is true of the answer to what the bytes say
pub record IsByCase (T : CaseFiles → Answered → Type 0) (inventory requests bindings : List ℕ) (a : Answered) : Type 0 where
  pub files : CaseFiles
  pub read : AreCaseFiles inventory requests bindings files
  pub answered : T files a

-- the note on the first file that is not valid, and where all are valid by what they say
abbrev pub ByCaseNote : (CaseFiles → Answered → Type 0) → List ℕ → List ℕ → List ℕ → Option (List ℕ) → Answered → Type 0
ByCaseNote T inventory requests bindings (Some note) a = a ≡ Invalid note
ByCaseNote T inventory requests bindings None a = IsByCase T inventory requests bindings a

-- what a command answers to the bytes of an inventory, requests and bindings
unfoldable pub CaseAnswers : (CaseFiles → Answered → Type 0) → List ℕ → List ℕ → List ℕ → Answered → Type 0
CaseAnswers T inventory requests bindings a = ByCaseNote T inventory requests bindings (note_in (case_read inventory requests bindings)) a
