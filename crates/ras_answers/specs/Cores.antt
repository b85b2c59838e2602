-- What `core` answers.
use Rattle.std.specs.Prelude.{ℕ, ◌≡◌, ◌⊎◌, ⊤, List, [], ◌∷◌, ◌++◌, length, map, flat_map, codes, All, Some, Ok}
use Rattle.std.specs.List.{enumerate_from, remove}
use Rattle.ras_inventory.specs.RegionRule.{server_names}
use Rattle.ras_requests.specs.RequestsRule.{reservation_names}
use Rattle.ras_requests.specs.Requested.{Requested, requests_of}
use Rattle.ras_requests.specs.declared.all.Requests.{Requests}
use Rattle.program_rows.specs.declared.fault.SizeFault.{SizeFault}
use Rattle.plan_document.specs.declared.document.Document.{Document}
use Rattle.plan_document.specs.Documents.{document_of, seen_document}
use Rattle.plan_document.specs.Writable.{CanBeWritten}
use Rattle.plan_document.specs.Written.{document_text}
use Rattle.conflict_core.specs.declared.answer.CoreAnswer.{CoreAnswer}
use Rattle.conflict_core.specs.declared.answer.CoreAnswer.TheVariants.{Core, Fits, Limit}
use Rattle.conflict_core.specs.Kept.{AreMembers, all_members, kept_list}
use Rattle.conflict_core.specs.Answers.{IsCoreAnswer, IsFaultOf}
use Rattle.ras_texts.specs.Sets.{names_line}
use Rattle.ras_texts.specs.Verdicts.{accepted_text}
use Rattle.ras_answers.specs.declared.all.CaseFiles.{CaseFiles}
use Rattle.ras_answers.specs.declared.answer.Ending.{Ending}
use Rattle.ras_answers.specs.declared.answer.Ending.TheVariants as ending
use Rattle.ras_answers.specs.Answered.{Answered, Printed}
use Rattle.ras_answers.specs.ByCase.{CaseAnswers}
use Rattle.ras_answers.specs.Check.{CheckAnswers}
use Rattle.ras_answers.specs.Inputs.{AreCaseFiles}
use Rattle.ras_answers.specs.Solve.{size_answer}

-- a set of reservations, and a document of its case
abbrev pub Shown : Type 0
Shown = List ℕ × Document

-- the names of the reservations of a set
abbrev pub names_in : CaseFiles → List ℕ → List (List ℕ)
names_in files members = reservation_names (kept_list files.requests.list members)

-- the text of a document over the requests kept to its set
abbrev pub shown_text : CaseFiles → Shown → List ℕ
shown_text files shown = document_text (server_names files.region.servers) (names_in files shown.0) (seen_document shown.1)

-- over them it is read again as the same document
abbrev pub IsReadAgain : CaseFiles → Shown → Type 0
IsReadAgain files shown = document_of (server_names files.region.servers) (names_in files shown.0) (shown_text files shown) ≡ Ok (seen_document shown.1)

-- the set is one of the requests, and over them the document can be written
pub record CanBeShown (files : CaseFiles) (shown : Shown) : Type 0 where
  pub those : AreMembers (length files.requests.list) shown.0
  pub writable : CanBeWritten (server_names files.region.servers) (names_in files shown.0) shown.1

-- a text grew by the texts of these documents, and each is read again
pub record AddsShown (files : CaseFiles) (shown : List Shown) (before after : List ℕ) : Type 0 where
  pub text : after ≡ before ++ flat_map (shown_text files) shown
  pub again : All (IsReadAgain files) shown

-- each plan, with the set without the member in its place
abbrev pub without_each : List ℕ → List Document → List Shown
without_each members plans = map (λ plan. (remove members plan.0, plan.1)) (enumerate_from 0 plans)

-- the documents of an answer, each with its set, in the order in which they are printed
abbrev pub shown_of : Requests → CoreAnswer → List Shown
shown_of requests (Core members refutation plans) = (members, refutation) ∷ without_each members plans
shown_of requests (Fits plan) = (all_members requests, plan) ∷ []
shown_of requests (Limit over document) = (over, document) ∷ []

-- a core has a plan for each member
abbrev pub HasPlanForEach : CoreAnswer → Type 0
HasPlanForEach (Core members refutation plans) = length plans ≡ length members
HasPlanForEach (Fits plan) = ⊤
HasPlanForEach (Limit over document) = ⊤

-- what an answer prints can be written
pub record CanBePrinted (files : CaseFiles) (answer : CoreAnswer) : Type 0 where
  pub shown : All (CanBeShown files) (shown_of files.requests answer)
  pub many : HasPlanForEach answer

-- the line before them: the members of a core, or of the set on which the budget was spent
abbrev pub set_line : CaseFiles → CoreAnswer → List ℕ
set_line files (Core members refutation plans) = names_line (codes "core") (names_in files members)
set_line files (Fits plan) = []
set_line files (Limit over document) = names_line (codes "over") (names_in files over)

-- what an answer prints
abbrev pub core_text : CaseFiles → CoreAnswer → List ℕ
core_text files answer = set_line files answer ++ flat_map (shown_text files) (shown_of files.requests answer)

-- how a run ends that prints it
abbrev pub core_ending : CoreAnswer → Ending
core_ending (Core members refutation plans) = ending.Done
core_ending (Fits plan) = ending.Fits
core_ending (Limit over document) = ending.Limit

-- the text of an answer, of which each document is read again
pub record IsCoreText (files : CaseFiles) (answer : CoreAnswer) (text : List ℕ) : Type 0 where
  pub is : text ≡ core_text files answer
  pub again : All (IsReadAgain files) (shown_of files.requests answer)

-- that text is printed, and the run ends as the answer says
pub record IsPrintOf (files : CaseFiles) (answer : CoreAnswer) (a : Answered) : Type 0 where
  pub text : List ℕ
  pub is_text : IsCoreText files answer text
  pub printed : a ≡ Printed (core_ending answer) text

-- a core is printed, or what was found in its place
pub record IsCorePrinted (files : CaseFiles) (nodes : ℕ) (a : Answered) : Type 0 where
  pub answer : CoreAnswer
  pub found : IsCoreAnswer files.region files.requests files.bindings nodes answer
  pub print : IsPrintOf files answer a

-- the note on the program of some set, which is too large
pub record IsSetTooLarge (files : CaseFiles) (a : Answered) : Type 0 where
  pub fault : SizeFault
  pub some_set : IsFaultOf files.region files.requests files.bindings fault
  pub noted : size_answer fault ≡ Some a

abbrev pub IsCoreOf : CaseFiles → ℕ → Answered → Type 0
IsCoreOf files nodes a = IsCorePrinted files nodes a ⊎ IsSetTooLarge files a

-- what `core` answers to the bytes of an inventory, requests and bindings
abbrev pub CoreAnswers : List ℕ → List ℕ → List ℕ → ℕ → Answered → Type 0
CoreAnswers inventory requests bindings nodes a = CaseAnswers (λ files. IsCoreOf files nodes) inventory requests bindings a

-- what is seen of the requests kept to a set
abbrev pub seen_kept : Requests → List ℕ → Requested
seen_kept requests members = record { moves = requests.moves; list = kept_list requests.list members }

-- over a file of the requests kept to its set, `check` says yes to the text of a document
abbrev pub IsChecked : List ℕ → List ℕ → CaseFiles → Shown → Type 0
IsChecked inventory bindings files shown =
    (bytes : List ℕ) → requests_of bytes ≡ Ok (seen_kept files.requests shown.0)
    → CheckAnswers inventory bytes bindings (shown_text files shown) (Printed ending.Done (accepted_text shown.1))

-- what is printed is the text of an answer, and `check` says yes to each of its documents
pub record IsCheckedCore (inventory requests bindings : List ℕ) (text : List ℕ) : Type 0 where
  pub files : CaseFiles
  pub read : AreCaseFiles inventory requests bindings files
  pub answer : CoreAnswer
  pub is : text ≡ core_text files answer
  pub checked : All (IsChecked inventory bindings files) (shown_of files.requests answer)

abbrev pub CoreIsChecked : Type 0
CoreIsChecked =
    (inventory requests bindings : List ℕ) (nodes : ℕ) (end : Ending) (text : List ℕ) → CoreAnswers inventory requests bindings nodes (Printed end text)
    → IsCheckedCore inventory requests bindings text
