-- What `solve` answers.
use Rattle.std.specs.Prelude.{ℕ, ◌≡◌, ◌++◌, List, codes, Option, Some, None, Ok}
use Rattle.ras_inventory.specs.RegionRule.{server_names}
use Rattle.ras_requests.specs.RequestsRule.{reservation_names}
use Rattle.plan_model.specs.declared.cases.Case.{Case}
use Rattle.plan_model.specs.declared.cases.Grouping.TheVariants.{Class}
use Rattle.plan_model.specs.Joined.{IsJoined}
use Rattle.program_rows.specs.declared.fault.SizeFault.{SizeFault}
use Rattle.program_rows.specs.declared.fault.SizeFault.TheVariants.{Columns, Rows, Memory}
use Rattle.program_rows.specs.Settings.{region_setting, phase_classes}
use Rattle.program_rows.specs.Sizes.{size_fault_of}
use Rattle.plan_document.specs.declared.document.Answer.{Answer}
use Rattle.plan_document.specs.declared.document.Answer.TheVariants as answer
use Rattle.plan_document.specs.declared.document.Document.{Document}
use Rattle.plan_document.specs.Documents.{document_of, seen_document}
use Rattle.plan_document.specs.Written.{document_text}
use Rattle.plan_checker.specs.Solution.{IsSolution}
use Rattle.ras_texts.specs.Notes.{columns_note, rows_note}
use Rattle.ras_texts.specs.Verdicts.{accepted_text}
use Rattle.ras_answers.specs.declared.all.CaseFiles.{CaseFiles}
use Rattle.ras_answers.specs.declared.answer.Ending.{Ending}
use Rattle.ras_answers.specs.declared.answer.Ending.TheVariants as ending
use Rattle.ras_answers.specs.declared.solving.Options.{Options}
use Rattle.ras_answers.specs.Answered.{Answered, Printed, Invalid}
use Rattle.ras_answers.specs.ByCase.{CaseAnswers}
use Rattle.ras_answers.specs.Check.{CheckAnswers}

-- how a run ends that prints a document with such an answer
abbrev pub ending_at : Answer → Ending
ending_at answer.Plan = ending.Done
ending_at answer.Infeasible = ending.Infeasible
ending_at answer.Limit = ending.Limit

-- the note on a program that is too large; want of memory is no size
abbrev pub size_answer : SizeFault → Option Answered
size_answer (Columns n) = Some (Invalid (columns_note n ++ codes "\n"))
size_answer (Rows n) = Some (Invalid (rows_note n ++ codes "\n"))
size_answer Memory = None

-- whether the program of the region, over classes, is too large: by its columns, or else by its rows
abbrev pub region_size : Case → Option SizeFault
region_size case = size_fault_of case (region_setting case) (phase_classes case (region_setting case) Class)

-- the text of a document over the names of the files
abbrev pub text_over : CaseFiles → Document → List ℕ
text_over files document = document_text (server_names files.region.servers) (reservation_names files.requests.list) (seen_document document)

-- the text is the document's, over the same files it is read again as the same document, and the run ends as the document's answer says
pub record IsPrinted (files : CaseFiles) (document : Document) (a : Answered) : Type 0 where
  pub text : a ≡ Printed (ending_at document.answer) (text_over files document)
  pub again : document_of (server_names files.region.servers) (reservation_names files.requests.list) (text_over files document) ≡ Ok (seen_document document)

-- the printed document solves the case for the options
pub record IsSolvedBy (files : CaseFiles) (options : Options) (case : Case) (a : Answered) : Type 0 where
  pub document : Document
  pub solution : IsSolution case options.gap options.nodes options.racks document
  pub printed : IsPrinted files document a

-- by the size of the region's program: the note where it is too large, or the document
abbrev pub SolvesBy : CaseFiles → Options → Case → Option SizeFault → Answered → Type 0
SolvesBy files options case (Some fault) a = size_answer fault ≡ Some a
SolvesBy files options case None a = IsSolvedBy files options case a

-- the document of the case that the region, the requests and the bindings join to, or the note on its size
pub record IsSolveOf (files : CaseFiles) (options : Options) (a : Answered) : Type 0 where
  pub case : Case
  pub joined : IsJoined files.region files.requests files.bindings case
  pub solves : SolvesBy files options case (region_size case) a

-- what `solve` answers to the bytes of an inventory, requests and bindings
abbrev pub SolveAnswers : List ℕ → List ℕ → List ℕ → Options → Answered → Type 0
SolveAnswers inventory requests bindings options a = CaseAnswers (λ files. IsSolveOf files options) inventory requests bindings a

-- where the document of a solution is printed, `check` says yes to the text over the same files
abbrev pub SolvedIsChecked : Type 0
SolvedIsChecked =
    (inventory requests bindings : List ℕ) (options : Options) (end : Ending) (text : List ℕ) → SolveAnswers inventory requests bindings options (Printed end text)
    → (document : Document) × CheckAnswers inventory requests bindings text (Printed ending.Done (accepted_text document))
