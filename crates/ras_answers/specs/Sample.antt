-- What `sample` answers.
use Rattle.std.specs.Prelude.{ℕ, ◌≡◌, length}
use Rattle.ras_inventory.specs.declared.region.Region.{Region}
use Rattle.plan_model.specs.declared.cases.Case.{Case}
use Rattle.plan_model.specs.Joined.{IsJoined}
use Rattle.plan_document.specs.declared.document.Document.{Document}
use Rattle.plan_checker.specs.Solution.{IsSolution}
use Rattle.region_gen.specs.Files.{inventory_text, requests_text, bindings_text}
use Rattle.ras_texts.specs.Samples.{sample_text}
use Rattle.ras_answers.specs.declared.all.CaseFiles.{CaseFiles}
use Rattle.ras_answers.specs.declared.solving.Options.{Options}
use Rattle.ras_answers.specs.Answered.{Answered, Printed}
use Rattle.ras_answers.specs.Inputs.{AreCaseFiles}
use Rattle.ras_answers.specs.Solve.{ending_at}

-- what is asked of a solution where no option is given
abbrev pub default_options : Options
default_options = record { gap = 0; nodes = 100; racks = 4 }

-- the text of a document that solves the case for the options that no word gives, over a region; the run ends as the document's answer says
pub record IsSummary (region : Region) (case : Case) (a : Answered) : Type 0 where
  pub document : Document
  pub solution : IsSolution case default_options.gap default_options.nodes default_options.racks document
  pub printed : a ≡ Printed (ending_at document.answer) (sample_text (length region.servers) (length region.boards) document)

-- the files are those that the texts of a sample say, and the text is that of a document of the case that they join to
pub record IsSampleOf (number size : ℕ) (a : Answered) : Type 0 where
  pub files : CaseFiles
  pub read : AreCaseFiles (inventory_text number size) (requests_text size) (bindings_text number size) files
  pub case : Case
  pub joined : IsJoined files.region files.requests files.bindings case
  pub summary : IsSummary files.region case a

unfoldable pub SampleAnswers : ℕ → ℕ → Answered → Type 0
SampleAnswers number size a = IsSampleOf number size a
