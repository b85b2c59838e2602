-- What `solve` answers, by what was read.
use Rattle.std.proofs.Common.{ℕ, ◌≡◌, sym, ap, subst, refl, List, Option, Some, None, Ok}
use Rattle.ras_inventory.specs.RegionRule.{server_names}
use Rattle.ras_requests.specs.RequestsRule.{reservation_names}
use Rattle.plan_document.specs.declared.document.Document.{Document}
use Rattle.plan_document.specs.Documents.{document_of, seen_document}
use Rattle.plan_checker.specs.declared.verdict.Verdict.TheVariants.{Yes}
use Rattle.plan_checker.specs.Reasons.{verdict_of}
use Rattle.ras_texts.specs.Verdicts.{accepted_text}
use Rattle.ras_answers.specs.declared.all.Inputs.{Inputs}
use Rattle.ras_answers.specs.declared.answer.Ending.{Ending}
use Rattle.ras_answers.specs.declared.answer.Ending.TheVariants as ending
use Rattle.ras_answers.specs.Check.{CheckAnswers}
use Rattle.plan_model.specs.declared.cases.Case.{Case}
use Rattle.plan_model.specs.Joined.{IsJoined}
use Rattle.plan_checker.specs.Solution.{IsSolution}
use Rattle.program_rows.specs.declared.fault.SizeFault.{SizeFault}
use Rattle.program_rows.specs.declared.fault.SizeFault.TheVariants.{Columns, Rows, Memory}
use Rattle.program_rows.specs.Sizes.{IsFault}
use Rattle.ras_answers.specs.declared.all.CaseFiles.{CaseFiles}
use Rattle.ras_answers.specs.declared.solving.Options.{Options}
use Rattle.ras_answers.specs.Answered.{Answered, Printed}
use Rattle.ras_answers.specs.ByCase.{ByCaseNote, CaseAnswers}
use Rattle.ras_answers.specs.Inputs.{AreCaseFiles, case_read, note_in}
use Rattle.ras_answers.specs.Solve.{IsSolvedBy, IsSolveOf, SolvedIsChecked, SolvesBy, ending_at, region_size, size_answer, text_over}
use Rattle.ras_answers.proofs.CheckLemmas.{answers-verdict}

-- by the size of the region's program
pub solves-document : (files : CaseFiles) (options : Options) (case : Case) (sized : Option SizeFault) (a : Answered) → sized ≡ None → IsSolvedBy files options case a
    → SolvesBy files options case sized a
solves-document files options case sized a fits solved = subst (λ (o : Option SizeFault). SolvesBy files options case o a) (sym fits) solved

pub solves-size : (files : CaseFiles) (options : Options) (case : Case) (sized : Option SizeFault) (fault : SizeFault) (a : Answered) → IsFault sized fault → size_answer fault ≡ Some a
    → SolvesBy files options case sized a
solves-size files options case sized (Columns n) a is told = subst (λ (o : Option SizeFault). SolvesBy files options case o a) (sym is) told
solves-size files options case sized (Rows n) a is told = subst (λ (o : Option SizeFault). SolvesBy files options case o a) (sym is) told
solves-size files options case sized Memory a is told = absurd cc

-- ---- what is printed is checked

-- the text of what is printed
pub printed-text : (e f : Ending) (s t : List ℕ) → Printed e s ≡ Printed f t → s ≡ t
printed-text e f s t same = cc

-- `check` says yes to a text that is read as a document that solves the case of the files
pub solution-checked : (i r b text : List ℕ) (files : CaseFiles) (case : Case) (gap nodes racks : ℕ) (document : Document) → AreCaseFiles i r b files
    → IsJoined files.region files.requests files.bindings case → IsSolution case gap nodes racks document
    → document_of (server_names files.region.servers) (reservation_names files.requests.list) text ≡ Ok (seen_document document)
    → CheckAnswers i r b text (Printed ending.Done (accepted_text document))
solution-checked i r b text files case gap nodes racks document read joined solution again =
    let inputs : Inputs = record { files = files; document = document } in
    answers-verdict i r b text inputs (Printed ending.Done (accepted_text document)) (record { files = read; document_is = again })
    (record {
      case = case;
      verdict = Yes;
      judged = record {
        joined = joined;
        first = sym (ap verdict_of solution.no_reason);
        accepted = ((λ same. solution.accepted), (λ accepted. refl));
        promises = λ same. solution.promises;
      };
      printed = refl;
    })

pub solved-is-checked : SolvedIsChecked
unfolding CaseAnswers
solved-is-checked i r b options end text h = by-note (note_in (case_read i r b)) h
  where
    by-size : (files : CaseFiles) (case : Case) → AreCaseFiles i r b files → IsJoined files.region files.requests files.bindings case
        → (sized : Option SizeFault) → SolvesBy files options case sized (Printed end text)
        → (document : Document) × CheckAnswers i r b text (Printed ending.Done (accepted_text document))
    by-size files case read joined (Some (Columns n)) told = absurd cc
    by-size files case read joined (Some (Rows n)) told = absurd cc
    by-size files case read joined (Some Memory) told = absurd cc
    by-size files case read joined None solved =
        let document = solved.document in
        let text_is : text ≡ text_over files document = printed-text end (ending_at document.answer) text (text_over files document) solved.printed.text in
        let again = subst (λ (t : List ℕ). document_of (server_names files.region.servers) (reservation_names files.requests.list) t ≡ Ok (seen_document document)) (sym text_is) solved.printed.again in
        (document, solution-checked i r b text files case options.gap options.nodes options.racks document read joined solved.solution again)

    by-note : (o : Option (List ℕ)) → ByCaseNote (λ files. IsSolveOf files options) i r b o (Printed end text) → (document : Document) × CheckAnswers i r b text (Printed ending.Done (accepted_text document))
    by-note (Some note) told = absurd cc
    by-note None on = by-size on.files on.answered.case on.read on.answered.joined (region_size on.answered.case) on.answered.solves
