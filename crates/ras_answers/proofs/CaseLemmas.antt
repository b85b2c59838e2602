-- What is answered to the files of a case, by what was read.
use Rattle.std.proofs.Common.{ℕ, ◌≡◌, sym, subst, refl, List, Option, Some}
use Rattle.ras_answers.specs.declared.all.CaseFiles.{CaseFiles}
use Rattle.ras_answers.specs.Answered.{Answered, Invalid}
use Rattle.ras_answers.specs.ByCase.{ByCaseNote, CaseAnswers}
use Rattle.ras_answers.specs.Inputs.{AreCaseFiles, case_read, note_in}
use Rattle.ras_answers.proofs.InputLemmas.{files-alone}

pub answers-files : (T : CaseFiles → Answered → Type 0) (i r b : List ℕ) (files : CaseFiles) (a : Answered) → AreCaseFiles i r b files → T files a → CaseAnswers T i r b a
unfolding CaseAnswers
answers-files T i r b files a read h =
    subst (λ (o : Option (List ℕ)). ByCaseNote T i r b o a) (sym (files-alone i r b files read)) (record { files = files; read = read; answered = h })

pub answers-note-on : (T : CaseFiles → Answered → Type 0) (i r b : List ℕ) (note : List ℕ) → note_in (case_read i r b) ≡ Some note → CaseAnswers T i r b (Invalid note)
unfolding CaseAnswers
answers-note-on T i r b note some = subst (λ (o : Option (List ℕ)). ByCaseNote T i r b o (Invalid note)) (sym some) refl
