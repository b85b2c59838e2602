-- What `check` answers, by what was read.
use Rattle.std.proofs.Common.{ℕ, ◌≡◌, sym, subst, refl, List, Option, Some, length}
use Rattle.ras_inventory.specs.RegionRule.{server_names}
use Rattle.ras_requests.specs.RequestsRule.{reservation_names}
use Rattle.plan_document.specs.Documents.{seen_document}
use Rattle.plan_model.specs.declared.cases.Case.{Case}
use Rattle.plan_checker.specs.Shape.{HasShape}
use Rattle.ras_answers.specs.declared.all.Inputs.{Inputs}
use Rattle.ras_answers.specs.Answered.{Answered, Invalid}
use Rattle.ras_answers.specs.Check.{AreRead, AnswersWith, CheckAnswers, IsVerdictOn}
use Rattle.ras_answers.specs.Inputs.{invalid_note}
use Rattle.ras_answers.proofs.InputLemmas.{all-read}
use Rattle.ras_answers.proofs.ShapeLemmas.{shape-read}

-- a document that was read has its shape in each case with these servers and reservations
pub shape-of : (i r b p : List ℕ) (inputs : Inputs) → AreRead i r b p inputs → (case : Case) → length (server_names inputs.files.region.servers) ≡ length case.places
    → length (reservation_names inputs.files.requests.list) ≡ length case.wants → HasShape case inputs.document
shape-of i r b p inputs read case places wants =
    shape-read case (server_names inputs.files.region.servers) (reservation_names inputs.files.requests.list) places wants p inputs.document read.document_is

pub answers-verdict : (i r b p : List ℕ) (inputs : Inputs) (a : Answered) → AreRead i r b p inputs → IsVerdictOn inputs a → CheckAnswers i r b p a
unfolding CheckAnswers
answers-verdict i r b p inputs a read verdict =
    let none = all-read i r b p inputs.files (seen_document inputs.document) read.files read.document_is in
    subst (λ (o : Option (List ℕ)). AnswersWith i r b p o a) (sym none) (record { inputs = inputs; read = read; verdict = verdict })

pub answers-note : (i r b p : List ℕ) (note : List ℕ) → invalid_note i r b p ≡ Some note → CheckAnswers i r b p (Invalid note)
unfolding CheckAnswers
answers-note i r b p note some = subst (λ (o : Option (List ℕ)). AnswersWith i r b p o (Invalid note)) (sym some) refl
