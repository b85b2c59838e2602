-- What a command answers at the target of a plan, by what was read.
use Rattle.std.proofs.Common.{ℕ, ◌≡◌, sym, subst, refl, List, Option, Some, Result, Ok, Err}
use Rattle.ras_inventory.specs.RegionRule.{server_names}
use Rattle.plan_document.specs.Documents.{seen_document}
use Rattle.plan_model.specs.declared.cases.Assignment.{Assignment}
use Rattle.plan_model.specs.declared.cases.Case.{Case}
use Rattle.plan_checker.specs.declared.verdict.Reason.{Reason}
use Rattle.plan_checker.specs.declared.verdict.Verdict.{Verdict}
use Rattle.plan_checker.specs.declared.verdict.Verdict.TheVariants.{No, Yes}
use Rattle.ras_answers.specs.declared.all.Inputs.{Inputs}
use Rattle.ras_answers.specs.Answered.{Answered, Invalid}
use Rattle.ras_answers.specs.Check.{AreRead, verdict_answer}
use Rattle.ras_answers.specs.Inputs.{invalid_note}
use Rattle.ras_answers.specs.Target.{ByFirstNote, ByLines, ByVerdict, IsByVerdict, TargetAnswers}
use Rattle.ras_answers.proofs.InputLemmas.{all-read}

module _ {L : Type 0} (T : Inputs → L → Case → Assignment → Answered → Type 0) where
  pub answers-lines : (read : List (List ℕ) → Result L (List ℕ)) (i r b p : List ℕ) (inputs : Inputs) (a : Answered) → AreRead i r b p inputs
      → ByLines T inputs (read (server_names inputs.files.region.servers)) a → TargetAnswers T read i r b p a
  unfolding TargetAnswers
  answers-lines read i r b p inputs a are_read answered =
      let none = all-read i r b p inputs.files (seen_document inputs.document) are_read.files are_read.document_is in
      subst (λ (o : Option (List ℕ)). ByFirstNote T read i r b p o a) (sym none) (record { inputs = inputs; are_read = are_read; answered = answered })

  pub answers-first : (read : List (List ℕ) → Result L (List ℕ)) (i r b p : List ℕ) (note : List ℕ) → invalid_note i r b p ≡ Some note → TargetAnswers T read i r b p (Invalid note)
  unfolding TargetAnswers
  answers-first read i r b p note some = subst (λ (o : Option (List ℕ)). ByFirstNote T read i r b p o (Invalid note)) (sym some) refl

  pub lines-read : (inputs : Inputs) (read : Result L (List ℕ)) (lines : L) (a : Answered) → read ≡ Ok lines → IsByVerdict (T inputs lines) inputs a → ByLines T inputs read a
  lines-read inputs read lines a e answered = subst (λ (r : Result L (List ℕ)). ByLines T inputs r a) (sym e) answered

  pub lines-note : (inputs : Inputs) (read : Result L (List ℕ)) (note : List ℕ) → read ≡ Err note → ByLines T inputs read (Invalid note)
  lines-note inputs read note e = subst (λ (r : Result L (List ℕ)). ByLines T inputs r (Invalid note)) (sym e) refl

-- a verdict that is no is printed
pub by-no : (T : Case → Assignment → Answered → Type 0) (inputs : Inputs) (case : Case) (a : Answered) (verdict : Verdict) (reason : Reason) → verdict ≡ No reason → a ≡ verdict_answer inputs verdict
    → ByVerdict T inputs case verdict a
by-no T inputs case a Yes reason e h = absurd cc
by-no T inputs case a (No found) reason e h = h
