use Rattle.std.proofs.Common.{sym, subst, List, ℕ}
use Rattle.ras_answers.specs.Cores.{IsCoreText}
use Rattle.conflict_core.specs.declared.answer.CoreAnswer.TheVariants.{Fits}
use Rattle.ras_answers.proofs.CoreLemmas.{whole-text, whole-writable}
use Rattle.ras_answers.proofs.cores.plan_text.Goals as goal

pub returns : goal.returns
returns c =
    let files = c.args.files.now in
    let plan = c.args.plan.now in
    subst (λ (text : List ℕ). IsCoreText files (Fits plan) text) (sym c.into_vec.ensures.items)
    (whole-text files plan c.in_ok-text.text c.in_ok-text.ensures.is (c.in_ok-text.ensures.again (whole-writable files plan c.requires)))
