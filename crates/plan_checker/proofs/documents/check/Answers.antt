use Rattle.std.proofs.Common.{sym, ◌∙◌, refl, ◌≡◌, Some, None, Option}
use Rattle.plan_checker.specs.declared.verdict.Reason.{Reason}
use Rattle.plan_checker.proofs.Promise.{promises}
use Rattle.plan_checker.proofs.Acceptance.{no_reason-accepted}
use Rattle.plan_checker.proofs.Accepting.{accepted-no_reason}
use Rattle.plan_checker.proofs.documents.check.Goals as goal

no_some : (o : Option Reason) (why : Reason) → o ≡ Some why → o ≡ None → ⊥
no_some o why e f = cc

pub returns-in-Some-clause-accepted : goal.returns-in-Some-clause-accepted
returns-in-Some-clause-accepted c = (
  λ yes. cc,
  λ is. absurd (no_some c.in_ok-reason.field-0 c.in-Some.reason c.in-Some.is (c.in_ok-reason.ensures ∙ accepted-no_reason c.args.case.now c.args.document.now c.requires is)),
)

pub returns-in-None-clause-accepted : goal.returns-in-None-clause-accepted
returns-in-None-clause-accepted c = (λ _. no_reason-accepted c.args.case.now c.args.document.now c.requires (sym c.in_ok-reason.ensures ∙ c.in-None.is), λ _. refl)

pub returns-in-None-clause-promises : goal.returns-in-None-clause-promises
returns-in-None-clause-promises c = λ _. promises c.args.case.now c.args.document.now c.requires (sym c.in_ok-reason.ensures ∙ c.in-None.is)
