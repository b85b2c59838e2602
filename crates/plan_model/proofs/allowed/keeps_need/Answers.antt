use Rattle.std.proofs.Common.{◌≡◌, Bool, true, false, sym, ◌∙◌, ap}
use Rattle.std.specs.Prelude.{not, is_some}
use Rattle.plan_model.proofs.AllowedLaws.{keeps-no_loss}
use Rattle.plan_model.proofs.allowed.keeps_need.Goals as goal

flip : (b r : Bool) → b ≡ not r → r ≡ not b
flip b true e = sym (ap not e)
flip b false e = sym (ap not e)

pub returns : goal.returns
returns c =
    flip (is_some c.first_loss.result) c.is_none.result c.is_none.ensures
    ∙ ap (λ o. not (is_some o)) c.first_loss.ensures
    ∙ sym (keeps-no_loss c.args.case.now c.args.a.now c.args.r)
