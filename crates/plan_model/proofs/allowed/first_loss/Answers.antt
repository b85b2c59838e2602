use Rattle.std.proofs.Common.{◌≡◌, ◌≤◌, ap, arith, sym, ◌∙◌}
use Rattle.plan_model.specs.Units.{want_of, units}
use Rattle.plan_model.proofs.AllowedLaws.{first-named}
use Rattle.plan_model.proofs.allowed.first_loss.Goals as goal

pub returns : goal.returns
returns c =
    let enough : (want_of c.args.case.now c.args.r).need ≤ units c.args.case.now c.args.a.now c.args.r = omega (arith, ap (λ w. w.need) c.want_at.ensures.want, c.from-need.ensures, c.units-all.ensures.units, c.if-all-need.false) in
    c.first_named.ensures ∙ sym (first-named c.args.case.now c.args.a.now c.args.r enough)
