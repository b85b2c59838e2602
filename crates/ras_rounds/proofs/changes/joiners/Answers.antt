use Rattle.std.proofs.Common.{◌<◌, ◌≤◌, [], ◌∷◌, ◌++◌, length, get_or, arith, ap, sym, ◌∙◌}
use Rattle.plan_model.specs.Units.{no_place}
use Rattle.plan_model.proofs.SumLemmas.{take-zip_all}
use Rattle.ras_rounds.proofs.MendSteps.{joining, joining-yes, joining-no}
use Rattle.ras_rounds.proofs.changes.joiners.Goals as goal
use Rattle.ras_rounds.proofs.changes.joiners.Goals.{then-differs+in_ok-push, else-differs}

pub loop-i-preserved : goal.loop-i-preserved
loop-i-preserved c =
    let xs = c.args.places.now in
    let ys = c.args.others.now in
    let inside : c.loop-i.i < length c.args.places.now = omega (arith, c.loop-i-test.true) in
    let within : c.loop-i.i < length c.args.others.now = omega (arith, c.requires, c.loop-i-test.true) in
    elim c.if-differs.branch [
      | then-differs+in_ok-push w ↦ ap (λ v. v.items) w.joiners-is ∙ w.in_ok-push.ensures.items ∙ ap (λ js. js ++ get_or ys c.loop-i.i no_place ∷ []) c.loop-i.invariant
          ∙ sym (joining-yes xs ys c.loop-i.i inside within (sym c.differs.ensures ∙ w.if-differs.true))
      | else-differs w ↦ ap (λ v. v.items) w.joiners-is ∙ c.loop-i.invariant
          ∙ sym (joining-no xs ys c.loop-i.i inside within (sym c.differs.ensures ∙ w.if-differs.false))
    ]

pub returns : goal.returns
returns c =
    let past : length c.args.places.now ≤ c.loop-i.i = omega (arith, c.loop-i-test.false) in
    c.loop-i.invariant ∙ ap joining (take-zip_all c.args.places.now c.args.others.now c.loop-i.i past)
