use Rattle.std.proofs.Common.{◌<◌, ◌≤◌, length, arith, ap, ◌∙◌, map}
use Rattle.plan_model.specs.declared.cases.Place.{Place}
use Rattle.plan_model.proofs.SumLemmas.{take-zip_all}
use Rattle.program_rows.proofs.Pushes.{pushed}
use Rattle.ras_rounds.specs.Rounds.{differs}
use Rattle.ras_rounds.proofs.MendSteps.{flags-more}
use Rattle.ras_rounds.proofs.changes.changed_flags.Goals as goal

pub loop-i-preserved : goal.loop-i-preserved
loop-i-preserved c =
    let inside : c.loop-i.i < length c.args.places.now = omega (arith, c.loop-i-test.true) in
    let within : c.loop-i.i < length c.args.others.now = omega (arith, c.requires, c.loop-i-test.true) in
    pushed c.in_ok-push.ensures.items c.loop-i.invariant c.differs.ensures (flags-more c.args.places.now c.args.others.now c.loop-i.i inside within)

pub returns : goal.returns
returns c =
    let past : length c.args.places.now ≤ c.loop-i.i = omega (arith, c.loop-i-test.false) in
    c.loop-i.invariant ∙ ap (map (λ (e : Place × Place). differs e.0 e.1)) (take-zip_all c.args.places.now c.args.others.now c.loop-i.i past)
