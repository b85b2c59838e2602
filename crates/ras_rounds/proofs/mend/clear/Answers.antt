use Rattle.std.proofs.Common.{◌<◌, false, length, get_or, set, arith, ap, sym, ◌∙◌}
use Rattle.ras_rounds.proofs.MendSteps.{clear-more}
use Rattle.ras_rounds.proofs.mend.clear.Goals as goal

pub loop-i-preserved : goal.loop-i-preserved
loop-i-preserved c =
    let within : c.loop-i.i < length c.args.members.now = omega (arith, c.loop-i-test.true) in
    c.clear_one.ensures ∙ ap (λ fs. set fs (get_or c.args.members.now c.loop-i.i 0) false) c.loop-i.invariant
    ∙ sym (clear-more c.args.members.now c.loop-i.i 0 c.args.flags.now.items within)
