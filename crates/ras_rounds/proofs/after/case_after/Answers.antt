use Rattle.ras_rounds.proofs.AfterRule.{after-rule}
use Rattle.ras_rounds.proofs.after.case_after.Goals as goal

pub invariant_of-result : goal.invariant_of-result
invariant_of-result c =
    let rule = after-rule c.args.case.now c.args.mover.now c.requires.servers c.requires.reservations c.keeps_rule.ensures in
    record { kept = rw (c.in_ok-places_after.ensures, c.in_ok-copy.ensures) rule }
