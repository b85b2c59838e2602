use Rattle.plan_model.proofs.JoinRule.{joined-rule}
use Rattle.plan_model.proofs.joins.join.Goals as goal

pub invariant_of-result : goal.invariant_of-result
invariant_of-result c =
    let rule = joined-rule c.args.region.now c.args.requests.now c.args.bindings.now in
    record { kept = rw (c.in_ok-places_of.ensures, c.in_ok-wants_of.ensures, c.len.ensures, c.len-2.ensures, c.len-3.ensures, c.len-4.ensures) rule }
