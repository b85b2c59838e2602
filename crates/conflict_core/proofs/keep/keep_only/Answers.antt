use Rattle.conflict_core.proofs.KeepRule.{kept-rule}
use Rattle.conflict_core.proofs.keep.keep_only.Goals as goal

pub invariant_of-result : goal.invariant_of-result
invariant_of-result c =
    let rule = kept-rule c.args.requests.now c.args.members.now c.requires in
    record { kept = rw (c.in_ok-kept_of.ensures, c.as_slice.ensures.items) rule }
