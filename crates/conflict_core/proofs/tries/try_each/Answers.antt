use Rattle.std.proofs.Common.{◌+◌, arith, length}
use Rattle.conflict_core.proofs.Documents.{after-push, one-more}
use Rattle.conflict_core.proofs.Trying.{cut-are, met-plan}
use Rattle.conflict_core.proofs.tries.try_each.Goals as goal

pub try_set-requires-clause-those : goal.try_set-requires-clause-those
try_set-requires-clause-those g c =
    cut-are c.args.members.now c.in_ok-fewer.fewer c.loop-n.n (c.loop-n.n + 1) (length c.args.requests.now.list) c.in_ok-fewer.ensures (omega arith) c.requires.those

pub loop-n-preserved : goal.loop-n-preserved
loop-n-preserved g c =
    one-more c.args.region.now c.args.requests.now c.args.bindings.now c.args.members.now c.args.nodes c.loop-n.plans.items c.push.new.self.items c.in-Met.document c.loop-n.n c.in_ok-fewer.fewer
    (after-push c.push.result c.is_err.result c.loop-n.plans.items c.push.new.self.items c.in-Met.document c.is_err.ensures.value c.if-is_err.false c.push.ensures.items)
    c.in_ok-fewer.ensures
    (met-plan c.args.region.now c.args.requests.now c.args.bindings.now c.args.nodes c.in_ok-fewer.fewer c.in_ok-document.field-0 c.in-Met.document c.in-Met.is c.in_ok-document.ensures.tried)
    c.loop-n.invariant
