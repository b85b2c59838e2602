use Rattle.std.proofs.Common.{◌+◌, ◌-◌, arith, drop, take, length, refl}
use Rattle.ras_requests.proofs.LimitsLemmas.{centers-go, centers-stop, rest-is}
use Rattle.ras_requests.proofs.limits.centers_differ.Goals as goal

pub returns-then-has_center : goal.returns-then-has_center
returns-then-has_center c =
    centers-stop c.args.near.now (take (length c.args.near.now - (c.loop-i.i + 1)) (drop (c.loop-i.i + 1) c.args.near.now)) c.loop-i.i c.index-near-i.result _ c.bytes.result.now c.has_center.result _ (omega arith) c.loop-i.invariant
    (rest-is c.args.near.now (c.loop-i.i + 1)) refl c.bytes.ensures.bytes c.has_center.ensures c.if-has_center.true

pub loop-i-preserved : goal.loop-i-preserved
loop-i-preserved c =
    centers-go c.args.near.now (take (length c.args.near.now - (c.loop-i.i + 1)) (drop (c.loop-i.i + 1) c.args.near.now)) c.loop-i.i c.index-near-i.result _ c.bytes.result.now c.has_center.result _ (omega arith) c.loop-i.invariant
    (rest-is c.args.near.now (c.loop-i.i + 1)) refl c.bytes.ensures.bytes c.has_center.ensures c.if-has_center.false
