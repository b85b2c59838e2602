use Rattle.std.proofs.Common.{◌∙◌, ap, arith, ℕ, List}
use Rattle.ras_requests.specs.Drafts.{seen_aim}
use Rattle.ras_requests.specs.declared.requests.Near.{Near}
use Rattle.ras_requests.proofs.LimitsLemmas.{on-ok, mapped-next}
use Rattle.ras_requests.proofs.limits.near_from.Goals as goal

pub loop-aim-preserved : goal.loop-aim-preserved
loop-aim-preserved c =
    let aim = c.aim-item.result in
    let same = ap (λ (k : List ℕ). (let made : Near = record { center = k; least = aim.least; weight = aim.weight } in made)) c.in_ok-center.ensures in
    let push = on-ok c.push.result c.if-is_err.ensures.value c.push.ensures.ok in
    push ∙ mapped-next seen_aim c.args.near.now c.loop-aim.aim-index aim aim c.loop-aim.list _ (omega arith) c.loop-aim.invariant c.aim-item.is same
