use Rattle.std.proofs.Common.{◌∙◌, ap, arith, ℕ, List}
use Rattle.ras_requests.specs.Drafts.{seen_units}
use Rattle.ras_requests.specs.declared.requests.Value.{Value}
use Rattle.ras_requests.proofs.LimitsLemmas.{on-ok, mapped-next}
use Rattle.ras_requests.proofs.limits.values_from.Goals as goal

pub loop-value-preserved : goal.loop-value-preserved
loop-value-preserved c =
    let value = c.value-item.result in
    let same = ap (λ (k : List ℕ). (let made : Value = record { kind = k; units = value.units } in made)) c.in_ok-kind.ensures in
    let push = on-ok c.push.result c.if-is_err.ensures.value c.push.ensures.ok in
    push ∙ mapped-next seen_units c.args.values.now c.loop-value.value-index value value c.loop-value.list _ (omega arith) c.loop-value.invariant c.value-item.is same
