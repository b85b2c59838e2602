use Rattle.std.proofs.Common.{◌∙◌, ap}
use Rattle.ras_table.specs.Numbered.{after_number}
use Rattle.plan_model.proofs.JoinLemmas.{kinds-more}
use Rattle.plan_model.proofs.joins.kinds_of.Goals as goal

pub loop-value-preserved : goal.loop-value-preserved
loop-value-preserved c =
    let more = kinds-more c.args.values.now c.loop-value.value-index c.value-item.result c.requires.apart c.loop-value-test.true c.value-item.is in
    c.in_ok-number.ensures.names ∙ ap (λ names. after_number names c.value-item.result.kind) c.loop-value.invariant ∙ more
