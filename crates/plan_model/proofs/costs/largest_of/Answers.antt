use Rattle.std.proofs.Common.{arith}
use Rattle.plan_model.proofs.NumberLemmas.{greatest_more, greatest-le-sum}
use Rattle.std.proofs.lemmas.List.{take_all}
use Rattle.plan_model.proofs.costs.largest_of.Goals as goal

pub loop-amount-preserved : goal.loop-amount-preserved
loop-amount-preserved c =
    let more = greatest_more c.args.amounts.now c.loop-amount.amount-index (omega arith) in
    cc

pub returns-clause-largest : goal.returns-clause-largest
returns-clause-largest c =
    let all = take_all c.loop-amount.amount-index c.args.amounts.now (omega arith) in
    cc

pub returns-clause-most : goal.returns-clause-most
returns-clause-most c =
    let all = take_all c.loop-amount.amount-index c.args.amounts.now (omega arith) in
    grind (arith, all, greatest-le-sum c.args.amounts.now)
