use Rattle.std.proofs.Common.{◌≡◌, arith, ap, take}
use Rattle.std.specs.Prelude.{sum}
use Rattle.plan_model.specs.declared.levels.Level.TheVariants.{Board}
use Rattle.plan_model.specs.Costs.{board_units}
use Rattle.plan_model.proofs.CaseFacts.{few-boards}
use Rattle.plan_model.proofs.PartSums.{sum-units_in_each-le}
use Rattle.plan_model.proofs.SumLemmas.{units-most}
use Rattle.plan_model.proofs.costs.terms.Goals as goal

pub board_terms-requires-clause-few : goal.board_terms-requires-clause-few
board_terms-requires-clause-few c =
    let all : take c.args.case.now.boards c.units_by_number-on.result ≡ board_units c.args.case.now c.args.a.now c.args.r = c.units_by_number-on.ensures c.args.case.now.boards (omega (arith, few-boards c.args.case.now)) in
    omega (arith, ap sum all, sum-units_in_each-le Board c.args.case.now c.args.a.now c.args.r c.args.case.now.boards, units-most c.args.case.now c.args.a.now c.args.r c.requires.fitting c.requires.in_range)

pub returns-clause-cost : goal.returns-clause-cost
returns-clause-cost c =
    let all : take c.args.case.now.boards c.units_by_number-on.result ≡ board_units c.args.case.now c.args.a.now c.args.r = c.units_by_number-on.ensures c.args.case.now.boards (omega (arith, few-boards c.args.case.now)) in
    cc
