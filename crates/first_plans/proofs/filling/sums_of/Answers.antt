use Rattle.std.proofs.Common.{◌+◌, arith, sym, subst}
use Rattle.plan_model.specs.declared.losses.Lost.TheVariants.{Board, Center}
use Rattle.plan_model.proofs.SumLemmas.{few-places}
use Rattle.first_plans.specs.declared.sums.Sums.{Sums}
use Rattle.first_plans.proofs.Running.{AreSumsOf, no-sums, more-sums, all-sums}
use Rattle.first_plans.proofs.filling.sums_of.Goals as goal

pub loop-server-init : goal.loop-server-init
loop-server-init c =
    subst (λ (sums : Sums). AreSumsOf c.args.case.now c.args.a.now c.args.r 0 sums) (sym c.none-sums.ensures) (no-sums c.args.case.now c.args.a.now c.args.r)

pub loop-server-preserved : goal.loop-server-preserved
loop-server-preserved c =
    subst (λ (sums : Sums). AreSumsOf c.args.case.now c.args.a.now c.args.r (c.loop-server.server + 1) sums) (sym c.add.ensures)
    (more-sums c.args.case.now c.args.a.now c.args.r c.loop-server.server c.place_at.result.now c.share.result c.loop-server.sums c.requires.fitting (omega arith)
    c.place_at.ensures.board c.place_at.ensures.center c.place_at.ensures.place c.share.ensures.value c.share.ensures.most c.loop-server.invariant)

pub add-requires-clause-on_board : goal.add-requires-clause-on_board
add-requires-clause-on_board c =
    omega (arith, c.loop-server.invariant.few_lost (Board c.place_at.result.now.board) c.place_at.ensures.board, few-places c.args.case.now)

pub add-requires-clause-in_center : goal.add-requires-clause-in_center
add-requires-clause-in_center c =
    omega (arith, c.loop-server.invariant.few_lost (Center c.place_at.result.now.center) c.place_at.ensures.center, few-places c.args.case.now)

pub returns : goal.returns
returns c = all-sums c.args.case.now c.args.a.now c.args.r c.loop-server.server c.loop-server.sums c.requires.fitting (omega arith) c.loop-server.invariant
