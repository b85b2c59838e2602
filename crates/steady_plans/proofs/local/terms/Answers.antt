use Rattle.std.proofs.Common.{ℕ, ◌≤◌, List, length, arith, ap, sym, subst}
use Rattle.plan_model.proofs.CaseFacts.{few-boards}
use Rattle.steady_plans.specs.Tables.{cell}
use Rattle.steady_plans.proofs.Bounds.{reservation-small, cell-most}
use Rattle.steady_plans.proofs.Columns.{terms-are}
use Rattle.steady_plans.proofs.local.terms.Goals as goal

pub largest-most-requires-clause-small : goal.largest-most-requires-clause-small
largest-most-requires-clause-small c = reservation-small c.args.case.now c.args.r c.requires.there

pub largest-most-requires-clause-within : goal.largest-most-requires-clause-within
largest-most-requires-clause-within c = omega (arith, c.requires.sums.1.boards.size, ap length c.as_slice-boards.ensures.value)

pub largest-most-requires-clause-units : goal.largest-most-requires-clause-units
largest-most-requires-clause-units c = λ n within.
    subst (λ (cells : List ℕ). cell cells n c.args.r ≤ 20000000) (sym c.as_slice-boards.ensures.value)
    (cell-most c.args.case.now c.requires.sums.0 (λ s. s.board) c.args.case.now.boards c.args.sums.now.boards.items c.requires.sums.1.boards c.requires.sums.1.places n c.args.r within c.requires.there)

pub excess-over-requires-clause-small : goal.excess-over-requires-clause-small
excess-over-requires-clause-small c = reservation-small c.args.case.now c.args.r c.requires.there

pub excess-over-requires-clause-few : goal.excess-over-requires-clause-few
excess-over-requires-clause-few c = few-boards c.args.case.now

pub excess-over-requires-clause-within : goal.excess-over-requires-clause-within
excess-over-requires-clause-within c = omega (arith, c.requires.sums.1.boards.size, ap length c.as_slice-boards.ensures.value)

pub excess-over-requires-clause-units : goal.excess-over-requires-clause-units
excess-over-requires-clause-units c = λ n within.
    subst (λ (cells : List ℕ). cell cells n c.args.r ≤ 20000000) (sym c.as_slice-boards.ensures.value)
    (cell-most c.args.case.now c.requires.sums.0 (λ s. s.board) c.args.case.now.boards c.args.sums.now.boards.items c.requires.sums.1.boards c.requires.sums.1.places n c.args.r within c.requires.there)

pub shortages-short-requires-clause-within : goal.shortages-short-requires-clause-within
shortages-short-requires-clause-within c = omega (arith, c.requires.sums.1.centers.size, ap length c.as_slice-centers.ensures.value)

pub returns-clause-cost : goal.returns-clause-cost
returns-clause-cost c = λ a are.
    terms-are c.args.case.now a c.args.sums.now are c.args.r c.requires.there c.want_at-want.result.now c.as_slice-boards.result.now c.as_slice-centers.result.now
    c.from-buffer.result c.from-spread.result c.largest-most.result c.excess-over.result c.shortages-short.result
    c.want_at-want.ensures.want c.as_slice-boards.ensures.value c.as_slice-centers.ensures.value
    c.from-buffer.ensures c.from-spread.ensures c.largest-most.ensures.largest c.excess-over.ensures.excess c.shortages-short.ensures.cost
