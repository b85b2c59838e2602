use Rattle.std.proofs.Common.{ℕ, Bool, true, false, None, get_or, take, length, ap, sym, ◌∙◌, arith}
use Rattle.std.specs.Prelude.{filter, nat_lt, ◌&&◌}
use Rattle.std.specs.List.{enumerate_from}
use Rattle.std.proofs.lemmas.List.{length_push, append-nil}
use Rattle.plan_model.specs.declared.cases.Goal.{Goal}
use Rattle.program_rows.proofs.Steps.{numbered-filter}
use Rattle.program_rows.proofs.sizes.count_shortages.Goals as goal
use Rattle.program_rows.proofs.sizes.count_shortages.Goals.{then-costs, else-costs}

pub loop-goal-preserved : goal.loop-goal-preserved
loop-goal-preserved c =
    let near = c.as_slice-near.result.now in
    let i = c.loop-goal.goal-index in
    let none : Goal = record { center = None; least = 0; weight = 0 } in
    let counts : ℕ × Goal → Bool = λ e. nat_lt 0 e.1.weight && nat_lt 0 e.1.least in
    let before = filter counts (enumerate_from 0 (take i near)) in
    elim c.if-costs.branch [
      | then-costs w ↦ (
          let more = ap length (numbered-filter counts near i none true c.loop-goal-test.true (sym c.costs.ensures ∙ w.if-costs.true)) in
          let sum = length_push before (i, get_or near i none) in
          (omega (arith, w.count-is, more, sum, c.loop-goal.invariant.0), omega (arith, w.count-is, c.loop-goal.invariant.1)))
      | else-costs w ↦ (
          let more = ap length (numbered-filter counts near i none false c.loop-goal-test.true (sym c.costs.ensures ∙ w.if-costs.false) ∙ append-nil before) in
          (omega (arith, w.count-is, more, c.loop-goal.invariant.0), omega (arith, w.count-is, c.loop-goal.invariant.1)))
    ]
