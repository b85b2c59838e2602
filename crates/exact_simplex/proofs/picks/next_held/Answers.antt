use Rattle.std.proofs.Common.{rules, suc}
use Rattle.exact_simplex.specs.Choices.{IsCandidate}
use Rattle.exact_simplex.proofs.HeldSteps.{next_same}
use Rattle.exact_simplex.proofs.picks.next_held.Goals as goal

pub returns-clause-gives : goal.returns-clause-gives
returns-clause-gives c = λ n t h within held.
    let none : IsCandidate c.args.cells.now c.args.place (suc c.args.other) → ⊥ = search rules in
    next_same n c.args.cells.now t c.args.place c.args.held c.args.other held none
