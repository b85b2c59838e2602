use Rattle.std.proofs.Common.{subst, Option, IfSome}
use Rattle.exact_simplex.specs.declared.table.Tableau.{Tableau}
use Rattle.exact_simplex.specs.Forms.{parts_of}
use Rattle.exact_simplex.specs.Relaxing.{IsStanding}
use Rattle.branch_bound.proofs.RelaxFacts.{answer_on}
use Rattle.branch_bound.proofs.relaxing.relaxed_on.Goals as goal

pub returns-clause-answer : goal.returns-clause-answer
returns-clause-answer c =
    let standing = subst (λ (o : Option Tableau). IfSome o (λ at. IsStanding (parts_of c.args.program.now c.args.bounds.now) at)) c.in-Some-2.is c.in_ok-start.ensures.standing in
    answer_on c.args.program.now c.args.bounds.now c.in-Some-2.start c.most_pivots.result c.in_ok-found.found standing c.in_ok-found.ensures
