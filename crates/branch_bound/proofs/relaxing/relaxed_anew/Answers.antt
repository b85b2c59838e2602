use Rattle.exact_simplex.specs.Forms.{parts_of}
use Rattle.exact_simplex.specs.Start.{start_of}
use Rattle.branch_bound.proofs.RelaxFacts.{answer_of}
use Rattle.branch_bound.proofs.relaxing.relaxed_anew.Goals as goal

pub returns-clause-answer : goal.returns-clause-answer
returns-clause-answer c = answer_of c.args.program.now c.args.bounds.now (start_of (parts_of c.args.program.now c.args.bounds.now)) c.most_pivots.result c.in_ok-found.found c.in_ok-found.ensures.relaxed
