use Rattle.ras_answers.proofs.JoinLemmas.{servers-many}
use Rattle.ras_answers.proofs.rounds.begin.Goals as goal

pub start-requires-clause-servers : goal.start-requires-clause-servers
start-requires-clause-servers c =
    servers-many c.args.read.files.region c.args.read.files.requests c.args.read.files.bindings c.in_ok-case.case c.requires.each c.in_ok-case.ensures
