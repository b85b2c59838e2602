use Rattle.branch_bound.proofs.explore.explored_of.Goals as goal

pub halved-requires-clause-licensed : goal.halved-requires-clause-licensed
halved-requires-clause-licensed c = rw c.in-Wide.is at c.requires.licence

pub halved-requires-in-Misfit-clause-licensed : goal.halved-requires-in-Misfit-clause-licensed
halved-requires-in-Misfit-clause-licensed c = rw c.in-Misfit.is at c.requires.licence

pub halved-requires-in-Spent-clause-licensed : goal.halved-requires-in-Spent-clause-licensed
halved-requires-in-Spent-clause-licensed c = rw c.in-Spent.is at c.requires.licence
