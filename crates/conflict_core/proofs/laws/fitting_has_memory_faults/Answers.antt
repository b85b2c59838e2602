use Rattle.conflict_core.proofs.Enough.{fitting-has-memory-faults}
use Rattle.conflict_core.proofs.laws.fitting_has_memory_faults.Goals as goal

pub returns : goal.returns
returns c = fitting-has-memory-faults
