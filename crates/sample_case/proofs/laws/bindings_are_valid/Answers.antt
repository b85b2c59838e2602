use Rattle.sample_case.proofs.Bindings.{bindings-valid}
use Rattle.sample_case.proofs.laws.bindings_are_valid.Goals as goal

pub returns : goal.returns
returns c = bindings-valid
