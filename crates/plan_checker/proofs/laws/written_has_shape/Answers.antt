use Rattle.plan_checker.proofs.Written.{written-has_shape}
use Rattle.plan_checker.proofs.laws.written_has_shape.Goals as goal

pub returns : goal.returns
returns c = written-has_shape
