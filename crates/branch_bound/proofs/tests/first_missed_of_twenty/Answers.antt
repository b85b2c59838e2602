use Rattle.std.proofs.Common.{refl}
use Rattle.branch_bound.proofs.tests.first_missed_of_twenty.Goals as goal

pub first_missed-requires : goal.first_missed-requires
first_missed-requires c = refl
