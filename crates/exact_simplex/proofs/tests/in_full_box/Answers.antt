use Rattle.bound_certificate.proofs.WalkSteps.{full_box_is_box}
use Rattle.exact_simplex.proofs.tests.in_full_box.Goals as goal

pub relax-requires : goal.relax-requires
relax-requires c = rw c.in_ok-bounds.ensures (full_box_is_box c.args.program.now)
