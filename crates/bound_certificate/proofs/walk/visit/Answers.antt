use Rattle.std.proofs.Common.{arith}
use Rattle.bound_certificate.proofs.Total.{high_in}
use Rattle.bound_certificate.proofs.walk.visit.Goals as goal

pub high_child-requires-clause-at : goal.high_child-requires-clause-at
high_child-requires-clause-at c =
    let fits = rw c.in-Split.is at c.requires.fits in
    omega (arith, fits.2, high_in c.args.program.now c.args.bounds.now c.requires.is_box c.in-Split.column)
