use Rattle.exact_fraction.proofs.Twos.{odd_left, with_twos}
use Rattle.exact_fraction.proofs.halves.odd_part.Goals as goal

pub returns-clause-odd : goal.returns-clause-odd
returns-clause-odd c = odd_left c.args.n c.requires c.ranges.n.fits

pub returns-clause-gcd : goal.returns-clause-gcd
returns-clause-gcd c x g odd h = with_twos c.args.n x g c.requires c.ranges.n.fits odd h
