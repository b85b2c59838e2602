use Rattle.std.proofs.Common.{arith, ◌<◌}
use Rattle.std.proofs.lemmas.Nat.Gcd.{IsGcd-swap}
use Rattle.exact_fraction.proofs.Twos.{odd_left, twos_divide, shifted_back}
use Rattle.exact_fraction.proofs.halves.narrow_gcd.Goals as goal

pub odd_gcd-requires : goal.odd_gcd-requires
odd_gcd-requires c = odd_left c.args.a (omega arith) c.ranges.a.fits

pub odd_gcd-requires-else-own-their : goal.odd_gcd-requires-else-own-their
odd_gcd-requires-else-own-their c = odd_left c.args.b (omega arith) c.ranges.b.fits

pub returns-then-own-their : goal.returns-then-own-their
returns-then-own-their c =
    let a : 0 < c.args.a = omega arith in
    let b : 0 < c.args.b = omega arith in
    shifted_back c.args.a c.args.b _ _ a c.ranges.a.fits (twos_divide c.args.a _ a c.ranges.a.fits (omega arith)) (twos_divide c.args.b _ b c.ranges.b.fits c.if-own-their.true) c.odd_gcd.ensures

pub returns-else-own-their : goal.returns-else-own-their
returns-else-own-their c =
    let a : 0 < c.args.a = omega arith in
    let b : 0 < c.args.b = omega arith in
    IsGcd-swap _ _ _ (shifted_back c.args.b c.args.a _ _ b c.ranges.b.fits (twos_divide c.args.b _ b c.ranges.b.fits (omega arith)) (twos_divide c.args.a _ a c.ranges.a.fits (omega arith)) c.odd_gcd-else-own-their.ensures)
