use Rattle.std.proofs.Common.{arith}
use Rattle.std.proofs.lemmas.Nat.Gcd.{IsGcd-from_zero}
use Rattle.exact_fraction.proofs.Twos.{by_difference, least_odd}
use Rattle.exact_fraction.proofs.halves.odd_gcd.Goals as goal

pub loop-y-preserved : goal.loop-y-preserved
loop-y-preserved c = (
  least_odd _ _ _ c.min-x.ensures c.loop-y.invariant.0 c.odd_part-odd.ensures.odd,
  λ g h. c.loop-y.invariant.1 g (c.odd_part-odd.ensures.gcd _ g c.loop-y.invariant.0 (by_difference _ _ _ _ g c.min-x.ensures c.abs_diff-y.ensures h)),
)

pub returns : goal.returns
returns c = c.loop-y.invariant.1 _ (IsGcd-from_zero _ _ (omega arith))
