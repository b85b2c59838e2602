use Rattle.std.proofs.Common.{◌≡◌, ℕ, subst, arith}
use Rattle.exact_simplex.proofs.RoundingSteps.{IsRoundedSoFar, bit_most, room_to_double, rounded_more, rounded_end, rounded_largest}
use Rattle.exact_simplex.proofs.multiples.rounded.Goals as goal

pub overflow_mul-num : goal.overflow_mul-num
overflow_mul-num c =
    let room = room_to_double c.args.top c.args.den c.loop-bit.bit c.loop-bit.num c.loop-bit.rest c.loop-bit-test.true c.loop-bit.invariant in
    omega arith

pub overflow_add-num : goal.overflow_add-num
overflow_add-num c =
    let room = room_to_double c.args.top c.args.den c.loop-bit.bit c.loop-bit.num c.loop-bit.rest c.loop-bit-test.true c.loop-bit.invariant in
    let bit = bit_most c.loop-bit.rest c.args.den c.loop-bit.invariant.below in
    omega arith

pub loop-bit-preserved : goal.loop-bit-preserved
loop-bit-preserved c = rounded_more c.args.top c.args.den c.loop-bit.bit c.loop-bit.num c.loop-bit.rest c.loop-bit.invariant

pub returns-then-whole : goal.returns-then-whole
returns-then-whole c = rounded_largest c.args.top c.args.den c.requires.some c.if-whole.true

pub returns : goal.returns
returns c =
    let end : c.loop-bit.bit ≡ 40 = omega arith in
    rounded_end c.args.top c.args.den c.loop-bit.num c.loop-bit.rest (subst (λ (t : ℕ). IsRoundedSoFar c.args.top c.args.den t c.loop-bit.num c.loop-bit.rest) end c.loop-bit.invariant)
