-- Numbers that are rounded down, by one doubling of the rest after the other.
use Rattle.std.proofs.Common.{◌≡◌, ℕ, ◌+◌, ◌*◌, ◌/◌, ◌%◌, ◌<◌, ◌≤◌, ◌^◌, pos, sym, ap, ◌∙◌, add-one, arith}
use Rattle.std.proofs.lemmas.Int.{ints}
use Rattle.std.proofs.Math.Nat.{pow-succ', mul-le-mul_right, lt_of_mul-lt-mul_right}
use Rattle.std.proofs.Math.Pow.{pow_mono}
use Rattle.exact_simplex.specs.Duals.{IsRounded}

-- num is 2^t * top over den, rounded down, and rest is what that leaves
pub record IsRoundedSoFar (top den t num rest : ℕ) : Type 0 where
  pub below : rest < den
  pub few : num < 2 ^ 20 * 2 ^ t
  pub is : num * den + rest ≡ 2 ^ t * top

split : (a b : ℕ) → 1 ≤ b → a / b * b + a % b ≡ a
split a b some = omega arith

less : (a b : ℕ) → 1 ≤ b → a % b < b
less a b some = omega arith

quotient_below : (a b n : ℕ) → 1 ≤ b → a < n * b → a / b < n
quotient_below a b n some h = let s = split a b some in lt_of_mul-lt-mul_right b (omega arith)

-- the doubled rest holds the denominator at most once
pub bit_most : (rest den : ℕ) → rest < den → 2 * rest / den < 2
bit_most rest den h = quotient_below (2 * rest) den 2 (omega arith) (omega arith)

doubled_is : (top den p num rest bit left : ℕ) → num * den + rest ≡ p * top → bit * den + left ≡ 2 * rest → (2 * num + bit) * den + left ≡ (2 * p) * top
doubled_is top den p num rest bit left h s = omega arith

pub rounded_more : (top den t num rest : ℕ) → IsRoundedSoFar top den t num rest → IsRoundedSoFar top den (t + 1) (2 * num + 2 * rest / den) (2 * rest % den)
rounded_more top den t num rest h =
    let some : 1 ≤ den = (let b = h.below in omega arith) in
    let double : 2 ^ (t + 1) ≡ 2 * 2 ^ t = rw add-one (pow-succ' 2 t) in
    let bit = bit_most rest den h.below in
    let few = h.few in
    record {
      below = less (2 * rest) den some;
      few = omega arith;
      is = doubled_is top den (2 ^ t) num rest (2 * rest / den) (2 * rest % den) h.is (split (2 * rest) den some) ∙ ap (λ p. p * top) (sym double);
    }

-- before the last doubling there is room for one more
pub room_to_double : (top den t num rest : ℕ) → t < 40 → IsRoundedSoFar top den t num rest → 2 * num + 2 ≤ 2 ^ 60
room_to_double top den t num rest h so_far =
    let most : 2 ^ t ≤ 2 ^ 39 = pow_mono {i = t} {j = 39} (omega arith) in
    let few = so_far.few in
    omega arith

pub rounded_end : (top den num rest : ℕ) → IsRoundedSoFar top den 40 num rest → IsRounded (pos top) (pos den) num
rounded_end top den num rest h =
    let few = h.few in
    let is = h.is in
    let below = h.below in
    record {
      most = omega arith;
      under = λ some. omega (arith, ints);
      greatest = λ m most under. (let over : m * den ≤ 2 ^ 40 * top = omega (arith, ints, under) in let one_more : m < num + 1 = lt_of_mul-lt-mul_right den (omega arith) in omega arith);
    }

-- from 2^20 on a number is rounded down to 2^60
pub rounded_largest : (top den : ℕ) → 1 ≤ den → 2 ^ 20 ≤ top / den → IsRounded (pos top) (pos den) (2 ^ 60)
rounded_largest top den some h =
    let s = split top den some in
    let wide : 2 ^ 20 * den ≤ top / den * den = mul-le-mul_right den h in
    let enough : 2 ^ 60 * den ≤ 2 ^ 40 * top = omega arith in
    record {
      most = omega arith;
      under = λ _. omega (arith, ints, enough);
      greatest = λ m most _. most;
    }
