-- Numbers within 2^126, and fractions in lowest terms.
use Rattle.std.specs.Prelude.{◌≡◌, ◌≤◌, ◌^◌, ℤ, pos, unsigned_abs}
use Rattle.std.specs.Int.{IsGcd}

pub record IsSmall (n : ℤ) : Type 0 where
  pub most : unsigned_abs n ≤ 2 ^ 126

-- num over den is in lowest terms, den is above 0 and both are small
pub record IsLowest (num den : ℤ) : Type 0 where
  pub num_small : IsSmall num
  pub den_small : IsSmall den
  pub den_is : den ≡ pos (unsigned_abs den)
  pub den_above_none : 1 ≤ unsigned_abs den
  pub lowest : IsGcd (unsigned_abs num) (unsigned_abs den) 1
