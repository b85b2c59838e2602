-- Exact quotients.
use Rattle.std.proofs.Common.{◌≡◌, ℕ, zero, suc, ◌*◌, ◌/◌, ◌≤◌, ℤ, pos, negsuc, ◌*ℤ◌, neg_ℤ, unsigned_abs, refl, ap, arith, int_div}
use Rattle.std.proofs.lemmas.Int.{ints}
use Rattle.std.specs.Int.{◌∣◌}
use Rattle.std.proofs.Math.Nat.{div-mul_cancel, one-dvd}

neg_times : (n m : ℕ) → neg_ℤ (pos n) *ℤ pos m ≡ neg_ℤ (pos (n * m))
neg_times zero m = omega (arith, ints)
neg_times (suc n) m = omega (arith, ints)

pub exact : (z : ℤ) (g : ℕ) → 1 ≤ g → g ∣ unsigned_abs z → int_div z (pos g) *ℤ pos g ≡ z
exact (pos n) zero p h = absurd (omega arith)
exact (negsuc n) zero p h = absurd (omega arith)
exact (pos n) (suc g) p h = ap pos (div-mul_cancel (suc g) h)
exact (negsuc n) (suc g) p h = let e = div-mul_cancel (suc g) h in rw (neg_times (suc n / suc g) (suc g), e) refl

pub natural_quotient : (n g : ℕ) → 1 ≤ g → int_div (pos n) (pos g) ≡ pos (n / g)
natural_quotient n zero h = absurd (omega arith)
natural_quotient n (suc g) h = refl

pub by_one : (z : ℤ) → z ≡ int_div z (pos 1)
by_one z = let e = exact z 1 (omega arith) (one-dvd (unsigned_abs z)) in omega (arith, ints)
