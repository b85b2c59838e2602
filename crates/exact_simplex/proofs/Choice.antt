-- The choice of the column: the order of the candidates' quotients is transitive.
use Rattle.std.proofs.Common.{◌≡◌, ℕ, zero, suc, ℤ, pos, negsuc, ◌-ℤ◌, ◌*ℤ◌, ◌<ℤ◌, refl, arith}
use Rattle.std.proofs.lemmas.Int.{ints}
use Rattle.exact_simplex.specs.Tableaus.{Scaled, IsFirstAbove}
use Rattle.exact_simplex.proofs.Ring.{none_times, chain}
use Rattle.exact_simplex.proofs.Order.{first_above-same, first_above-scale, first_above-add}

-- column k's quotients by row r come before those of column l
abbrev pub ComesBefore : Scaled → ℕ → ℕ → ℕ → Type 0
ComesBefore t r k l = IsFirstAbove (λ i. t.factor i l *ℤ t.factor r k -ℤ t.factor i k *ℤ t.factor r l)

pub factor_above : (a b : ℤ) → pos 0 <ℤ b → pos 0 <ℤ (a *ℤ b) → pos 0 <ℤ a
factor_above (pos zero) b p h = absurd (let z = none_times b in omega (arith, ints))
factor_above (pos (suc n)) b p h = omega (arith, ints)
factor_above (negsuc n) (pos (suc m)) p h = absurd (omega (arith, ints))
factor_above (negsuc n) (pos zero) p h = absurd (omega (arith, ints))
factor_above (negsuc n) (negsuc m) p h = absurd (omega (arith, ints))

pub factor_none : (a b : ℤ) → pos 0 <ℤ b → a *ℤ b ≡ pos 0 → a ≡ pos 0
factor_none (pos zero) b p h = refl
factor_none (pos (suc n)) (pos (suc m)) p h = absurd (omega (arith, ints))
factor_none (pos (suc n)) (pos zero) p h = absurd (omega (arith, ints))
factor_none (pos (suc n)) (negsuc m) p h = absurd (omega (arith, ints))
factor_none (negsuc n) (pos (suc m)) p h = absurd (omega (arith, ints))
factor_none (negsuc n) (pos zero) p h = absurd (omega (arith, ints))
factor_none (negsuc n) (negsuc m) p h = absurd (omega (arith, ints))

pub first_above_factor : (f : ℕ → ℤ) (b : ℤ) → pos 0 <ℤ b → IsFirstAbove (λ i. f i *ℤ b) → IsFirstAbove f
first_above_factor f b p h = record {
  first = h.first;
  above = factor_above (f h.first) b p h.above;
  before = λ i q. factor_none (f i) b p (h.before i q);
}

pub before_chain : (t : Scaled) (r m k l : ℕ) → pos 0 <ℤ t.factor r k → pos 0 <ℤ t.factor r m → pos 0 <ℤ t.factor r l → ComesBefore t r m k → ComesBefore t r k l → ComesBefore t r m l
before_chain t r m k l p q w first second =
    first_above_factor (λ i. t.factor i l *ℤ t.factor r m -ℤ t.factor i m *ℤ t.factor r l) (t.factor r k) p
    (first_above-same _ _ (λ i. chain (t.factor i l) (t.factor r k) (t.factor i k) (t.factor r l) (t.factor r m) (t.factor i m)) (first_above-add _ _ (first_above-scale (λ i. t.factor i l *ℤ t.factor r k -ℤ t.factor i k *ℤ t.factor r l) (t.factor r m) q second) (first_above-scale (λ i. t.factor i k *ℤ t.factor r m -ℤ t.factor i m *ℤ t.factor r k) (t.factor r l) w first)))
