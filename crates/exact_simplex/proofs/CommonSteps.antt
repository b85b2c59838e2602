-- The steps to a common denominator, and to numerators over it.
use Rattle.std.proofs.Common.{◌≡◌, ℕ, ◌+◌, ◌*◌, ◌/◌, ◌<◌, ◌≤◌, ◌^◌, pos, ◌≤ℤ◌, unsigned_abs, sym, subst, arith, inl, inr, ◌⊎◌, List, length, Option, Some, None, IfSome, IfNone}
use Rattle.std.specs.Int.{IsGcd, ◌∣◌}
use Rattle.std.specs.Option.{SomeIff}
use Rattle.std.proofs.Math.Nat.{one-dvd}
use Rattle.std.proofs.lemmas.Nat.Gcd.{dvd_trans}
use Rattle.exact_fraction.specs.declared.fraction.Fraction.{Fraction}
use Rattle.exact_simplex.specs.Cells.{cell_of}
use Rattle.exact_simplex.specs.Commons.{IsLeastMultiple, AreOver, IsLeastOver, IsNumOver}
use Rattle.exact_simplex.proofs.Divides.{least_multiple, no_multiple, num_is, num_most}

pub common_some : (a b g : ℕ) (found : Option ℕ) → 1 ≤ a → 1 ≤ b → IsGcd a b g → SomeIff found (a * (b / g) ≤ 2 ^ 60) (a * (b / g)) → IfSome found (λ both. IsLeastMultiple a b both)
common_some a b g None some_a some_b h is = tt
common_some a b g (Some m) some_a some_b h is = subst (λ (n : ℕ). IsLeastMultiple a b n) (sym is.1) (least_multiple a b g some_a some_b h is.0)

pub common_none : (a b g : ℕ) (found : Option ℕ) → 1 ≤ a → 1 ≤ b → IsGcd a b g → SomeIff found (a * (b / g) ≤ 2 ^ 60) (a * (b / g)) → IfNone found ((d : ℕ) → 1 ≤ d → d ≤ 2 ^ 60 → a ∣ d → b ∣ d → ⊥)
common_none a b g None some_a some_b h is = λ d some most x y. no_multiple a b g d some_a some_b h is some most x y
common_none a b g (Some m) some_a some_b h is = tt

pub over_none : (numbers : List Fraction) → IsLeastOver 0 numbers 1
over_none numbers = record {
  some = omega arith;
  most = omega arith;
  over = λ i h. absurd (omega arith);
  least = λ d h. one-dvd d;
}

below_next : (i n : ℕ) → i < n + 1 → (i < n) ⊎ (i ≡ n)
below_next i n h = grind arith

pub over_more : (numbers : List Fraction) (n den both : ℕ) → IsLeastOver n numbers den → IsLeastMultiple den (unsigned_abs (cell_of numbers n).den) both → IsLeastOver (n + 1) numbers both
over_more numbers n den both h m = record {
  some = m.some;
  most = m.most;
  over = λ i p.
      elim (below_next i n p) [
        | inl q ↦ dvd_trans (unsigned_abs (cell_of numbers i).den) (h.over i q) m.left
        | inr q ↦ subst (λ (k : ℕ). unsigned_abs (cell_of numbers k).den ∣ both) (sym q) m.right
      ];
  least = λ d all. m.least d (h.least d (λ i q. all i (omega arith))) (all n (omega arith));
}

pub num_some : (f : Fraction) (den : ℕ) (found : Option ℕ) → pos 0 ≤ℤ f.num → unsigned_abs f.den ∣ den → SomeIff found ((den / unsigned_abs f.den) * unsigned_abs f.num ≤ 2 ^ 60) ((den / unsigned_abs f.den) * unsigned_abs f.num) → IfSome found (λ num. IsNumOver f num den)
num_some f den None above over is = tt
num_some f den (Some n) above over is = subst (λ (m : ℕ). IsNumOver f m den) (sym is.1) (num_is f den above over)

pub num_none : (f : Fraction) (den : ℕ) (found : Option ℕ) → unsigned_abs f.den ∣ den → SomeIff found ((den / unsigned_abs f.den) * unsigned_abs f.num ≤ 2 ^ 60) ((den / unsigned_abs f.den) * unsigned_abs f.num) → IfNone found ((num d : ℕ) → 1 ≤ d → den ∣ d → num ≤ 2 ^ 60 → IsNumOver f num d → ⊥)
num_none f den None over is = λ num d some more most h. is (chain (num_most f den num d over some more h) most)
  where
    chain : {x y z : ℕ} → x ≤ y → y ≤ z → x ≤ z
    chain p q = omega arith
num_none f den (Some n) over is = tt

pub no_over : (numbers : List Fraction) (n den own d : ℕ) → IsLeastOver n numbers den → n < length numbers → own ≡ unsigned_abs (cell_of numbers n).den → ((m : ℕ) → 1 ≤ m → m ≤ 2 ^ 60 → den ∣ m → own ∣ m → ⊥) → 1 ≤ d → d ≤ 2 ^ 60 → AreOver (length numbers) numbers d → ⊥
no_over numbers n den own d h within is none some most all = none d some most (h.least d (λ i p. all i (omega arith))) (subst (λ m. m ∣ d) (sym is) (all n within))
