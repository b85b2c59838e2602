-- Turned signs and least whole numbers.
use Rattle.std.proofs.Common.{◌≡◌, ℕ, zero, suc, ◌+◌, ◌*◌, ◌/◌, ◌%◌, ◌<◌, ◌≤◌, ℤ, pos, negsuc, ◌+ℤ◌, ◌-ℤ◌, ◌*ℤ◌, ◌<ℤ◌, neg_ℤ, unsigned_abs, refl, sym, ap, subst, ◌∙◌, arith, Option, Some, None, IfSome, inl, inr}
use Rattle.std.proofs.lemmas.Int.{ints}
use Rattle.std.specs.Int.{int_div_euclid, int_rem_euclid}
use Rattle.std.proofs.Math.Nat.{div-le_self}
use Rattle.std.proofs.lemmas.Nat.Gcd.{IsGcd-swap}
use Rattle.exact_fraction.specs.Sizes.{IsLowest}
use Rattle.exact_fraction.specs.Exact.{IsRatio, reciprocal_top}
use Rattle.exact_fraction.specs.declared.fraction.Fraction.{Fraction}
use Rattle.exact_fraction.proofs.Parts.{magnitude, one_part}
use Rattle.exact_fraction.proofs.Ring.{difference_of, difference-add, difference-sub, difference-mul, difference-same, nothing}

pub same_size : (a : ℤ) → unsigned_abs (pos 0 -ℤ a) ≡ unsigned_abs a
same_size a =
    let p = magnitude a in
    let q = magnitude (pos 0 -ℤ a) in
    elim (one_part a) [
      | inl x ↦ elim (one_part (pos 0 -ℤ a)) [ inl y ↦ omega (arith, ints) | inr y ↦ omega (arith, ints) ]
      | inr x ↦ elim (one_part (pos 0 -ℤ a)) [ inl y ↦ omega (arith, ints) | inr y ↦ omega (arith, ints) ]
    ]

pub turned_lowest : (a b : ℤ) → IsLowest a b → IsLowest (pos 0 -ℤ a) b
turned_lowest a b h = record {
  num_small = record { most = rw (same_size a) h.num_small.most };
  den_small = h.den_small;
  den_is = h.den_is;
  den_above_none = h.den_above_none;
  lowest = rw (same_size a) h.lowest;
}

neg_is : (c : ℤ) → neg_ℤ c ≡ pos 0 -ℤ c
neg_is (pos zero) = refl
neg_is (pos (suc n)) = omega (arith, ints)
neg_is (negsuc n) = omega (arith, ints)

turned_sum : (a b c d : ℤ) → a *ℤ d +ℤ (pos 0 -ℤ c) *ℤ b ≡ a *ℤ d -ℤ c *ℤ b
turned_sum a b c d = rw (difference_of a, difference_of b, difference_of c, difference_of d) (simp (nothing, difference-add, difference-sub, difference-mul) (difference-same _ _ _ _ (omega arith)))

pub sum_of_negative : (a b c d : ℤ) → a *ℤ d +ℤ neg_ℤ c *ℤ b ≡ a *ℤ d -ℤ c *ℤ b
sum_of_negative a b c d = ap (λ z. a *ℤ d +ℤ z *ℤ b) (neg_is c) ∙ turned_sum a b c d

pub sub_value : (r : Option Fraction) (a b c d n m : ℤ) → n ≡ neg_ℤ c → m ≡ d → IfSome r (λ f. IsRatio f.num f.den (a *ℤ m +ℤ n *ℤ b) (b *ℤ m)) → IfSome r (λ f. IsRatio f.num f.den (a *ℤ d -ℤ c *ℤ b) (b *ℤ d))
sub_value r a b c d n m is_n is_m h =
    subst (λ z. IfSome r (λ f. IsRatio f.num f.den z (b *ℤ d))) (ap (λ z. a *ℤ d +ℤ z *ℤ b) is_n ∙ sum_of_negative a b c d) (subst (λ z. IfSome r (λ f. IsRatio f.num f.den (a *ℤ z +ℤ n *ℤ b) (b *ℤ z))) is_m h)

pub quotient_and_rest : (z : ℤ) (d : ℕ) → 1 ≤ d → int_div_euclid z (pos d) *ℤ pos d +ℤ int_rem_euclid z (pos d) ≡ z
quotient_and_rest (pos a) d h = omega (arith, ints)
quotient_and_rest (negsuc a) d h = let e : (a / d) * d + a % d ≡ a = omega arith in let p : a % d < d = omega arith in omega (arith, ints)

pub quotient_size : (z : ℤ) (d : ℕ) → unsigned_abs (int_div_euclid z (pos d)) ≤ unsigned_abs z + 1
quotient_size (pos a) d = omega (arith, div-le_self a d)
quotient_size (negsuc a) d = omega (arith, div-le_self a d)

mul_one_out : (q d o : ℤ) → (q -ℤ o) *ℤ d ≡ q *ℤ d -ℤ o *ℤ d
mul_one_out q d o = rw (difference_of q, difference_of d, difference_of o) (simp (nothing, difference-add, difference-sub, difference-mul) (difference-same _ _ _ _ (omega arith)))

less_one : (q d : ℤ) → (q -ℤ pos 1) *ℤ d ≡ q *ℤ d -ℤ d
less_one q d = mul_one_out q d (pos 1) ∙ ap (λ z. q *ℤ d -ℤ z) (omega (arith, ints))

pub ceil_exact : (z d q r : ℤ) → d ≡ pos (unsigned_abs d) → 1 ≤ unsigned_abs d → q ≡ int_div_euclid z d → r ≡ int_rem_euclid z d → r ≡ pos 0 → ((q -ℤ pos 1) *ℤ d) <ℤ z
ceil_exact z d q r is_d some is_q is_r none =
    let whole : q *ℤ d +ℤ r ≡ z = ap (λ w. w *ℤ d +ℤ r) is_q ∙ ap (λ w. int_div_euclid z d *ℤ d +ℤ w) is_r ∙ subst (λ w. int_div_euclid z w *ℤ w +ℤ int_rem_euclid z w ≡ z) (sym is_d) (quotient_and_rest z (unsigned_abs d) some) in
    let less = less_one q d in
    omega (arith, ints)

pub ceil_above : (z d q r : ℤ) → d ≡ pos (unsigned_abs d) → 1 ≤ unsigned_abs d → q ≡ int_div_euclid z d → r ≡ int_rem_euclid z d → pos 0 <ℤ r → (((q +ℤ pos 1) -ℤ pos 1) *ℤ d) <ℤ z
ceil_above z d q r is_d some is_q is_r rest =
    let whole : q *ℤ d +ℤ r ≡ z = ap (λ w. w *ℤ d +ℤ r) is_q ∙ ap (λ w. int_div_euclid z d *ℤ d +ℤ w) is_r ∙ subst (λ w. int_div_euclid z w *ℤ w +ℤ int_rem_euclid z w ≡ z) (sym is_d) (quotient_and_rest z (unsigned_abs d) some) in
    let back : (q +ℤ pos 1) -ℤ pos 1 ≡ q = omega (arith, ints) in
    rw back (omega (arith, ints))

pub one_more : (q : ℤ) → unsigned_abs (q +ℤ pos 1) ≤ unsigned_abs q + 1
one_more q =
    let a = magnitude q in
    let b = magnitude (q +ℤ pos 1) in
    elim (one_part (q +ℤ pos 1)) [ inl y ↦ omega (arith, ints) | inr y ↦ omega (arith, ints) ]

pub flipped_lowest : (a b : ℤ) → pos 0 <ℤ a → IsLowest a b → IsLowest b a
flipped_lowest (pos zero) b above h = absurd (omega (arith, ints))
flipped_lowest (negsuc n) b above h = absurd (omega (arith, ints))
flipped_lowest (pos (suc n)) b above h = record {
  num_small = h.den_small;
  den_small = h.num_small;
  den_is = refl;
  den_above_none = omega arith;
  lowest = IsGcd-swap _ _ _ h.lowest;
}

turn_in : (f b c : ℤ) → f *ℤ (b *ℤ (pos 0 -ℤ c)) ≡ pos 0 -ℤ f *ℤ (b *ℤ c)
turn_in f b c = rw (difference_of f, difference_of b, difference_of c) (simp (nothing, difference-add, difference-sub, difference-mul) (difference-same _ _ _ _ (omega arith)))

turn_out : (a d g : ℤ) → (a *ℤ (pos 0 -ℤ d)) *ℤ g ≡ pos 0 -ℤ (a *ℤ d) *ℤ g
turn_out a d g = rw (difference_of a, difference_of d, difference_of g) (simp (nothing, difference-add, difference-sub, difference-mul) (difference-same _ _ _ _ (omega arith)))

negative_is : (n : ℕ) → negsuc n ≡ pos 0 -ℤ pos (suc n)
negative_is n = omega (arith, ints)

twice : (z : ℤ) → pos 0 -ℤ (pos 0 -ℤ z) ≡ z
twice z = omega (arith, ints)

both_turned : (f g a b : ℤ) (n : ℕ) (d : ℤ) → f *ℤ (b *ℤ pos (suc n)) ≡ (a *ℤ (pos 0 -ℤ d)) *ℤ g → f *ℤ (b *ℤ (pos 0 -ℤ pos (suc n))) ≡ pos 0 -ℤ f *ℤ (b *ℤ pos (suc n)) → (a *ℤ (pos 0 -ℤ d)) *ℤ g ≡ pos 0 -ℤ (a *ℤ d) *ℤ g → f *ℤ (b *ℤ negsuc n) ≡ (a *ℤ d) *ℤ g
both_turned f g a b n d h p q = ap (λ z. f *ℤ (b *ℤ z)) (negative_is n) ∙ p ∙ ap (λ z. pos 0 -ℤ z) (h ∙ q) ∙ twice ((a *ℤ d) *ℤ g)

div_value_at : (f g a b c d : ℤ) → f *ℤ (b *ℤ pos (unsigned_abs c)) ≡ (a *ℤ reciprocal_top c d) *ℤ g → f *ℤ (b *ℤ c) ≡ (a *ℤ d) *ℤ g
div_value_at f g a b (pos n) d h = h
div_value_at f g a b (negsuc n) d h = let p = turn_in f b (pos (suc n)) in let q = turn_out a d g in both_turned f g a b n d h p q

pub div_value : (r : Option Fraction) (a b c d n m : ℤ) → n ≡ reciprocal_top c d → m ≡ pos (unsigned_abs c) → IfSome r (λ f. IsRatio f.num f.den (a *ℤ n) (b *ℤ m)) → IfSome r (λ f. IsRatio f.num f.den (a *ℤ d) (b *ℤ c))
div_value None a b c d n m is_n is_m h = h
div_value (Some f) a b c d n m is_n is_m h = div_value_at f.num f.den a b c d (subst (λ z. f.num *ℤ (b *ℤ z) ≡ (a *ℤ reciprocal_top c d) *ℤ f.den) is_m (subst (λ z. f.num *ℤ (b *ℤ m) ≡ (a *ℤ z) *ℤ f.den) is_n h))
