-- What the written rules come to where a part is 0 and where the denominators are equal.
use Rattle.std.proofs.Common.{◌≡◌, ℕ, ◌/◌, ◌≤◌, ℤ, pos, ◌+ℤ◌, ◌*ℤ◌, unsigned_abs, refl, sym, ap, subst, ◌∙◌, arith, int_div, lit≤, Option, None}
use Rattle.std.specs.Option.{SomeIff}
use Rattle.std.proofs.lemmas.Int.{ints}
use Rattle.std.specs.Int.{IsGcd}
use Rattle.std.proofs.Math.Nat.{div_self, div-le_self, zero-div, one-dvd}
use Rattle.std.proofs.lemmas.Nat.Gcd.{dvd_refl, dvd-zero, le_of_dvd}
use Rattle.exact_fraction.specs.Sizes.{IsSmall, IsLowest}
use Rattle.exact_fraction.specs.Exact.{IsRatio, MixFits, SumFits, ProductFits}
use Rattle.exact_fraction.proofs.Parts.{SumFound, TopFound, ProductFound, fits_sum, ratio_sum, fits_product, ratio_product}
use Rattle.exact_fraction.proofs.Quotients.{natural_quotient, by_one}

own_quotient : (b : ℤ) → b ≡ pos (unsigned_abs b) → 1 ≤ unsigned_abs b → pos 1 ≡ int_div b (pos (unsigned_abs b))
own_quotient b is some = subst (λ z. pos 1 ≡ int_div z (pos (unsigned_abs b))) (sym is) (sym (natural_quotient (unsigned_abs b) (unsigned_abs b) some ∙ ap pos (div_self some)))

own_gcd : (n : ℕ) → IsGcd n n n
own_gcd n = (dvd_refl n, dvd_refl n, λ d p q. p)

pub gcd_of_one : (n : ℕ) → IsGcd n 1 1
gcd_of_one n = (one-dvd n, dvd_refl 1, λ d p q. q)

gcd_with_one : (n : ℕ) → IsGcd 1 n 1
gcd_with_one n = (dvd_refl 1, one-dvd n, λ d p q. p)

gcd_of_zero : (n : ℕ) → IsGcd 0 n n
gcd_of_zero n = (dvd-zero n, dvd_refl n, λ d p q. q)

pub alike_found : (a b c d : ℤ) → IsLowest a b → IsLowest c d → b ≡ d → SumFound a b c d (unsigned_abs b) (pos 1) (pos 1)
alike_found a b c d first second same = record {
  first = first;
  second = second;
  is_g = subst (λ z. IsGcd (unsigned_abs b) (unsigned_abs z) (unsigned_abs b)) same (own_gcd (unsigned_abs b));
  some_g = first.den_above_none;
  is_own = own_quotient b first.den_is first.den_above_none;
  is_their = subst (λ z. pos 1 ≡ int_div z (pos (unsigned_abs b))) same (own_quotient b first.den_is first.den_above_none);
}

times_one : (z : ℤ) → z *ℤ pos 1 ≡ z
times_one z = omega (arith, ints)

pub one_times : (z : ℤ) → pos 1 *ℤ z ≡ z
one_times z = omega (arith, ints)

none_times : (z : ℤ) → pos 0 *ℤ z ≡ pos 0
none_times z = omega (arith, ints)

pub ones : (a c : ℤ) → a *ℤ pos 1 +ℤ c *ℤ pos 1 ≡ a +ℤ c
ones a c = ap (λ z. z +ℤ c *ℤ pos 1) (times_one a) ∙ ap (λ z. a +ℤ z) (times_one c)

pub alike_mixed : (a c : ℤ) → IsSmall a → IsSmall c → IsSmall (a +ℤ c) → MixFits a (pos 1) c (pos 1)
alike_mixed a c p q s = record {
  left = subst IsSmall (sym (times_one a)) p;
  right = subst IsSmall (sym (times_one c)) q;
  sum = subst IsSmall (sym (ones a c)) s;
}

pub alike_none : (r : Option ℤ) (a b c d : ℤ) → IsLowest a b → IsLowest c d → b ≡ d → r ≡ None → SomeIff r (IsSmall (a +ℤ c)) (a +ℤ c) → SumFits a b c d → ⊥
alike_none r a b c d first second same none iff fits =
    let found = alike_found a b c d first second same in
    let at = fits.top (unsigned_abs b) found.is_g in
    let total : IsSmall (a *ℤ pos 1 +ℤ c *ℤ pos 1) = subst (λ z. IsSmall (a *ℤ z +ℤ c *ℤ pos 1)) (sym found.is_their) (subst (λ z. IsSmall (a *ℤ int_div d (pos (unsigned_abs b)) +ℤ c *ℤ z)) (sym found.is_own) at.sum) in
    subst (λ z. SomeIff z (IsSmall (a +ℤ c)) (a +ℤ c)) none iff (subst IsSmall (ones a c) total)

pub alike_top : (a b c d top : ℤ) (m t : ℕ) (rest : ℤ) → IsLowest a b → IsLowest c d → b ≡ d → IsSmall (a +ℤ c) → top ≡ a +ℤ c → m ≡ unsigned_abs b → IsGcd (unsigned_abs top) m t → 1 ≤ t → rest ≡ int_div d (pos t) → TopFound a b c d (unsigned_abs b) (pos 1) (pos 1) top t rest
alike_top a b c d top m t rest first second same small is_top is_m is_t some is_rest = record {
  found = alike_found a b c d first second same;
  mixed = (alike_mixed a c first.num_small second.num_small small, is_top ∙ sym (ones a c));
  is_t = subst (λ n. IsGcd (unsigned_abs top) n t) is_m is_t;
  some_t = some;
  is_rest = is_rest;
}

pub alike_small : (c d rest : ℤ) {t : ℕ} → IsLowest c d → 1 ≤ t → rest ≡ int_div d (pos t) → IsSmall (pos 1 *ℤ rest)
alike_small c d rest {t} h some is =
    let whole : int_div d (pos t) ≡ pos (unsigned_abs d / t) = ap (λ z. int_div z (pos t)) h.den_is ∙ natural_quotient (unsigned_abs d) t some in
    subst IsSmall (sym (one_times rest ∙ is ∙ whole)) (record { most = omega (arith, div-le_self (unsigned_abs d) t, h.den_small.most) })

zero_den : (b : ℤ) → IsLowest (pos 0) b → b ≡ pos 1
zero_den b h =
    let low : unsigned_abs b ≤ 1 = le_of_dvd (omega arith) (h.lowest.2 (unsigned_abs b) (dvd-zero (unsigned_abs b)) (dvd_refl (unsigned_abs b))) in
    let one : unsigned_abs b ≡ 1 = (let some = h.den_above_none in omega arith) in
    h.den_is ∙ ap pos one

pub den_of_zero : (a b : ℤ) → IsLowest a b → a ≡ pos 0 → b ≡ pos 1
den_of_zero a b h none = zero_den b (subst (λ z. IsLowest z b) none h)

small_none : IsSmall (pos 0)
small_none = record { most = omega arith }

small_one : IsSmall (pos 1)
small_one = record { most = lit≤ tt }

left_none : (c d : ℤ) → pos 0 *ℤ d +ℤ c *ℤ pos 1 ≡ c
left_none c d = ap (λ z. z +ℤ c *ℤ pos 1) (none_times d) ∙ ap (λ z. pos 0 +ℤ z) (times_one c) ∙ omega (arith, ints)

left_zero : (c d : ℤ) → IsLowest (pos 0) (pos 1) → IsLowest c d → TopFound (pos 0) (pos 1) c d 1 (pos 1) d c 1 d
left_zero c d first second = record {
  found = record { first = first; second = second; is_g = gcd_with_one (unsigned_abs d); some_g = omega arith; is_own = by_one (pos 1); is_their = by_one d };
  mixed = (
    record {
      left = subst IsSmall (sym (none_times d)) small_none;
      right = subst IsSmall (sym (times_one c)) second.num_small;
      sum = subst IsSmall (sym (left_none c d)) second.num_small;
    },
    sym (left_none c d),
  );
  is_t = gcd_of_one (unsigned_abs c);
  some_t = omega arith;
  is_rest = by_one d;
}

right_none : (a b : ℤ) → a *ℤ pos 1 +ℤ pos 0 *ℤ b ≡ a
right_none a b = ap (λ z. a *ℤ pos 1 +ℤ z) (none_times b) ∙ ap (λ z. z +ℤ pos 0) (times_one a) ∙ omega (arith, ints)

right_zero : (a b : ℤ) → IsLowest a b → IsLowest (pos 0) (pos 1) → TopFound a b (pos 0) (pos 1) 1 b (pos 1) a 1 (pos 1)
right_zero a b first second = record {
  found = record { first = first; second = second; is_g = gcd_of_one (unsigned_abs b); some_g = omega arith; is_own = by_one b; is_their = by_one (pos 1) };
  mixed = (
    record {
      left = subst IsSmall (sym (times_one a)) first.num_small;
      right = subst IsSmall (sym (none_times b)) small_none;
      sum = subst IsSmall (sym (right_none a b)) first.num_small;
    },
    sym (right_none a b),
  );
  is_t = gcd_of_one (unsigned_abs a);
  some_t = omega arith;
  is_rest = by_one (pos 1);
}

-- a sum, where it fits, with its value
pub record SumAt (a b c d num den : ℤ) : Type 0 where
  pub fits : SumFits a b c d
  pub value : IsRatio num den (a *ℤ d +ℤ c *ℤ b) (b *ℤ d)

pub left_zero_sum : (a b c d : ℤ) → IsLowest a b → IsLowest c d → a ≡ pos 0 → SumAt a b c d c d
left_zero_sum a b c d first second none =
    let one = den_of_zero a b first none in
    let there = left_zero c d (subst (λ z. IsLowest z (pos 1)) none (subst (λ z. IsLowest a z) one first)) second in
    subst (λ z. SumAt z b c d c d) (sym none) (subst (λ z. SumAt (pos 0) z c d c d) (sym one) (record {
      fits = fits_sum (pos 0) (pos 1) c d 1 (pos 1) d c 1 d there (subst IsSmall (sym (one_times d)) second.den_small);
      value = ratio_sum (pos 0) (pos 1) c d 1 (pos 1) d c 1 d c d there (sym (one_times d)) (by_one c);
    }))

pub right_zero_sum : (a b c d : ℤ) → IsLowest a b → IsLowest c d → c ≡ pos 0 → SumAt a b c d a b
right_zero_sum a b c d first second none =
    let one = den_of_zero c d second none in
    let there = right_zero a b first (subst (λ z. IsLowest z (pos 1)) none (subst (λ z. IsLowest c z) one second)) in
    subst (λ z. SumAt a b z d a b) (sym none) (subst (λ z. SumAt a b (pos 0) z a b) (sym one) (record {
      fits = fits_sum a b (pos 0) (pos 1) 1 b (pos 1) a 1 (pos 1) there (subst IsSmall (sym (times_one b)) first.den_small);
      value = ratio_sum a b (pos 0) (pos 1) 1 b (pos 1) a 1 (pos 1) a b there (sym (times_one b)) (by_one a);
    }))

none_over : (g : ℕ) → 1 ≤ g → pos 0 ≡ int_div (pos 0) (pos g)
none_over g some = sym (natural_quotient 0 g some ∙ ap pos (zero-div g))

left_zero_found : (c d : ℤ) → IsLowest (pos 0) (pos 1) → IsLowest c d → ProductFound (pos 0) (pos 1) c d (unsigned_abs d) 1 (pos 0) c (pos 1) (pos 1)
left_zero_found c d first second = record {
  first = first;
  second = second;
  is_g = gcd_of_zero (unsigned_abs d);
  some_g = second.den_above_none;
  is_h = gcd_of_one (unsigned_abs c);
  some_h = omega arith;
  is_x = none_over (unsigned_abs d) second.den_above_none;
  is_y = by_one c;
  is_z = by_one (pos 1);
  is_w = own_quotient d second.den_is second.den_above_none;
}

right_zero_found : (a b : ℤ) → IsLowest a b → IsLowest (pos 0) (pos 1) → ProductFound a b (pos 0) (pos 1) 1 (unsigned_abs b) a (pos 0) (pos 1) (pos 1)
right_zero_found a b first second = record {
  first = first;
  second = second;
  is_g = gcd_of_one (unsigned_abs a);
  some_g = omega arith;
  is_h = gcd_of_zero (unsigned_abs b);
  some_h = first.den_above_none;
  is_x = by_one a;
  is_y = none_over (unsigned_abs b) first.den_above_none;
  is_z = own_quotient b first.den_is first.den_above_none;
  is_w = by_one (pos 1);
}

-- a product, where it fits, with its value
pub record ProductAt (a b c d num den : ℤ) : Type 0 where
  pub fits : ProductFits a b c d
  pub value : IsRatio num den (a *ℤ c) (b *ℤ d)

times_none : (z : ℤ) → z *ℤ pos 0 ≡ pos 0
times_none z = omega (arith, ints)

pub left_zero_product : (a b c d : ℤ) → IsLowest a b → IsLowest c d → a ≡ pos 0 → ProductAt a b c d a b
left_zero_product a b c d first second none =
    let one = den_of_zero a b first none in
    let found = left_zero_found c d (subst (λ z. IsLowest z (pos 1)) none (subst (λ z. IsLowest a z) one first)) second in
    subst (λ z. ProductAt z b c d z b) (sym none) (subst (λ z. ProductAt (pos 0) z c d (pos 0) z) (sym one) (record {
      fits = fits_product (pos 0) (pos 1) c d (unsigned_abs d) 1 (pos 0) c (pos 1) (pos 1) found (subst IsSmall (sym (none_times c)) small_none) small_one;
      value = ratio_product (pos 0) (pos 1) c d (unsigned_abs d) 1 (pos 0) c (pos 1) (pos 1) (pos 0) (pos 1) found (sym (none_times c)) refl;
    }))

pub right_zero_product : (a b c d : ℤ) → IsLowest a b → IsLowest c d → c ≡ pos 0 → ProductAt a b c d c d
right_zero_product a b c d first second none =
    let one = den_of_zero c d second none in
    let found = right_zero_found a b first (subst (λ z. IsLowest z (pos 1)) none (subst (λ z. IsLowest c z) one second)) in
    subst (λ z. ProductAt a b z d z d) (sym none) (subst (λ z. ProductAt a b (pos 0) z (pos 0) z) (sym one) (record {
      fits = fits_product a b (pos 0) (pos 1) 1 (unsigned_abs b) a (pos 0) (pos 1) (pos 1) found (subst IsSmall (sym (times_none a)) small_none) small_one;
      value = ratio_product a b (pos 0) (pos 1) 1 (unsigned_abs b) a (pos 0) (pos 1) (pos 1) (pos 0) (pos 1) found (sym (times_none a)) refl;
    }))

-- whole numbers
pub whole_found : (a b c d : ℤ) → IsLowest a b → IsLowest c d → b ≡ pos 1 → d ≡ pos 1 → ProductFound a b c d 1 1 a c b d
whole_found a b c d first second is_b is_d = record {
  first = first;
  second = second;
  is_g = subst (λ z. IsGcd (unsigned_abs a) (unsigned_abs z) 1) (sym is_d) (gcd_of_one (unsigned_abs a));
  some_g = omega arith;
  is_h = subst (λ z. IsGcd (unsigned_abs c) (unsigned_abs z) 1) (sym is_b) (gcd_of_one (unsigned_abs c));
  some_h = omega arith;
  is_x = by_one a;
  is_y = by_one c;
  is_z = by_one b;
  is_w = by_one d;
}

pub one_is : (b d : ℤ) → b ≡ pos 1 → d ≡ pos 1 → pos 1 ≡ b *ℤ d
one_is b d is_b is_d = sym (ap (λ z. z *ℤ d) is_b ∙ ap (λ z. pos 1 *ℤ z) is_d)

pub one_small : (b d : ℤ) → b ≡ pos 1 → d ≡ pos 1 → IsSmall (b *ℤ d)
one_small b d is_b is_d = subst IsSmall (one_is b d is_b is_d) small_one

pub whole_top : (a b c d top : ℤ) → IsLowest a b → IsLowest c d → b ≡ pos 1 → d ≡ pos 1 → IsSmall (a +ℤ c) → top ≡ a +ℤ c → TopFound a b c d (unsigned_abs b) (pos 1) (pos 1) top 1 d
whole_top a b c d top first second is_b is_d small is_top =
    alike_top a b c d top (unsigned_abs b) 1 d first second (is_b ∙ sym is_d) small is_top refl (subst (λ z. IsGcd (unsigned_abs top) (unsigned_abs z) 1) (sym is_b) (gcd_of_one (unsigned_abs top))) (omega arith) (by_one d)

pub whole_lowest : (n m : ℤ) → IsSmall m → n ≡ m → IsLowest n (pos 1)
whole_lowest n m h is = record { num_small = subst IsSmall (sym is) h; den_small = small_one; den_is = refl; den_above_none = omega arith; lowest = gcd_of_one (unsigned_abs n) }

pub whole_rest : (d : ℤ) → d ≡ pos 1 → IsSmall (pos 1 *ℤ d)
whole_rest d is = subst IsSmall (ap (λ z. pos 1 *ℤ z) (sym is)) small_one
