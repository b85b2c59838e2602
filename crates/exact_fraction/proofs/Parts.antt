-- Sums and products in lowest terms.
use Rattle.std.proofs.Common.{◌≡◌, ℕ, zero, suc, ◌+◌, ◌*◌, ◌/◌, ◌≤◌, ◌^◌, ℤ, pos, negsuc, ◌+ℤ◌, ◌*ℤ◌, unsigned_abs, refl, sym, ap, subst, ◌∙◌, arith, int_div, Option, None, ◌⊎◌, inl, inr, mul-le-mul}
use Rattle.std.proofs.lemmas.Int.{ints, unsigned_abs-mul}
use Rattle.std.specs.Option.{SomeIff}
use Rattle.std.specs.Int.{IsGcd, ◌∣◌}
use Rattle.std.proofs.lemmas.Nat.Gcd.{dvd_trans, dvd_refl, same_from_IsGcd}
use Rattle.std.proofs.Math.Nat.{dvd-add_iff_right, dvd-mul_left_of_dvd, dvd-mul_right_of_dvd, dvd-add, eq_of_mul-eq-mul_right, div-mul_cancel, dvd-mul_right}
use lib.IntN.{+ℤ_comm}
use borrow.Author.Differences.{up, down}
use Rattle.exact_fraction.specs.Sizes.{IsSmall, IsLowest}
use Rattle.exact_fraction.specs.Exact.{IsRatio, sum_top, sum_bottom, MixFits, SumFits, product_top, product_bottom, ProductFits}
use Rattle.exact_fraction.proofs.Ring.{sum_out, sum_in, product_in}
use Rattle.exact_fraction.proofs.Quotients.{exact, natural_quotient}
use Rattle.exact_fraction.proofs.Coprime.{AreCoprime, gcd_one, divides_other, coprime-mul, divided_coprime}

-- the value of a sum, from what the quotients are
pub sum_value_from : (a b c d g t own their rest num : ℤ) → own *ℤ g ≡ b → their *ℤ g ≡ d → rest *ℤ t ≡ d → num *ℤ t ≡ a *ℤ their +ℤ c *ℤ own → num *ℤ (b *ℤ d) ≡ (a *ℤ d +ℤ c *ℤ b) *ℤ (own *ℤ rest)
sum_value_from a b c d g t own their rest num is_b is_d is_rest is_num =
    ap (λ z. num *ℤ (z *ℤ d)) (sym is_b)
    ∙ ap (λ z. num *ℤ ((own *ℤ g) *ℤ z)) (sym is_rest)
    ∙ sym (sum_in num t g own rest)
    ∙ ap (λ z. z *ℤ (g *ℤ (own *ℤ rest))) is_num
    ∙ sym (sum_out a their c own g (own *ℤ rest))
    ∙ ap (λ z. (a *ℤ z +ℤ c *ℤ (own *ℤ g)) *ℤ (own *ℤ rest)) is_d
    ∙ ap (λ z. (a *ℤ d +ℤ c *ℤ z) *ℤ (own *ℤ rest)) is_b

pub product_value_from : (a b c d g h num1 num2 den1 den2 : ℤ) → num1 *ℤ g ≡ a → num2 *ℤ h ≡ c → den1 *ℤ h ≡ b → den2 *ℤ g ≡ d → (num1 *ℤ num2) *ℤ (b *ℤ d) ≡ (a *ℤ c) *ℤ (den1 *ℤ den2)
product_value_from a b c d g h num1 num2 den1 den2 is_a is_c is_b is_d =
    ap (λ z. (num1 *ℤ num2) *ℤ (z *ℤ d)) (sym is_b)
    ∙ ap (λ z. (num1 *ℤ num2) *ℤ ((den1 *ℤ h) *ℤ z)) (sym is_d)
    ∙ product_in num1 g num2 h den1 den2
    ∙ ap (λ z. (z *ℤ (num2 *ℤ h)) *ℤ (den1 *ℤ den2)) is_a
    ∙ ap (λ z. (a *ℤ z) *ℤ (den1 *ℤ den2)) is_c

-- magnitudes of sums
pub magnitude : (z : ℤ) → unsigned_abs z ≡ up z + down z
magnitude (pos n) = omega arith
magnitude (negsuc n) = omega arith

pub one_part : (z : ℤ) → (up z ≡ 0) ⊎ (down z ≡ 0)
one_part (pos n) = inr refl
one_part (negsuc n) = inl refl

three_ways : (x y : ℤ) → (unsigned_abs (x +ℤ y) ≡ unsigned_abs y + unsigned_abs x) ⊎ ((unsigned_abs x ≡ unsigned_abs (x +ℤ y) + unsigned_abs y) ⊎ (unsigned_abs y ≡ unsigned_abs (x +ℤ y) + unsigned_abs x))
three_ways x y =
    let a = magnitude x in let b = magnitude y in let s = magnitude (x +ℤ y) in
    elim (one_part x) [
      | inl p ↦ elim (one_part y) [
        | inl q ↦ inl (elim (one_part (x +ℤ y)) [ inl r ↦ omega (arith, ints) | inr r ↦ omega (arith, ints) ])
        | inr q ↦ elim (one_part (x +ℤ y)) [ inl r ↦ inr (inl (omega (arith, ints))) | inr r ↦ inr (inr (omega (arith, ints))) ]
      ]
      | inr p ↦ elim (one_part y) [
        | inl q ↦ elim (one_part (x +ℤ y)) [ inl r ↦ inr (inr (omega (arith, ints))) | inr r ↦ inr (inl (omega (arith, ints))) ]
        | inr q ↦ inl (elim (one_part (x +ℤ y)) [ inl r ↦ omega (arith, ints) | inr r ↦ omega (arith, ints) ])
      ]
    ]

pub divides_left : (e : ℕ) (x y : ℤ) → e ∣ unsigned_abs (x +ℤ y) → e ∣ unsigned_abs y → e ∣ unsigned_abs x
divides_left e x y h k =
    elim (three_ways x y) [
      | inl p ↦ (dvd-add_iff_right e k).1 (subst (λ m. e ∣ m) p h)
      | inr (inl p) ↦ subst (λ m. e ∣ m) (sym p) (dvd-add e h k)
      | inr (inr p) ↦ (dvd-add_iff_right e h).1 (subst (λ m. e ∣ m) p k)
    ]

-- num * t is a * their + c * own: with no common divisor of own and their, nor of a and own, num and own have none
top_and_own : (a c own their num : ℤ) (t : ℕ) → num *ℤ pos t ≡ a *ℤ their +ℤ c *ℤ own → AreCoprime (unsigned_abs own) (unsigned_abs their) → AreCoprime (unsigned_abs a) (unsigned_abs own) → AreCoprime (unsigned_abs num) (unsigned_abs own)
top_and_own a c own their num t is apart lowest e in_num in_own =
    let whole : e ∣ unsigned_abs (num *ℤ pos t) = subst (λ m. e ∣ m) (sym (unsigned_abs-mul num (pos t))) (dvd-mul_right_of_dvd e in_num t) in
    let right : e ∣ unsigned_abs (c *ℤ own) = subst (λ m. e ∣ m) (sym (unsigned_abs-mul c own)) (dvd-mul_left_of_dvd e in_own (unsigned_abs c)) in
    let left : e ∣ unsigned_abs (a *ℤ their) = divides_left e (a *ℤ their) (c *ℤ own) (subst (λ z. e ∣ unsigned_abs z) is whole) right in
    let product : e ∣ unsigned_abs their * unsigned_abs a = subst (λ m. e ∣ m) (unsigned_abs-mul a their ∙ omega arith) left in
    let clear : AreCoprime e (unsigned_abs their) = λ f p q. apart f (dvd_trans f p in_own) q in
    lowest e (divides_other e (unsigned_abs their) (unsigned_abs a) clear product) in_own

abs_product : (z : ℤ) (g : ℕ) (w : ℤ) → z *ℤ pos g ≡ w → unsigned_abs z * g ≡ unsigned_abs w
abs_product z g w h = sym (unsigned_abs-mul z (pos g)) ∙ ap unsigned_abs h

factor_some : (m g n : ℕ) → m * g ≡ n → 1 ≤ n → 1 ≤ m
factor_some zero g n h k = absurd (omega arith)
factor_some (suc m) g n h k = omega arith

divides_first : (m g n : ℕ) → m * g ≡ n → m ∣ n
divides_first m g n h = subst (λ k. m ∣ k) h (dvd-mul_right m g)

cancelled : (m n t : ℕ) → 1 ≤ t → m * t ≡ n * t → m ≡ n
cancelled m n t some h = eq_of_mul-eq-mul_right t some m n h

coprime_swap : (a b : ℕ) → AreCoprime a b → AreCoprime b a
coprime_swap a b h e p q = h e q p

coprime_within : (a b m n : ℕ) → m ∣ a → n ∣ b → IsGcd a b 1 → AreCoprime m n
coprime_within a b m n p q h e x y = h.2 e (dvd_trans e x p) (dvd_trans e y q)

coprime_quotients : (a b g m n : ℕ) → 1 ≤ g → IsGcd a b g → m * g ≡ a → n * g ≡ b → AreCoprime m n
coprime_quotients a b g m n some h p q = divided_coprime m n g some (subst (λ k. IsGcd k (n * g) g) (sym p) (subst (λ k. IsGcd a k g) (sym q) h))

natural : (z : ℤ) (n : ℕ) → z ≡ pos n → z ≡ pos (unsigned_abs z)
natural z n h = subst (λ y. y ≡ pos (unsigned_abs y)) (sym h) refl

natural_product : (y z : ℤ) → y ≡ pos (unsigned_abs y) → z ≡ pos (unsigned_abs z) → y *ℤ z ≡ pos (unsigned_abs (y *ℤ z))
natural_product y z h k = natural (y *ℤ z) (unsigned_abs y * unsigned_abs z) (ap (λ w. w *ℤ z) h ∙ ap (λ w. pos (unsigned_abs y) *ℤ w) k)

quotient_natural : (d : ℤ) (g : ℕ) → 1 ≤ g → d ≡ pos (unsigned_abs d) → int_div d (pos g) ≡ pos (unsigned_abs (int_div d (pos g)))
quotient_natural d g some h = natural _ (unsigned_abs d / g) (ap (λ z. int_div z (pos g)) h ∙ natural_quotient (unsigned_abs d) g some)

product_some : (m n : ℕ) → 1 ≤ m → 1 ≤ n → 1 ≤ m * n
product_some m n h k = let p : 1 * 1 ≤ m * n = mul-le-mul h k in omega (arith, p)

smaller : (n t m : ℕ) → n * t ≤ m → 1 ≤ t → n ≤ m
smaller n zero m h k = absurd (omega arith)
smaller n (suc t) m h k = omega arith

pub sum_lowest : (a b c d : ℤ) (g t : ℕ) → IsLowest a b → IsLowest c d → IsGcd (unsigned_abs b) (unsigned_abs d) g → 1 ≤ g → IsGcd (unsigned_abs (sum_top a b c d g)) g t → 1 ≤ t → IsSmall (sum_top a b c d g) → IsSmall (sum_bottom b d g t) → IsLowest (int_div (sum_top a b c d g) (pos t)) (sum_bottom b d g t)
sum_lowest a b c d g t first second is_g some_g is_t some_t small_top small_bottom =
    let own = int_div b (pos g) in
    let their = int_div d (pos g) in
    let rest = int_div d (pos t) in
    let top = sum_top a b c d g in
    let num = int_div top (pos t) in
    let is_b = exact b g some_g is_g.0 in
    let is_d = exact d g some_g is_g.1 in
    let is_rest = exact d t some_t (dvd_trans t is_t.1 is_g.1) in
    let is_num = exact top t some_t is_t.0 in
    let size_b = abs_product own g b is_b in
    let size_d = abs_product their g d is_d in
    let size_rest = abs_product rest t d is_rest in
    let size_num = abs_product num t top is_num in
    let shared : g / t * t ≡ g = div-mul_cancel t is_t.1 in
    let apart = coprime_quotients _ _ g (unsigned_abs own) (unsigned_abs their) some_g is_g size_b size_d in
    let one = top_and_own a c own their num t is_num apart (coprime_within _ _ _ _ (dvd_refl (unsigned_abs a)) (divides_first _ g _ size_b) first.lowest) in
    let two = top_and_own c a their own num t (is_num ∙ +ℤ_comm (a *ℤ their) (c *ℤ own)) (coprime_swap _ _ apart) (coprime_within _ _ _ _ (dvd_refl (unsigned_abs c)) (divides_first _ g _ size_d) second.lowest) in
    let three = coprime_quotients _ _ t (unsigned_abs num) (g / t) some_t is_t size_num shared in
    let parts : unsigned_abs rest ≡ unsigned_abs their * (g / t) = cancelled _ _ t some_t (size_rest ∙ sym size_d ∙ ap (λ z. unsigned_abs their * z) (sym shared) ∙ omega arith) in
    let all = coprime-mul _ (unsigned_abs own) _ one (coprime-mul _ (unsigned_abs their) (g / t) two three) in
    let sizes : unsigned_abs (own *ℤ rest) ≡ unsigned_abs own * (unsigned_abs their * (g / t)) = unsigned_abs-mul own rest ∙ ap (λ z. unsigned_abs own * z) parts in
    let some_own = factor_some _ g _ size_b first.den_above_none in
    let some_rest = factor_some _ t _ size_rest second.den_above_none in
    record {
      num_small = record { most = smaller (unsigned_abs num) t (2 ^ 126) (subst (λ z. z ≤ 2 ^ 126) (sym size_num) small_top.most) some_t };
      den_small = small_bottom;
      den_is = natural_product own rest (quotient_natural b g some_g first.den_is) (quotient_natural d t some_t second.den_is);
      den_above_none = subst (λ z. 1 ≤ z) (sym (unsigned_abs-mul own rest)) (product_some _ _ some_own some_rest);
      lowest = gcd_one _ _ (subst (λ z. AreCoprime (unsigned_abs num) z) (sym sizes) all);
    }

pub sum_ratio : (a b c d : ℤ) (g t : ℕ) → IsGcd (unsigned_abs b) (unsigned_abs d) g → 1 ≤ g → IsGcd (unsigned_abs (sum_top a b c d g)) g t → 1 ≤ t → IsRatio (int_div (sum_top a b c d g) (pos t)) (sum_bottom b d g t) (a *ℤ d +ℤ c *ℤ b) (b *ℤ d)
sum_ratio a b c d g t is_g some_g is_t some_t =
    sum_value_from a b c d (pos g) (pos t) _ _ _ _ (exact b g some_g is_g.0) (exact d g some_g is_g.1) (exact d t some_t (dvd_trans t is_t.1 is_g.1)) (exact (sum_top a b c d g) t some_t is_t.0)

-- what the code of a sum found
pub record SumFound (a b c d : ℤ) (g : ℕ) (own their : ℤ) : Type 0 where
  pub first : IsLowest a b
  pub second : IsLowest c d
  pub is_g : IsGcd (unsigned_abs b) (unsigned_abs d) g
  pub some_g : 1 ≤ g
  pub is_own : own ≡ int_div b (pos g)
  pub is_their : their ≡ int_div d (pos g)

pub sum_found : (a b c d : ℤ) (g m : ℕ) (own their : ℤ) → IsLowest a b → IsLowest c d → m ≡ unsigned_abs d → IsGcd (unsigned_abs b) m g → 1 ≤ g → own ≡ int_div b (pos g) → their ≡ int_div d (pos g) → SumFound a b c d g own their
sum_found a b c d g m own their p q e is some is_own is_their = record { first = p; second = q; is_g = subst (λ n. IsGcd (unsigned_abs b) n g) e is; some_g = some; is_own = is_own; is_their = is_their }

mix_at : (a b c d : ℤ) (g : ℕ) (own their : ℤ) → SumFound a b c d g own their → MixFits a (int_div d (pos g)) c (int_div b (pos g)) → MixFits a their c own
mix_at a b c d g own their h fits = subst (λ z. MixFits a z c own) (sym h.is_their) (subst (λ z. MixFits a (int_div d (pos g)) c z) (sym h.is_own) fits)

mix_back : (a b c d : ℤ) (g : ℕ) (own their : ℤ) → SumFound a b c d g own their → MixFits a their c own → MixFits a (int_div d (pos g)) c (int_div b (pos g))
mix_back a b c d g own their h fits = subst (λ z. MixFits a z c (int_div b (pos g))) h.is_their (subst (λ z. MixFits a their c z) h.is_own fits)

pub no_mix : (a b c d : ℤ) (g : ℕ) (own their : ℤ) (r : Option ℤ) → SumFound a b c d g own their → r ≡ None → SomeIff r (MixFits a their c own) (a *ℤ their +ℤ c *ℤ own) → SumFits a b c d → ⊥
no_mix a b c d g own their r h none iff fits = subst (λ x. SomeIff x (MixFits a their c own) (a *ℤ their +ℤ c *ℤ own)) none iff (mix_at a b c d g own their h (fits.top g h.is_g))

-- the top is there, with its greatest common divisor with g
pub record TopFound (a b c d : ℤ) (g : ℕ) (own their top : ℤ) (t : ℕ) (rest : ℤ) : Type 0 where
  pub found : SumFound a b c d g own their
  pub mixed : MixFits a their c own × (top ≡ a *ℤ their +ℤ c *ℤ own)
  pub is_t : IsGcd (unsigned_abs top) g t
  pub some_t : 1 ≤ t
  pub is_rest : rest ≡ int_div d (pos t)

top_is : (a b c d : ℤ) (g : ℕ) (own their top : ℤ) (t : ℕ) (rest : ℤ) → TopFound a b c d g own their top t rest → top ≡ sum_top a b c d g
top_is a b c d g own their top t rest h = h.mixed.1 ∙ ap (λ z. a *ℤ z +ℤ c *ℤ own) h.found.is_their ∙ ap (λ z. a *ℤ int_div d (pos g) +ℤ c *ℤ z) h.found.is_own

gcd_top : (a b c d : ℤ) (g : ℕ) (own their top : ℤ) (t : ℕ) (rest : ℤ) → TopFound a b c d g own their top t rest → IsGcd (unsigned_abs (sum_top a b c d g)) g t
gcd_top a b c d g own their top t rest h = subst (λ z. IsGcd (unsigned_abs z) g t) (top_is a b c d g own their top t rest h) h.is_t

bottom_is : (a b c d : ℤ) (g : ℕ) (own their top : ℤ) (t : ℕ) (rest : ℤ) → TopFound a b c d g own their top t rest → own *ℤ rest ≡ sum_bottom b d g t
bottom_is a b c d g own their top t rest h = ap (λ z. z *ℤ rest) h.found.is_own ∙ ap (λ z. int_div b (pos g) *ℤ z) h.is_rest

pub no_bottom : (a b c d : ℤ) (g : ℕ) (own their top : ℤ) (t : ℕ) (rest : ℤ) (r : Option ℤ) → TopFound a b c d g own their top t rest → r ≡ None → SomeIff r (IsSmall (own *ℤ rest)) (own *ℤ rest) → SumFits a b c d → ⊥
no_bottom a b c d g own their top t rest r h none iff fits = subst (λ x. SomeIff x (IsSmall (own *ℤ rest)) (own *ℤ rest)) none iff (subst IsSmall (sym (bottom_is a b c d g own their top t rest h)) (fits.bottom g t h.found.is_g (gcd_top a b c d g own their top t rest h)))

fits_at : (a b c d : ℤ) (g : ℕ) (own their top : ℤ) (t : ℕ) (rest : ℤ) → TopFound a b c d g own their top t rest → IsSmall (own *ℤ rest) → (k u : ℕ) → g ≡ k → IsGcd (unsigned_abs (sum_top a b c d k)) k u → IsSmall (sum_bottom b d k u)
fits_at a b c d g own their top t rest h small k u same is_u =
    let back : IsGcd (unsigned_abs (sum_top a b c d g)) g u = subst (λ m. IsGcd (unsigned_abs (sum_top a b c d m)) m u) (sym same) is_u in
    let other : t ≡ u = same_from_IsGcd _ _ t u (gcd_top a b c d g own their top t rest h) back in
    subst (λ m. IsSmall (sum_bottom b d m u)) same (subst (λ m. IsSmall (sum_bottom b d g m)) other (subst IsSmall (bottom_is a b c d g own their top t rest h) small))

pub fits_sum : (a b c d : ℤ) (g : ℕ) (own their top : ℤ) (t : ℕ) (rest : ℤ) → TopFound a b c d g own their top t rest → IsSmall (own *ℤ rest) → SumFits a b c d
fits_sum a b c d g own their top t rest h small = record {
  top = λ k is. subst (λ m. MixFits a (int_div d (pos m)) c (int_div b (pos m))) (same_from_IsGcd _ _ g k h.found.is_g is) (mix_back a b c d g own their h.found h.mixed.0);
  bottom = λ k u is is_u. fits_at a b c d g own their top t rest h small k u (same_from_IsGcd _ _ g k h.found.is_g is) is_u;
}

pub lowest_sum : (a b c d : ℤ) (g : ℕ) (own their top : ℤ) (t : ℕ) (rest num den : ℤ) → TopFound a b c d g own their top t rest → IsSmall (own *ℤ rest) → den ≡ own *ℤ rest → num ≡ int_div top (pos t) → IsLowest num den
lowest_sum a b c d g own their top t rest num den h small is_den is_num =
    let bottom = bottom_is a b c d g own their top t rest h in
    let is = top_is a b c d g own their top t rest h in
    let at = sum_lowest a b c d g t h.found.first h.found.second h.found.is_g h.found.some_g (gcd_top a b c d g own their top t rest h) h.some_t (subst IsSmall (sym h.mixed.1 ∙ is) h.mixed.0.sum) (subst IsSmall bottom small) in
    subst (λ z. IsLowest num z) (sym (is_den ∙ bottom)) (subst (λ z. IsLowest z (sum_bottom b d g t)) (sym (is_num ∙ ap (λ z. int_div z (pos t)) is)) at)

pub ratio_sum : (a b c d : ℤ) (g : ℕ) (own their top : ℤ) (t : ℕ) (rest num den : ℤ) → TopFound a b c d g own their top t rest → den ≡ own *ℤ rest → num ≡ int_div top (pos t) → IsRatio num den (a *ℤ d +ℤ c *ℤ b) (b *ℤ d)
ratio_sum a b c d g own their top t rest num den h is_den is_num =
    let at = sum_ratio a b c d g t h.found.is_g h.found.some_g (gcd_top a b c d g own their top t rest h) h.some_t in
    subst (λ z. IsRatio num z (a *ℤ d +ℤ c *ℤ b) (b *ℤ d)) (sym (is_den ∙ bottom_is a b c d g own their top t rest h)) (subst (λ z. IsRatio z (sum_bottom b d g t) (a *ℤ d +ℤ c *ℤ b) (b *ℤ d)) (sym (is_num ∙ ap (λ z. int_div z (pos t)) (top_is a b c d g own their top t rest h))) at)

-- products

-- what the code of a product found
pub record ProductFound (a b c d : ℤ) (g h : ℕ) (x y z w : ℤ) : Type 0 where
  pub first : IsLowest a b
  pub second : IsLowest c d
  pub is_g : IsGcd (unsigned_abs a) (unsigned_abs d) g
  pub some_g : 1 ≤ g
  pub is_h : IsGcd (unsigned_abs c) (unsigned_abs b) h
  pub some_h : 1 ≤ h
  pub is_x : x ≡ int_div a (pos g)
  pub is_y : y ≡ int_div c (pos h)
  pub is_z : z ≡ int_div b (pos h)
  pub is_w : w ≡ int_div d (pos g)

pub gcd_by : (n m k g : ℕ) → m ≡ k → IsGcd n m g → IsGcd n k g
gcd_by n m k g e h = subst (λ z. IsGcd n z g) e h

product_lowest : (a b c d : ℤ) (g h : ℕ) → IsLowest a b → IsLowest c d → IsGcd (unsigned_abs a) (unsigned_abs d) g → 1 ≤ g → IsGcd (unsigned_abs c) (unsigned_abs b) h → 1 ≤ h → IsSmall (product_top a b c d g h) → IsSmall (product_bottom a b c d g h) → IsLowest (product_top a b c d g h) (product_bottom a b c d g h)
product_lowest a b c d g h first second is_g some_g is_h some_h small_top small_bottom =
    let x = int_div a (pos g) in
    let y = int_div c (pos h) in
    let z = int_div b (pos h) in
    let w = int_div d (pos g) in
    let size_x = abs_product x g a (exact a g some_g is_g.0) in
    let size_y = abs_product y h c (exact c h some_h is_h.0) in
    let size_z = abs_product z h b (exact b h some_h is_h.1) in
    let size_w = abs_product w g d (exact d g some_g is_g.1) in
    let xz = coprime_within _ _ _ _ (divides_first _ g _ size_x) (divides_first _ h _ size_z) first.lowest in
    let xw = coprime_quotients _ _ g (unsigned_abs x) (unsigned_abs w) some_g is_g size_x size_w in
    let yz = coprime_quotients _ _ h (unsigned_abs y) (unsigned_abs z) some_h is_h size_y size_z in
    let yw = coprime_within _ _ _ _ (divides_first _ h _ size_y) (divides_first _ g _ size_w) second.lowest in
    let of_x = coprime-mul (unsigned_abs x) (unsigned_abs z) (unsigned_abs w) xz xw in
    let of_y = coprime-mul (unsigned_abs y) (unsigned_abs z) (unsigned_abs w) yz yw in
    let all = coprime_swap _ _ (coprime-mul (unsigned_abs z * unsigned_abs w) (unsigned_abs x) (unsigned_abs y) (coprime_swap _ _ of_x) (coprime_swap _ _ of_y)) in
    record {
      num_small = small_top;
      den_small = small_bottom;
      den_is = natural_product z w (quotient_natural b h some_h first.den_is) (quotient_natural d g some_g second.den_is);
      den_above_none = subst (λ n. 1 ≤ n) (sym (unsigned_abs-mul z w)) (product_some _ _ (factor_some _ h _ size_z first.den_above_none) (factor_some _ g _ size_w second.den_above_none));
      lowest = gcd_one _ _ (subst (λ n. AreCoprime n (unsigned_abs (z *ℤ w))) (sym (unsigned_abs-mul x y)) (subst (λ n. AreCoprime (unsigned_abs x * unsigned_abs y) n) (sym (unsigned_abs-mul z w)) all));
    }

product_tops : (a b c d : ℤ) (g h : ℕ) (x y z w : ℤ) → ProductFound a b c d g h x y z w → x *ℤ y ≡ product_top a b c d g h
product_tops a b c d g h x y z w f = ap (λ n. n *ℤ y) f.is_x ∙ ap (λ n. int_div a (pos g) *ℤ n) f.is_y

product_bottoms : (a b c d : ℤ) (g h : ℕ) (x y z w : ℤ) → ProductFound a b c d g h x y z w → z *ℤ w ≡ product_bottom a b c d g h
product_bottoms a b c d g h x y z w f = ap (λ n. n *ℤ w) f.is_z ∙ ap (λ n. int_div b (pos h) *ℤ n) f.is_w

pub no_product_top : (a b c d : ℤ) (g h : ℕ) (x y z w : ℤ) (r : Option ℤ) → ProductFound a b c d g h x y z w → r ≡ None → SomeIff r (IsSmall (x *ℤ y)) (x *ℤ y) → ProductFits a b c d → ⊥
no_product_top a b c d g h x y z w r f none iff fits = subst (λ n. SomeIff n (IsSmall (x *ℤ y)) (x *ℤ y)) none iff (subst IsSmall (sym (product_tops a b c d g h x y z w f)) (fits.top g h f.is_g f.is_h))

pub no_product_bottom : (a b c d : ℤ) (g h : ℕ) (x y z w : ℤ) (r : Option ℤ) → ProductFound a b c d g h x y z w → r ≡ None → SomeIff r (IsSmall (z *ℤ w)) (z *ℤ w) → ProductFits a b c d → ⊥
no_product_bottom a b c d g h x y z w r f none iff fits = subst (λ n. SomeIff n (IsSmall (z *ℤ w)) (z *ℤ w)) none iff (subst IsSmall (sym (product_bottoms a b c d g h x y z w f)) (fits.bottom g h f.is_g f.is_h))

pub fits_product : (a b c d : ℤ) (g h : ℕ) (x y z w : ℤ) → ProductFound a b c d g h x y z w → IsSmall (x *ℤ y) → IsSmall (z *ℤ w) → ProductFits a b c d
fits_product a b c d g h x y z w f p q = record {
  top = λ k l is_k is_l. subst (λ m. IsSmall (product_top a b c d m l)) (same_from_IsGcd _ _ g k f.is_g is_k) (subst (λ m. IsSmall (product_top a b c d g m)) (same_from_IsGcd _ _ h l f.is_h is_l) (subst IsSmall (product_tops a b c d g h x y z w f) p));
  bottom = λ k l is_k is_l. subst (λ m. IsSmall (product_bottom a b c d m l)) (same_from_IsGcd _ _ g k f.is_g is_k) (subst (λ m. IsSmall (product_bottom a b c d g m)) (same_from_IsGcd _ _ h l f.is_h is_l) (subst IsSmall (product_bottoms a b c d g h x y z w f) q));
}

pub lowest_product : (a b c d : ℤ) (g h : ℕ) (x y z w num den : ℤ) → ProductFound a b c d g h x y z w → IsSmall (x *ℤ y) → IsSmall (z *ℤ w) → num ≡ x *ℤ y → den ≡ z *ℤ w → IsLowest num den
lowest_product a b c d g h x y z w num den f p q is_num is_den =
    let tops = product_tops a b c d g h x y z w f in
    let bottoms = product_bottoms a b c d g h x y z w f in
    let at = product_lowest a b c d g h f.first f.second f.is_g f.some_g f.is_h f.some_h (subst IsSmall tops p) (subst IsSmall bottoms q) in
    subst (λ n. IsLowest num n) (sym (is_den ∙ bottoms)) (subst (λ n. IsLowest n (product_bottom a b c d g h)) (sym (is_num ∙ tops)) at)

pub ratio_product : (a b c d : ℤ) (g h : ℕ) (x y z w num den : ℤ) → ProductFound a b c d g h x y z w → num ≡ x *ℤ y → den ≡ z *ℤ w → IsRatio num den (a *ℤ c) (b *ℤ d)
ratio_product a b c d g h x y z w num den f is_num is_den =
    let at : (x *ℤ y) *ℤ (b *ℤ d) ≡ (a *ℤ c) *ℤ (z *ℤ w) = product_value_from a b c d (pos g) (pos h) x y z w (ap (λ n. n *ℤ pos g) f.is_x ∙ exact a g f.some_g f.is_g.0) (ap (λ n. n *ℤ pos h) f.is_y ∙ exact c h f.some_h f.is_h.0) (ap (λ n. n *ℤ pos h) f.is_z ∙ exact b h f.some_h f.is_h.1) (ap (λ n. n *ℤ pos g) f.is_w ∙ exact d g f.some_g f.is_g.1) in
    ap (λ n. n *ℤ (b *ℤ d)) is_num ∙ at ∙ ap (λ n. (a *ℤ c) *ℤ n) (sym is_den)
