-- The laws of sums, products and the order.
use Rattle.std.proofs.Common.{◌≡◌, ℕ, suc, ◌+◌, ◌*◌, ◌<◌, ◌≤◌, ℤ, pos, ◌+ℤ◌, ◌-ℤ◌, ◌*ℤ◌, ◌<ℤ◌, unsigned_abs, refl, sym, ap, subst, ◌∙◌, arith, int_div, Less, Equal, Greater, ◌⊎◌, inl, inr, mul-le-mul, lit≤}
use Rattle.std.proofs.lemmas.Int.{ints, unsigned_abs-mul}
use Rattle.std.specs.Int.{IsGcd, ◌∣◌}
use Rattle.std.specs.Ordering.{int_cmp, MatchOrdering}
use Rattle.std.specs.Cmp.{int_cmp_total}
use Rattle.std.proofs.lemmas.Cmp.{int_ranked}
use Rattle.std.proofs.lemmas.Nat.Gcd.{dvd_trans, dvd_antisymm, IsGcd-swap}
use Rattle.std.proofs.Math.Nat.{dvd-mul_left, eq_of_mul-eq-mul_right}
use lib.IntN.{+ℤ_comm}
use borrow.Author.Differences.{up, down}
use Rattle.exact_fraction.specs.Sizes.{IsSmall, IsLowest}
use Rattle.exact_fraction.specs.Exact.{MixFits, SumFits, sum_top, sum_bottom}
use Rattle.exact_fraction.specs.Laws.{IsSum, SumsAgree, ProductsAgree, SumsCommute, IsTotal, GoesBySign, order_of}
use Rattle.exact_fraction.proofs.Coprime.{AreCoprime, divides_other}
use Rattle.exact_fraction.proofs.Fast.{gcd_of_one, alike_top, ones}
use Rattle.exact_fraction.proofs.Parts.{ProductFound, fits_sum, fits_product}
use Rattle.exact_fraction.proofs.Mixes.{gcd_above_none}
use Rattle.exact_fraction.proofs.Quotients.{exact, by_one}
use Rattle.exact_fraction.proofs.Ring.{difference_of, difference-add, difference-sub, difference-mul, difference-same, nothing}

-- two fractions in lowest terms of one value are the same

times : (n m : ℕ) → pos n *ℤ pos m ≡ pos (n * m)
times n m = refl

cancel : (a b : ℤ) (k : ℕ) → 1 ≤ k → a *ℤ pos k ≡ b *ℤ pos k → a ≡ b
cancel a b k some h =
    let parts : (up a + down b) * k ≡ (up b + down a) * k = omega (arith, ints) in
    let same : up a + down b ≡ up b + down a = eq_of_mul-eq-mul_right k some (up a + down b) (up b + down a) parts in
    omega (arith, ints)

turned_coprime : (n m : ℕ) → IsGcd n m 1 → AreCoprime m n
turned_coprime n m h e p q = h.2 e q p

den_divides : (n m p q : ℤ) → IsGcd (unsigned_abs n) (unsigned_abs m) 1 → n *ℤ q ≡ p *ℤ m → unsigned_abs m ∣ unsigned_abs q
den_divides n m p q h is =
    let sizes : unsigned_abs n * unsigned_abs q ≡ unsigned_abs p * unsigned_abs m = sym (unsigned_abs-mul n q) ∙ ap unsigned_abs is ∙ unsigned_abs-mul p m in
    divides_other (unsigned_abs m) (unsigned_abs n) (unsigned_abs q) (turned_coprime (unsigned_abs n) (unsigned_abs m) h) (subst (λ z. unsigned_abs m ∣ z) (sym sizes) (dvd-mul_left (unsigned_abs m) (unsigned_abs p)))

pub lowest_same : (n m p q : ℤ) → IsGcd (unsigned_abs n) (unsigned_abs m) 1 → IsGcd (unsigned_abs p) (unsigned_abs q) 1 → m ≡ pos (unsigned_abs m) → q ≡ pos (unsigned_abs q) → 1 ≤ unsigned_abs q → n *ℤ q ≡ p *ℤ m → (n ≡ p) × (m ≡ q)
lowest_same n m p q first second is_m is_q some is =
    let dens : unsigned_abs m ≡ unsigned_abs q = dvd_antisymm (den_divides n m p q first is) (den_divides p q n m second (sym is)) in
    let same : m ≡ q = is_m ∙ ap pos dens ∙ sym is_q in
    let nums : n *ℤ pos (unsigned_abs q) ≡ p *ℤ pos (unsigned_abs q) = ap (λ z. n *ℤ z) (sym is_q) ∙ is ∙ ap (λ z. p *ℤ z) (same ∙ is_q) in
    (cancel n p (unsigned_abs q) some nums, same)

-- whole numbers

whole_lowest : (a : ℤ) → IsSmall a → IsLowest a (pos 1)
whole_lowest a h = record { num_small = h; den_small = record { most = lit≤ tt }; den_is = refl; den_above_none = omega arith; lowest = gcd_of_one (unsigned_abs a) }

times_one : (z : ℤ) → z *ℤ pos 1 ≡ z
times_one z = omega (arith, ints)

one_times : (z : ℤ) → pos 1 *ℤ z ≡ z
one_times z = omega (arith, ints)

pub sums_agree_lem : SumsAgree
sums_agree_lem a c first second = (
  (
    λ fits. subst IsSmall (ones a c) (fits.top 1 (gcd_of_one 1)).sum,
    λ small. fits_sum a (pos 1) c (pos 1) 1 (pos 1) (pos 1) (a +ℤ c) 1 (pos 1) (alike_top a (pos 1) c (pos 1) (a +ℤ c) 1 1 (pos 1) (whole_lowest a first) (whole_lowest c second) refl small refl refl (gcd_of_one (unsigned_abs (a +ℤ c))) (omega arith) refl) (record { most = lit≤ tt }),
  ),
  λ n m h. lowest_same n m (a +ℤ c) (pos 1) h.lowest.lowest (gcd_of_one (unsigned_abs (a +ℤ c))) h.lowest.den_is refl (omega arith) (h.value ∙ ap (λ z. z *ℤ m) (ones a c)),
)

whole_product : (a c : ℤ) → IsLowest a (pos 1) → IsLowest c (pos 1) → ProductFound a (pos 1) c (pos 1) 1 1 a c (pos 1) (pos 1)
whole_product a c first second = record {
  first = first;
  second = second;
  is_g = gcd_of_one (unsigned_abs a);
  some_g = omega arith;
  is_h = gcd_of_one (unsigned_abs c);
  some_h = omega arith;
  is_x = by_one a;
  is_y = by_one c;
  is_z = refl;
  is_w = refl;
}

pub products_agree_lem : ProductsAgree
products_agree_lem a c first second = (
  (
    λ fits. subst IsSmall (ap (λ z. z *ℤ int_div c (pos 1)) (sym (by_one a)) ∙ ap (λ z. a *ℤ z) (sym (by_one c))) (fits.top 1 1 (gcd_of_one (unsigned_abs a)) (gcd_of_one (unsigned_abs c))),
    λ small. fits_product a (pos 1) c (pos 1) 1 1 a c (pos 1) (pos 1) (whole_product a c (whole_lowest a first) (whole_lowest c second)) small (record { most = lit≤ tt }),
  ),
  λ n m h. lowest_same n m (a *ℤ c) (pos 1) h.lowest.lowest (gcd_of_one (unsigned_abs (a *ℤ c))) h.lowest.den_is refl (omega arith) h.value,
)

-- sums either way

tops_same : (a b c d : ℤ) (g : ℕ) → sum_top a b c d g ≡ sum_top c d a b g
tops_same a b c d g = +ℤ_comm (a *ℤ int_div d (pos g)) (c *ℤ int_div b (pos g))

swap_mix : (a d c b : ℤ) → MixFits a d c b → MixFits c b a d
swap_mix a d c b h = record { left = h.right; right = h.left; sum = subst IsSmall (+ℤ_comm (a *ℤ d) (c *ℤ b)) h.sum }

regroup : (x g y t : ℤ) → (x *ℤ y) *ℤ (g *ℤ t) ≡ (x *ℤ g) *ℤ (y *ℤ t)
regroup x g y t = rw (difference_of x, difference_of g, difference_of y, difference_of t) (simp (nothing, difference-add, difference-sub, difference-mul) (difference-same _ _ _ _ (omega arith)))

product_comm : (a b : ℤ) → a *ℤ b ≡ b *ℤ a
product_comm a b = rw (difference_of a, difference_of b) (simp (nothing, difference-add, difference-sub, difference-mul) (difference-same _ _ _ _ (omega arith)))

bottoms_same : (b d : ℤ) (g t : ℕ) → 1 ≤ g → 1 ≤ t → g ∣ unsigned_abs b → g ∣ unsigned_abs d → t ∣ g → sum_bottom b d g t ≡ sum_bottom d b g t
bottoms_same b d g t some_g some_t in_b in_d in_g =
    let one : 1 ≤ g * t = (let p : 1 * 1 ≤ g * t = mul-le-mul some_g some_t in omega (arith, p)) in
    let left : sum_bottom b d g t *ℤ pos (g * t) ≡ b *ℤ d = regroup (int_div b (pos g)) (pos g) (int_div d (pos t)) (pos t) ∙ ap (λ z. z *ℤ (int_div d (pos t) *ℤ pos t)) (exact b g some_g in_b) ∙ ap (λ z. b *ℤ z) (exact d t some_t (dvd_trans t in_g in_d)) in
    let right : sum_bottom d b g t *ℤ pos (g * t) ≡ d *ℤ b = regroup (int_div d (pos g)) (pos g) (int_div b (pos t)) (pos t) ∙ ap (λ z. z *ℤ (int_div b (pos t) *ℤ pos t)) (exact d g some_g in_d) ∙ ap (λ z. d *ℤ z) (exact b t some_t (dvd_trans t in_g in_b)) in
    cancel (sum_bottom b d g t) (sum_bottom d b g t) (g * t) one (left ∙ product_comm b d ∙ sym right)

gcd_some : (n m g : ℕ) → 1 ≤ m → IsGcd n m g → 1 ≤ g
gcd_some n m g some h = gcd_above_none n m g some h

swap_fits : (a b c d : ℤ) → IsLowest a b → IsLowest c d → SumFits a b c d → SumFits c d a b
swap_fits a b c d first second h = record {
  top = λ g is. swap_mix a (int_div d (pos g)) c (int_div b (pos g)) (h.top g (IsGcd-swap _ _ _ is));
  bottom = λ g t is is_t.
      let is_g = IsGcd-swap _ _ _ is in
      let there : IsGcd (unsigned_abs (sum_top a b c d g)) g t = subst (λ z. IsGcd (unsigned_abs z) g t) (sym (tops_same a b c d g)) is_t in
      let some_g = gcd_some _ _ g second.den_above_none is_g in
      subst IsSmall (bottoms_same b d g t some_g (gcd_some _ _ t some_g there) is_g.0 is_g.1 there.1) (h.bottom g t is_g there);
}

turn : (a b c : ℤ) → (a *ℤ b) *ℤ c ≡ (a *ℤ c) *ℤ b
turn a b c = rw (difference_of a, difference_of b, difference_of c) (simp (nothing, difference-add, difference-sub, difference-mul) (difference-same _ _ _ _ (omega arith)))

crossed : (n m p q top other : ℤ) (k : ℕ) → 1 ≤ k → n *ℤ pos k ≡ top *ℤ m → p *ℤ pos k ≡ top *ℤ q → n *ℤ q ≡ p *ℤ m
crossed n m p q top other k some first second =
    cancel (n *ℤ q) (p *ℤ m) k some (turn n q (pos k) ∙ ap (λ z. z *ℤ q) first ∙ turn top m q ∙ ap (λ z. z *ℤ m) (sym second) ∙ turn p (pos k) m)

same_sums : (a b c d n m p q : ℤ) → IsLowest a b → IsLowest c d → IsSum n m a b c d → IsSum p q c d a b → (n ≡ p) × (m ≡ q)
same_sums a b c d n m p q first second h k =
    let dens : b *ℤ d ≡ pos (unsigned_abs b * unsigned_abs d) = ap (λ z. z *ℤ d) first.den_is ∙ ap (λ z. pos (unsigned_abs b) *ℤ z) second.den_is in
    let some : 1 ≤ unsigned_abs b * unsigned_abs d = (let p : 1 * 1 ≤ unsigned_abs b * unsigned_abs d = mul-le-mul first.den_above_none second.den_above_none in omega (arith, p)) in
    let top = a *ℤ d +ℤ c *ℤ b in
    let left : n *ℤ pos (unsigned_abs b * unsigned_abs d) ≡ top *ℤ m = ap (λ z. n *ℤ z) (sym dens) ∙ h.value in
    let right : p *ℤ pos (unsigned_abs b * unsigned_abs d) ≡ top *ℤ q = ap (λ z. p *ℤ z) (sym dens ∙ product_comm b d) ∙ k.value ∙ ap (λ z. z *ℤ q) (+ℤ_comm (c *ℤ b) (a *ℤ d)) in
    lowest_same n m p q h.lowest.lowest k.lowest.lowest h.lowest.den_is k.lowest.den_is k.lowest.den_above_none (crossed n m p q top top (unsigned_abs b * unsigned_abs d) some left right)

pub sums_commute_lem : SumsCommute
sums_commute_lem a b c d first second =
    ((swap_fits a b c d first second, swap_fits c d a b second first), λ n m p q h k. same_sums a b c d n m p q first second h k)

-- the order

same_le : (n : ℕ) → n ≤ n
same_le n = omega arith

wider : (x y : ℤ) (k : ℕ) → 1 ≤ k → x <ℤ y → (x *ℤ pos k) <ℤ (y *ℤ pos k)
wider x y k some h =
    let gap : suc (up x + down y) ≤ up y + down x = omega (arith, ints) in
    let wide : suc (up x + down y) * k ≤ (up y + down x) * k = mul-le-mul gap (same_le k) in
    omega (arith, ints, wide)

order_nat : (m n : ℕ) → ((m < n) ⊎ (m ≡ n)) ⊎ (n < m)
order_nat m n = grind arith

three : (x y : ℤ) → ((x <ℤ y) ⊎ (x ≡ y)) ⊎ (y <ℤ x)
three x y =
    elim (order_nat (up x + down y) (up y + down x)) [
      | inl (inl p) ↦ inl (inl (omega (arith, ints)))
      | inl (inr p) ↦ inl (inr (omega (arith, ints)))
      | inr p ↦ inr (omega (arith, ints))
    ]

narrower : (x y : ℤ) (k : ℕ) → 1 ≤ k → (x *ℤ pos k) <ℤ (y *ℤ pos k) → x <ℤ y
narrower x y k some h =
    elim (three x y) [
      | inl (inl p) ↦ p
      | inl (inr p) ↦ absurd (let e = ap (λ z. z *ℤ pos k) p in omega (arith, ints))
      | inr p ↦ absurd (let w = wider y x k some p in omega (arith, ints))
    ]

less_of : (x y : ℤ) → int_cmp x y ≡ Less → x <ℤ y
less_of x y h = subst (λ o. MatchOrdering o (x <ℤ y) (x ≡ y) (y <ℤ x)) h (int_ranked x y (int_cmp x y) refl)

equal_of : (x y : ℤ) → int_cmp x y ≡ Equal → x ≡ y
equal_of x y h = subst (λ o. MatchOrdering o (x <ℤ y) (x ≡ y) (y <ℤ x)) h (int_ranked x y (int_cmp x y) refl)

cmp_less : (x y : ℤ) → x <ℤ y → int_cmp x y ≡ Less
cmp_less x y h = grind (arith, ints)

cmp_equal : (x y : ℤ) → x ≡ y → int_cmp x y ≡ Equal
cmp_equal x y h = grind (arith, ints)

cmp_greater : (x y : ℤ) → y <ℤ x → int_cmp x y ≡ Greater
cmp_greater x y h = grind (arith, ints)

by_dens : (a b c d : ℤ) → IsLowest a b → IsLowest c d → order_of a b c d ≡ Less → (a *ℤ pos (unsigned_abs d)) <ℤ (c *ℤ pos (unsigned_abs b))
by_dens a b c d first second h = subst (λ z. (a *ℤ z) <ℤ (c *ℤ pos (unsigned_abs b))) second.den_is (subst (λ z. (a *ℤ d) <ℤ (c *ℤ z)) first.den_is (less_of _ _ h))

chain_less : (a c e : ℤ) (b d f : ℕ) → 1 ≤ b → 1 ≤ d → 1 ≤ f → (a *ℤ pos d) <ℤ (c *ℤ pos b) → (c *ℤ pos f) <ℤ (e *ℤ pos d) → (a *ℤ pos f) <ℤ (e *ℤ pos b)
chain_less a c e b d f some_b some_d some_f h k =
    let first = wider (a *ℤ pos d) (c *ℤ pos b) f some_f h in
    let second = wider (c *ℤ pos f) (e *ℤ pos d) b some_b k in
    let p = turn a (pos d) (pos f) in
    let q = turn c (pos b) (pos f) in
    let r = turn e (pos d) (pos b) in
    narrower (a *ℤ pos f) (e *ℤ pos b) d some_d (omega (arith, ints))

pub total_lem : IsTotal
total_lem = record {
  turned = λ a b c d. int_cmp_total.antisymm (c *ℤ b) (a *ℤ d);
  same = λ a b c d first second h. lowest_same a b c d first.lowest second.lowest first.den_is second.den_is second.den_above_none (equal_of _ _ h);
  chain = λ a b c d e f first second third h k.
      cmp_less _ _ (subst (λ z. (a *ℤ z) <ℤ (e *ℤ b)) (sym third.den_is) (subst (λ z. (a *ℤ pos (unsigned_abs f)) <ℤ (e *ℤ z)) (sym first.den_is)
      (chain_less a c e (unsigned_abs b) (unsigned_abs d) (unsigned_abs f) first.den_above_none second.den_above_none third.den_above_none (by_dens a b c d first second h) (by_dens c d e f second third k))));
}

sign_same : (n x y : ℤ) (k m : ℕ) → 1 ≤ k → 1 ≤ m → n *ℤ pos k ≡ (x -ℤ y) *ℤ pos m → int_cmp x y ≡ int_cmp n (pos 0)
sign_same n x y k m some_k some_m is =
    let none_k : pos 0 *ℤ pos k ≡ pos 0 = omega (arith, ints) in
    let none_m : pos 0 *ℤ pos m ≡ pos 0 = omega (arith, ints) in
    elim (three x y) [
      | inl (inl p) ↦
          let low : (x -ℤ y) <ℤ pos 0 = omega (arith, ints) in
          let w = wider (x -ℤ y) (pos 0) m some_m low in
          cmp_less x y p ∙ sym (cmp_less n (pos 0) (narrower n (pos 0) k some_k (omega (arith, ints))))
      | inl (inr p) ↦
          let none : x -ℤ y ≡ pos 0 = omega (arith, ints) in
          let gone : n *ℤ pos k ≡ pos 0 *ℤ pos k = is ∙ ap (λ z. z *ℤ pos m) none ∙ none_m ∙ sym none_k in
          cmp_equal x y p ∙ sym (cmp_equal n (pos 0) (cancel n (pos 0) k some_k gone))
      | inr p ↦
          let high : pos 0 <ℤ (x -ℤ y) = omega (arith, ints) in
          let w = wider (pos 0) (x -ℤ y) m some_m high in
          cmp_greater x y p ∙ sym (cmp_greater n (pos 0) (narrower (pos 0) n k some_k (omega (arith, ints))))
    ]

pub by_sign_lem : GoesBySign
by_sign_lem a b c d n m first second third is =
    let dens : b *ℤ d ≡ pos (unsigned_abs b * unsigned_abs d) = ap (λ z. z *ℤ d) first.den_is ∙ ap (λ z. pos (unsigned_abs b) *ℤ z) second.den_is in
    let some : 1 ≤ unsigned_abs b * unsigned_abs d = (let p : 1 * 1 ≤ unsigned_abs b * unsigned_abs d = mul-le-mul first.den_above_none second.den_above_none in omega (arith, p)) in
    sign_same n (a *ℤ d) (c *ℤ b) (unsigned_abs b * unsigned_abs d) (unsigned_abs m) some third.den_above_none (ap (λ z. n *ℤ z) (sym dens) ∙ is ∙ ap (λ z. (a *ℤ d -ℤ c *ℤ b) *ℤ z) third.den_is)
