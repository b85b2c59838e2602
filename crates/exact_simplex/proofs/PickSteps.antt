-- Comparisons of two columns' quotients.
use Rattle.std.proofs.Common.{◌≡◌, ℕ, ◌<◌, ℤ, pos, ◌-ℤ◌, ◌*ℤ◌, ◌<ℤ◌, refl, sym, ap, ◌∙◌, arith, true, false, Some, None, List, length, Ordering, Less, Equal, Greater, inl, inr, subst}
use Rattle.std.proofs.lemmas.Int.{ints}
use Rattle.std.proofs.lemmas.Bool.{cases_eq, cases_lt}
use Rattle.std.specs.Ordering.{int_cmp, MatchOrdering}
use Rattle.std.proofs.lemmas.Cmp.{int_ranked}
use Rattle.exact_fraction.specs.declared.fraction.Fraction.{Fraction}
use Rattle.exact_simplex.specs.Tableaus.{Scaled}
use Rattle.exact_simplex.specs.Cells.{cell_of, row_of, number_at}
use Rattle.exact_simplex.specs.Pivots.{IsQuotient, QuotientFits}
use Rattle.exact_simplex.specs.Choices.{IsOrderOf, SameQuotients, CompareFits, ComparisonGives, ShowsPair}
use Rattle.exact_simplex.proofs.Ring.{mul_comm, none_times, sub-mul, pair_up}
use Rattle.exact_simplex.proofs.Order.{above_product}
use Rattle.exact_simplex.proofs.CellSteps.{den_above, quotient_over}
use Rattle.exact_simplex.proofs.RowSteps.{number_none}

cmp_less : (x y : ℤ) → x <ℤ y → int_cmp x y ≡ Less
cmp_less x y h = grind (arith, ints)

cmp_equal : (x y : ℤ) → x ≡ y → int_cmp x y ≡ Equal
cmp_equal x y h = grind (arith, ints)

cmp_greater : (x y : ℤ) → y <ℤ x → int_cmp x y ≡ Greater
cmp_greater x y h = grind (arith, ints)

wider : (x y c : ℤ) → pos 0 <ℤ c → x <ℤ y → (x *ℤ c) <ℤ (y *ℤ c)
wider x y c above h =
    let gap : pos 0 <ℤ (y -ℤ x) = omega (arith, ints) in
    let wide = above_product (y -ℤ x) c gap above in
    let parts = sub-mul y x c in
    omega (arith, ints)

by_case : (x y : ℤ) (order : Ordering) → MatchOrdering order (x <ℤ y) (x ≡ y) (y <ℤ x) → (c : ℤ) → pos 0 <ℤ c → int_cmp (x *ℤ c) (y *ℤ c) ≡ order
by_case x y Less h c above = cmp_less _ _ (wider x y c above h)
by_case x y Equal h c above = cmp_equal _ _ (ap (λ z. z *ℤ c) h)
by_case x y Greater h c above = cmp_greater _ _ (wider y x c above h)

cmp_scale : (x y c : ℤ) → pos 0 <ℤ c → int_cmp (x *ℤ c) (y *ℤ c) ≡ int_cmp x y
cmp_scale x y c above = by_case x y (int_cmp x y) (int_ranked x y (int_cmp x y) refl) c above

-- from quotients that are computed
crossed : (xn yd u v z xd : ℤ) → xn *ℤ u ≡ z *ℤ xd → (xn *ℤ yd) *ℤ (u *ℤ v) ≡ (z *ℤ v) *ℤ (xd *ℤ yd)
crossed xn yd u v z xd h = pair_up xn yd u v ∙ ap (λ k. k *ℤ (yd *ℤ v)) h ∙ ap (λ k. (z *ℤ xd) *ℤ k) (mul_comm yd v) ∙ pair_up z xd v yd

order_scaled : (xn xd yn yd z u w v : ℤ) → pos 0 <ℤ xd → pos 0 <ℤ yd → pos 0 <ℤ u → pos 0 <ℤ v → xn *ℤ u ≡ z *ℤ xd → yn *ℤ v ≡ w *ℤ yd → int_cmp (xn *ℤ yd) (yn *ℤ xd) ≡ int_cmp (z *ℤ v) (w *ℤ u)
order_scaled xn xd yn yd z u w v above_x above_y above_u above_v first second =
    let left = crossed xn yd u v z xd first in
    let right : (yn *ℤ xd) *ℤ (u *ℤ v) ≡ (w *ℤ u) *ℤ (xd *ℤ yd) = ap (λ k. (yn *ℤ xd) *ℤ k) (mul_comm u v) ∙ crossed yn xd v u w yd second ∙ ap (λ k. (w *ℤ u) *ℤ k) (mul_comm yd xd) in
    sym (cmp_scale (xn *ℤ yd) (yn *ℤ xd) (u *ℤ v) (above_product u v above_u above_v))
    ∙ ap (λ k. int_cmp k ((yn *ℤ xd) *ℤ (u *ℤ v))) left ∙ ap (λ k. int_cmp ((z *ℤ v) *ℤ (xd *ℤ yd)) k) right
    ∙ cmp_scale (z *ℤ v) (w *ℤ u) (xd *ℤ yd) (above_product xd yd above_x above_y)

pub order_found : (order : Ordering) (x y a p b q : Fraction) → pos 0 <ℤ p.num → pos 0 <ℤ q.num → IsQuotient x a p → IsQuotient y b q → QuotientFits a p → QuotientFits b q → order ≡ int_cmp (x.num *ℤ y.den) (y.num *ℤ x.den) → IsOrderOf order a p b q
order_found order x y a p b q above_p above_q is_x is_y fits_x fits_y is = record {
  scaled = λ z u w v d above_d above_u above_v is_a is_p is_b is_q.
      is ∙ order_scaled x.num x.den y.num y.den z u w v (den_above x.num x.den x.lowest) (den_above y.num y.den y.lowest) above_u above_v (quotient_over x a p z u d above_p above_d is_x is_a is_p) (quotient_over y b q w v d above_q above_d is_y is_b is_q);
  fits = λ some. (fits_x, fits_y);
}

pub order_none : (a p b q : Fraction) → a.num ≡ pos 0 → b.num ≡ pos 0 → IsOrderOf Equal a p b q
order_none a p b q none_a none_b = record {
  scaled = λ z u w v d above_d above_u above_v is_a is_p is_b is_q.
      sym (cmp_equal (z *ℤ v) (w *ℤ u) (ap (λ k. k *ℤ v) (number_none a z d is_a none_a) ∙ none_times v ∙ sym (none_times u) ∙ ap (λ k. k *ℤ u) (sym (number_none b w d is_b none_b))));
  fits = λ some. absurd (some (none_a, none_b));
}

-- what the order at a row says of the tableau over one denominator
order_at : (n : ℕ) (cells : List (List Fraction)) (t : Scaled) (r k l i : ℕ) (order : Ordering) → ShowsPair n cells t r k l → i < length cells → IsOrderOf order (cell_of (row_of cells i) k) (cell_of (row_of cells r) k) (cell_of (row_of cells i) l) (cell_of (row_of cells r) l) → order ≡ int_cmp (number_at t i k *ℤ number_at t r l) (number_at t i l *ℤ number_at t r k)
order_at n cells t r k l i order h there is =
    is.scaled (number_at t i k) (number_at t r k) (number_at t i l) (number_at t r l) (pos t.scale) (let s = h.scale in omega (arith, ints)) h.first_above h.second_above ((h.rows i there).numbers k h.first) ((h.rows r h.place).numbers k h.first) ((h.rows i there).numbers l h.second) ((h.rows r h.place).numbers l h.second)

ranked : (x y : ℤ) (order : Ordering) → order ≡ int_cmp x y → MatchOrdering order (x <ℤ y) (x ≡ y) (y <ℤ x)
ranked x y order is = int_ranked x y order is

less_of : (x y : ℤ) → Less ≡ int_cmp x y → x <ℤ y
less_of x y h = ranked x y Less h

equal_of : (x y : ℤ) → Equal ≡ int_cmp x y → x ≡ y
equal_of x y h = ranked x y Equal h

greater_of : (x y : ℤ) → Greater ≡ int_cmp x y → y <ℤ x
greater_of x y h = ranked x y Greater h

apart : (x y : ℤ) → x <ℤ y → pos 0 <ℤ (y -ℤ x)
apart x y h = omega (arith, ints)

together : (x y : ℤ) → x ≡ y → x -ℤ y ≡ pos 0
together x y h = omega (arith, ints)

abbrev pub OrderAt : List (List Fraction) → ℕ → ℕ → ℕ → ℕ → Ordering → Type 0
OrderAt cells r k l i order = IsOrderOf order (cell_of (row_of cells i) k) (cell_of (row_of cells r) k) (cell_of (row_of cells i) l) (cell_of (row_of cells r) l)

-- the quotients of a row are computed but where both cells are 0
abbrev pub RowCompareFits : List (List Fraction) → ℕ → ℕ → ℕ → ℕ → Type 0
RowCompareFits cells r k l i = (((cell_of (row_of cells i) k).num ≡ pos 0) × ((cell_of (row_of cells i) l).num ≡ pos 0) → ⊥) → QuotientFits (cell_of (row_of cells i) k) (cell_of (row_of cells r) k) × QuotientFits (cell_of (row_of cells i) l) (cell_of (row_of cells r) l)

-- the quotients up to the first row where they differ were computed
compare_to : (cells : List (List Fraction)) (t : Scaled) (r k l i : ℕ) → ((j : ℕ) → j < i → RowCompareFits cells r k l j) → RowCompareFits cells r k l i → (SameQuotients t r k l i → ⊥) → CompareFits cells t r k l
compare_to cells t r k l i before here differ = record {
  at = λ m there same some. elim (cases_lt m i) [
    | inl less ↦ before m less some
    | inr more ↦ elim (cases_eq m i) [
      | inl is ↦ subst (λ (x : ℕ). RowCompareFits cells r k l x) (sym is) here some
      | inr other ↦ absurd (differ (same i (omega arith)))
    ]
  ];
}

less_differs : (x y : ℤ) → x <ℤ y → y ≡ x → ⊥
less_differs x y h same = omega (arith, ints)

greater_differs : (x y : ℤ) → y <ℤ x → y ≡ x → ⊥
greater_differs x y h same = omega (arith, ints)

pub when_less : (n : ℕ) (cells : List (List Fraction)) (t : Scaled) (r k l i : ℕ) → ShowsPair n cells t r k l → i < length cells → ((j : ℕ) → j < i → SameQuotients t r k l j × RowCompareFits cells r k l j) → OrderAt cells r k l i Less → ComparisonGives (Some false) cells t r k l
when_less n cells t r k l i h there before is = (
  inl (record {
    first = i;
    above = apart (number_at t i k *ℤ number_at t r l) (number_at t i l *ℤ number_at t r k) (less_of (number_at t i k *ℤ number_at t r l) (number_at t i l *ℤ number_at t r k) (order_at n cells t r k l i Less h there is));
    before = λ j p. together (number_at t j l *ℤ number_at t r k) (number_at t j k *ℤ number_at t r l) (before j p).0;
  }),
  compare_to cells t r k l i (λ j p. (before j p).1) is.fits (less_differs (number_at t i k *ℤ number_at t r l) (number_at t i l *ℤ number_at t r k) (less_of (number_at t i k *ℤ number_at t r l) (number_at t i l *ℤ number_at t r k) (order_at n cells t r k l i Less h there is))),
)

pub when_greater : (n : ℕ) (cells : List (List Fraction)) (t : Scaled) (r k l i : ℕ) → ShowsPair n cells t r k l → i < length cells → ((j : ℕ) → j < i → SameQuotients t r k l j × RowCompareFits cells r k l j) → OrderAt cells r k l i Greater → ComparisonGives (Some true) cells t r k l
when_greater n cells t r k l i h there before is = (
  record {
    first = i;
    above = apart (number_at t i l *ℤ number_at t r k) (number_at t i k *ℤ number_at t r l) (greater_of (number_at t i k *ℤ number_at t r l) (number_at t i l *ℤ number_at t r k) (order_at n cells t r k l i Greater h there is));
    before = λ j p. together (number_at t j k *ℤ number_at t r l) (number_at t j l *ℤ number_at t r k) (sym (before j p).0);
  },
  compare_to cells t r k l i (λ j p. (before j p).1) is.fits (greater_differs (number_at t i k *ℤ number_at t r l) (number_at t i l *ℤ number_at t r k) (greater_of (number_at t i k *ℤ number_at t r l) (number_at t i l *ℤ number_at t r k) (order_at n cells t r k l i Greater h there is))),
)

pub when_equal : (n : ℕ) (cells : List (List Fraction)) (t : Scaled) (r k l i : ℕ) → ShowsPair n cells t r k l → i < length cells → OrderAt cells r k l i Equal → SameQuotients t r k l i × RowCompareFits cells r k l i
when_equal n cells t r k l i h there is = (sym (equal_of (number_at t i k *ℤ number_at t r l) (number_at t i l *ℤ number_at t r k) (order_at n cells t r k l i Equal h there is)), is.fits)

-- all quotients are the same
pub when_all : (cells : List (List Fraction)) (t : Scaled) (r k l : ℕ) → ((i : ℕ) → i < length cells → SameQuotients t r k l i × RowCompareFits cells r k l i) → ComparisonGives (Some false) cells t r k l
when_all cells t r k l all = (inr (λ i p. (all i p).0), record { at = λ i there same some. (all i there).1 some })

pub when_none : (cells : List (List Fraction)) (t : Scaled) (r k l i : ℕ) → i < length cells → ((j : ℕ) → j < i → SameQuotients t r k l j) → (((cell_of (row_of cells i) k).num ≡ pos 0) × ((cell_of (row_of cells i) l).num ≡ pos 0) → ⊥) → (QuotientFits (cell_of (row_of cells i) k) (cell_of (row_of cells r) k) × QuotientFits (cell_of (row_of cells i) l) (cell_of (row_of cells r) l) → ⊥) → ComparisonGives None cells t r k l
when_none cells t r k l i there before some none h = none (h.at i there before some)
