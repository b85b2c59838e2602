-- The numbers of a point, over a common denominator.
use Rattle.std.proofs.Common.{◌≡◌, ℕ, suc, ◌+◌, ◌*◌, ◌/◌, ◌%◌, ◌<◌, ◌≤◌, ◌^◌, ℤ, pos, negsuc, ◌+ℤ◌, ◌-ℤ◌, ◌*ℤ◌, ◌≤ℤ◌, unsigned_abs, refl, sym, ap, subst, ◌∙◌, arith, List, [], ◌∷◌, ◌++◌, length, length-append, slice_index, All, inl, inr, ◌⊎◌}
use Rattle.std.proofs.lemmas.Int.{ints}
use Rattle.std.proofs.lemmas.List.{get_or_append_left, get_or_push}
use Rattle.std.specs.Int.{◌∣◌}
use Rattle.std.proofs.Math.Nat.{div-mul_cancel, le_of_mul-le-mul_right}
use Rattle.ip_model.specs.declared.parts.Bounds.{Bounds}
use Rattle.ip_model.specs.declared.point.Point.{Point}
use Rattle.ip_model.specs.Points.{numerator}
use Rattle.ip_model.proofs.RuleFacts.{point_range}
use Rattle.exact_fraction.specs.declared.fraction.Fraction.{Fraction}
use Rattle.exact_fraction.specs.Exact.{IsRatio}
use Rattle.exact_simplex.specs.declared.table.Tableau.{Tableau}
use Rattle.exact_simplex.specs.Cells.{cell_of, row_of}
use Rattle.exact_simplex.specs.Certificates.{IsExactPoint}
use Rattle.exact_simplex.specs.Commons.{AreOver, IsStepFrom}
use Rattle.exact_simplex.proofs.Divides.{lowest_divides}

size_back : (z : ℤ) → pos 0 ≤ℤ z → z ≡ pos (unsigned_abs z)
size_back (pos n) h = refl
size_back (negsuc n) h = absurd (omega (arith, ints))

whole_and_rest : (t own : ℕ) → 1 ≤ own → (t / own) * own + t % own ≡ t
whole_and_rest t own some = omega arith

step_sizes : (low : ℕ) (f : Fraction) → IsStepFrom low f → low * unsigned_abs f.den + unsigned_abs f.num ≤ 2 ^ 25 * unsigned_abs f.den
step_sizes low f h =
    let num = size_back f.num h.above in
    let den = f.lowest.den_is in
    by low (unsigned_abs f.num) (unsigned_abs f.den) (subst (λ z. (pos low *ℤ z +ℤ pos (unsigned_abs f.num)) ≤ℤ (pos (2 ^ 25) *ℤ z)) den (subst (λ z. (pos low *ℤ f.den +ℤ z) ≤ℤ (pos (2 ^ 25) *ℤ f.den)) num h.most))
  where
    by : (l n d : ℕ) → (pos l *ℤ pos d +ℤ pos n) ≤ℤ (pos (2 ^ 25) *ℤ pos d) → l * d + n ≤ 2 ^ 25 * d
    by l n d h = omega (arith, ints)

-- the whole number of a column is at most 2^25
pub whole_most : (low : ℕ) (f : Fraction) → IsStepFrom low f → low + unsigned_abs f.num / unsigned_abs f.den ≤ 2 ^ 25
whole_most low f h = by low (unsigned_abs f.num) (unsigned_abs f.den) (unsigned_abs f.num / unsigned_abs f.den) (unsigned_abs f.num % unsigned_abs f.den) f.lowest.den_above_none (step_sizes low f h) (whole_and_rest (unsigned_abs f.num) (unsigned_abs f.den) f.lowest.den_above_none)
  where
    by : (low n own q r : ℕ) → 1 ≤ own → low * own + n ≤ 2 ^ 25 * own → q * own + r ≡ n → low + q ≤ 2 ^ 25
    by low n own q r some h is =
        let scaled : (low + q) * own ≤ 2 ^ 25 * own = omega (arith, h, is) in
        le_of_mul-le-mul_right scaled some

-- whole number and part over the denominator are low number and step
pub value_is : (low : ℕ) (f : Fraction) (den : ℕ) → pos 0 ≤ℤ f.num → unsigned_abs f.den ∣ den
    → IsRatio f.num f.den (pos ((low + unsigned_abs f.num / unsigned_abs f.den) * den + unsigned_abs f.num % unsigned_abs f.den * (den / unsigned_abs f.den)) -ℤ pos (den * low)) (pos den)
value_is low f den above over =
    let own = unsigned_abs f.den in
    let t = unsigned_abs f.num in
    let same = by low t own den (t / own) (t % own) (den / own) (whole_and_rest t own f.lowest.den_above_none) (div-mul_cancel own over) in
    ap (λ z. z *ℤ pos den) (size_back f.num above) ∙ same ∙ ap (λ z. (pos ((low + t / own) * den + t % own * (den / own)) -ℤ pos (den * low)) *ℤ z) (sym f.lowest.den_is)
  where
    less : (x m : ℕ) → pos (m + x) -ℤ pos m ≡ pos x
    less x m = omega (arith, ints)

    spread : (low a d r q own : ℕ) → q * own ≡ d → (low + a) * d + r * q ≡ d * low + q * (a * own + r)
    spread low a d r q own is = omega (arith, ap (λ n. a * n) is)

    turn : (t q own : ℕ) → t * (q * own) ≡ (q * t) * own
    turn t q own = omega arith

    by : (low t own d a r q : ℕ) → a * own + r ≡ t → q * own ≡ d → pos t *ℤ pos d ≡ (pos ((low + a) * d + r * q) -ℤ pos (d * low)) *ℤ pos own
    by low t own d a r q is_t is_d =
        let wide : (low + a) * d + r * q ≡ d * low + q * t = spread low a d r q own is_d ∙ ap (λ n. d * low + q * n) is_t in
        let gap : pos ((low + a) * d + r * q) -ℤ pos (d * low) ≡ pos (q * t) = ap (λ (n : ℕ). pos n -ℤ pos (d * low)) wide ∙ less (q * t) (d * low) in
        ap pos (ap (λ n. t * n) (sym is_d) ∙ turn t q own) ∙ ap (λ z. z *ℤ pos own) (sym gap)

either : (k n : ℕ) → k < n + 1 → (k < n) ⊎ (k ≡ n)
either k n h = grind arith

pub number_pushed : (xs : List ℕ) (x n : ℕ) → length xs ≡ n → slice_index (xs ++ x ∷ []) n ≡ x
number_pushed xs x n size = get_or_push xs x 0 n size

pub number_kept : (xs : List ℕ) (x j : ℕ) → j < length xs → slice_index (xs ++ x ∷ []) j ≡ slice_index xs j
number_kept xs x j h = get_or_append_left xs (x ∷ []) 0 j h

-- the numbers of a point so far
pub record PointSoFar (steps : List Fraction) (low whole part : List ℕ) (den n : ℕ) : Type 0 where
  pub wholes : length whole ≡ n
  pub parts : length part ≡ n
  pub below : All (λ m. m < den) part
  pub values : (j : ℕ) → j < n → IsRatio (cell_of steps j).num (cell_of steps j).den (pos (slice_index whole j * den + slice_index part j) -ℤ pos (den * slice_index low j)) (pos den)

pub point_pushed : (steps : List Fraction) (low whole part : List ℕ) (den n w p : ℕ) → PointSoFar steps low whole part den n → p < den → IsRatio (cell_of steps n).num (cell_of steps n).den (pos (w * den + p) -ℤ pos (den * slice_index low n)) (pos den) → PointSoFar steps low (whole ++ w ∷ []) (part ++ p ∷ []) den (n + 1)
point_pushed steps low whole part den n w p h less here = record {
  wholes = length-append whole (w ∷ []) ∙ ap (λ (k : ℕ). k + 1) h.wholes;
  parts = length-append part (p ∷ []) ∙ ap (λ (k : ℕ). k + 1) h.parts;
  below = λ k d q.
      elim (either k (length part) (let e = length-append part (p ∷ []) in omega arith)) [
        | inl s ↦ subst (λ m. m < den) (sym (get_or_append_left part (p ∷ []) d k s)) (h.below k d s)
        | inr s ↦ subst (λ m. m < den) (sym (get_or_push part p d k (sym s))) less
      ];
  values = λ j q.
      elim (either j n q) [
        | inl s ↦
            let is_w = number_kept whole w j (let e = h.wholes in omega arith) in
            let is_p = number_kept part p j (let e = h.parts in omega arith) in
            subst (λ (x : ℕ). IsRatio (cell_of steps j).num (cell_of steps j).den (pos (x * den + slice_index (part ++ p ∷ []) j) -ℤ pos (den * slice_index low j)) (pos den)) (sym is_w)
            (subst (λ (x : ℕ). IsRatio (cell_of steps j).num (cell_of steps j).den (pos (slice_index whole j * den + x) -ℤ pos (den * slice_index low j)) (pos den)) (sym is_p) (h.values j s))
        | inr s ↦
            subst (λ (m : ℕ). IsRatio (cell_of steps m).num (cell_of steps m).den (pos (slice_index (whole ++ w ∷ []) m * den + slice_index (part ++ p ∷ []) m) -ℤ pos (den * slice_index low m)) (pos den)) (sym s)
            (subst (λ (x : ℕ). IsRatio (cell_of steps n).num (cell_of steps n).den (pos (x * den + slice_index (part ++ p ∷ []) n) -ℤ pos (den * slice_index low n)) (pos den)) (sym (number_pushed whole w n h.wholes))
            (subst (λ (x : ℕ). IsRatio (cell_of steps n).num (cell_of steps n).den (pos (w * den + x) -ℤ pos (den * slice_index low n)) (pos den)) (sym (number_pushed part p n h.parts)) here))
      ];
}

-- where no denominator serves all steps, no point is the exact one
pub no_point : (box : Bounds) (at : Tableau) (steps : List Fraction) → length steps ≡ length at.units → ((j : ℕ) → j < length at.units → cell_of steps j ≡ cell_of (row_of at.cells (suc j)) 0) → ((d : ℕ) → 1 ≤ d → d ≤ 2 ^ 60 → AreOver (length steps) steps d → ⊥) → (point : Point) → IsExactPoint box at point → ⊥
no_point box at steps size are none point is =
    let range = point_range point in
    none point.den range.den_above_none range.den_most (λ j h.
    let there : j < length at.units = omega arith in
    subst (λ (f : Fraction). unsigned_abs f.den ∣ point.den) (sym (are j there)) (lowest_divides (cell_of (row_of at.cells (suc j)) 0) (pos (numerator point j) -ℤ pos (point.den * slice_index box.low j)) point.den (is.steps j there)))
