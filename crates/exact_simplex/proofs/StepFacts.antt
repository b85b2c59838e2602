-- What a change makes of the value of a row.
use Rattle.std.proofs.Common.{◌≡◌, ℕ, suc, ◌+◌, ◌<◌, refl, sym, ap, subst, ◌∙◌, arith, Bool, true, false, not, ◌==◌, Option, Some, None, IfSome, IfNone, List, [], ◌∷◌, length, get_or, drop, All, ℤ, pos, ◌+ℤ◌, ◌-ℤ◌, ◌*ℤ◌, ◌<ℤ◌, neg_ℤ}
use Rattle.std.proofs.lemmas.Int.{ints}
use Rattle.std.proofs.Math.Seq.{drop-length}
use Rattle.std.proofs.lemmas.List.{drop_more}
use Rattle.exact_fraction.specs.declared.fraction.Fraction.{Fraction}
use Rattle.exact_fraction.specs.Exact.{IsRatio, SumFits, ProductFits}
use Rattle.exact_fraction.proofs.LawLemmas.{lowest_same}
use Rattle.exact_simplex.specs.Cells.{cell_of}
use Rattle.exact_simplex.proofs.Ring.{mul_assoc, mul_comm, neg-mul, turn_middle}
use Rattle.exact_simplex.proofs.Order.{above_product}
use Rattle.exact_simplex.proofs.Cells.{cancelled, difference_cell, product_cell}
use Rattle.exact_simplex.proofs.CellSteps.{den_above, dens_above}
use Rattle.exact_simplex.specs.declared.shifts.Shift.{Shift}
use Rattle.exact_simplex.specs.Rebounds.{IsMoved, IsSame, IsShifted, IsUnitWithin, IsValueAfter, PartFits, ShiftFits, StepAt, StepFits, StepFitsAt, StepGives, ValueFits, change_of, signed, total_change}

-- ---- sums and differences

negative : (z : ℤ) → neg_ℤ z ≡ pos 0 -ℤ z
negative z = omega (arith, ints)

times_one : (z : ℤ) → z *ℤ pos 1 ≡ z
times_one z = omega (arith, ints)

less_negative : (x b a : ℤ) → x -ℤ (pos 0 -ℤ b) *ℤ a ≡ x +ℤ b *ℤ a
less_negative x b a = let n = neg-mul b a in omega (arith, ints)

plain_less : (p s : ℤ) → p -ℤ (pos 0 -ℤ s) ≡ p +ℤ s
plain_less p s = omega (arith, ints)

sum_cell : (num den an ad bn bd p s q : ℤ) → pos 0 <ℤ (ad *ℤ bd) → num *ℤ (ad *ℤ bd) ≡ (an *ℤ bd +ℤ bn *ℤ ad) *ℤ den → an *ℤ q ≡ p *ℤ ad → bn *ℤ q ≡ s *ℤ bd → num *ℤ q ≡ (p +ℤ s) *ℤ den
sum_cell num den an ad bn bd p s q some is a b =
    difference_cell num den an ad (pos 0 -ℤ bn) bd p (pos 0 -ℤ s) q some (is ∙ ap (λ z. z *ℤ den) (sym (less_negative (an *ℤ bd) bn ad))) a (neg-mul bn q ∙ ap (λ z. pos 0 -ℤ z) b ∙ sym (neg-mul s bd))
    ∙ ap (λ z. z *ℤ den) (plain_less p s)

-- the difference, as the sum with the negative number
pub joined_less : (found : Option Fraction) (old part : Fraction) → IfSome found (λ new. IsRatio new.num new.den (old.num *ℤ part.den -ℤ part.num *ℤ old.den) (old.den *ℤ part.den)) → IfSome found (λ new. IsRatio new.num new.den (old.num *ℤ part.den +ℤ signed false part.num *ℤ old.den) (old.den *ℤ part.den))
joined_less None old part h = h
joined_less (Some new) old part h = h ∙ ap (λ z. z *ℤ new.den) (let n = neg-mul part.num old.den in omega (arith, ints))

joined_cell : (adds : Bool) (new old : Fraction) (pn pd a c q : ℤ) → pos 0 <ℤ (old.den *ℤ pd) → IsRatio new.num new.den (old.num *ℤ pd +ℤ signed adds pn *ℤ old.den) (old.den *ℤ pd) → IsRatio old.num old.den a q → pn *ℤ q ≡ c *ℤ pd → IsRatio new.num new.den (a +ℤ signed adds c) q
joined_cell true new old pn pd a c q some is is_old is_part = sum_cell new.num new.den old.num old.den pn pd a c q some is is_old is_part
joined_cell false new old pn pd a c q some is is_old is_part = sum_cell new.num new.den old.num old.den (pos 0 -ℤ pn) pd a (pos 0 -ℤ c) q some is is_old (neg-mul pn q ∙ ap (λ z. pos 0 -ℤ z) is_part ∙ sym (neg-mul c pd))

moved_from : (adds : Bool) (new old part : Fraction) (by : ℤ) → part.num ≡ by → part.den ≡ pos 1 → IsRatio new.num new.den (old.num *ℤ part.den +ℤ signed adds part.num *ℤ old.den) (old.den *ℤ part.den) → IsMoved adds new old by
moved_from adds new old part by is_num is_den h = record {
  scaled = λ a d above is_old. joined_cell adds new old part.num part.den a (d *ℤ by) d (dens_above old part) h is_old (ap (λ z. z *ℤ d) is_num ∙ mul_comm by d ∙ sym (times_one (d *ℤ by)) ∙ ap (λ z. (d *ℤ by) *ℤ z) (sym is_den));
}

pub moved_when : (found : Option Fraction) (adds : Bool) (old part : Fraction) (by : ℤ) → part.num ≡ by → part.den ≡ pos 1 → IfSome found (λ new. IsRatio new.num new.den (old.num *ℤ part.den +ℤ signed adds part.num *ℤ old.den) (old.den *ℤ part.den)) → IfSome found (λ new. IsMoved adds new old by)
moved_when None adds old part by is_num is_den h = h
moved_when (Some new) adds old part by is_num is_den h = moved_from adds new old part by is_num is_den h

shifted_from : (adds : Bool) (new old factor part : Fraction) (one : Fraction) (by : ℤ) → one.num ≡ by → one.den ≡ pos 1 → IsRatio part.num part.den (factor.num *ℤ one.num) (factor.den *ℤ one.den) → IsRatio new.num new.den (old.num *ℤ part.den +ℤ signed adds part.num *ℤ old.den) (old.den *ℤ part.den) → IsShifted adds new old factor by
shifted_from adds new old factor part one by is_num is_den is_part h = record {
  scaled = λ a b d above is_old is_factor.
      let whole : one.num *ℤ pos 1 ≡ by *ℤ one.den = times_one one.num ∙ is_num ∙ sym (times_one by) ∙ ap (λ z. by *ℤ z) (sym is_den) in
      let product = product_cell part.num part.den factor.num factor.den one.num one.den b d by (pos 1) (dens_above factor one) is_part is_factor whole in
      joined_cell adds new old part.num part.den a (b *ℤ by) d (dens_above old part) h is_old (ap (λ z. part.num *ℤ z) (sym (times_one d)) ∙ product);
}

pub shifted_when : (found : Option Fraction) (adds : Bool) (old factor part one : Fraction) (by : ℤ) → one.num ≡ by → one.den ≡ pos 1 → IsRatio part.num part.den (factor.num *ℤ one.num) (factor.den *ℤ one.den) → IfSome found (λ new. IsRatio new.num new.den (old.num *ℤ part.den +ℤ signed adds part.num *ℤ old.den) (old.den *ℤ part.den)) → IfSome found (λ new. IsShifted adds new old factor by)
shifted_when None adds old factor part one by is_num is_den is_part h = h
shifted_when (Some new) adds old factor part one by is_num is_den is_part h = shifted_from adds new old factor part one by is_num is_den is_part h

-- ---- a fraction is told by its number

pub same_ratio : (f g : Fraction) (a d : ℤ) → pos 0 <ℤ d → IsRatio f.num f.den a d → IsRatio g.num g.den a d → IsSame f g
same_ratio f g a d above is_f is_g =
    lowest_same f.num f.den g.num g.den f.lowest.lowest g.lowest.lowest f.lowest.den_is g.lowest.den_is g.lowest.den_above_none
    (cancelled (f.num *ℤ g.den) (g.num *ℤ f.den) d above (turn_middle f.num g.den d ∙ ap (λ z. z *ℤ g.den) is_f ∙ turn_middle a f.den g.den ∙ ap (λ z. z *ℤ f.den) (sym is_g) ∙ turn_middle g.num d f.den))

own_ratio : (f : Fraction) → IsRatio f.num f.den f.num f.den
own_ratio f = refl

left_ratio : (f g : Fraction) → IsRatio f.num f.den (f.num *ℤ g.den) (f.den *ℤ g.den)
left_ratio f g = sym (mul_assoc f.num f.den g.den) ∙ turn_middle f.num f.den g.den

right_ratio : (f g : Fraction) → IsRatio g.num g.den (g.num *ℤ f.den) (f.den *ℤ g.den)
right_ratio f g = sym (mul_assoc g.num f.den g.den)

pub step_unique : (unit : Option ℕ) (own low : Bool) (by : ℤ) (row : List Fraction) (old new other : Fraction) → StepGives unit own low by row old new → StepGives unit own low by row old other → IsSame new other
step_unique None true low by row old new other h k = same_ratio new other _ old.den (den_above old.num old.den old.lowest) (h.scaled old.num old.den (den_above old.num old.den old.lowest) (own_ratio old)) (k.scaled old.num old.den (den_above old.num old.den old.lowest) (own_ratio old))
step_unique None false low by row old new other h k = (h.0 ∙ sym k.0, h.1 ∙ sym k.1)
step_unique (Some c) true low by row old new other h k = (h.0 ∙ sym k.0, h.1 ∙ sym k.1)
step_unique (Some c) false low by row old new other h k =
    let factor = cell_of row (suc c) in
    let above = dens_above old factor in
    same_ratio new other _ (old.den *ℤ factor.den) above (h.scaled (old.num *ℤ factor.den) (factor.num *ℤ old.den) (old.den *ℤ factor.den) above (left_ratio old factor) (right_ratio old factor)) (k.scaled (old.num *ℤ factor.den) (factor.num *ℤ old.den) (old.den *ℤ factor.den) above (left_ratio old factor) (right_ratio old factor))

-- the same holds from the same number

ratio_from : (f g : Fraction) (a d : ℤ) → IsSame f g → IsRatio f.num f.den a d → IsRatio g.num g.den a d
ratio_from f g a d same h = ap (λ z. z *ℤ d) (sym same.0) ∙ h ∙ ap (λ z. a *ℤ z) same.1

step_from : (unit : Option ℕ) (own low : Bool) (by : ℤ) (row : List Fraction) (f g new : Fraction) → IsSame f g → StepGives unit own low by row g new → StepGives unit own low by row f new
step_from None true low by row f g new same h = record { scaled = λ a d above is. h.scaled a d above (ratio_from f g a d same is) }
step_from None false low by row f g new same h = (h.0 ∙ sym same.0, h.1 ∙ sym same.1)
step_from (Some c) true low by row f g new same h = (h.0 ∙ sym same.0, h.1 ∙ sym same.1)
step_from (Some c) false low by row f g new same h = record { scaled = λ a b d above is is_factor. h.scaled a b d above (ratio_from f g a d same is) is_factor }

part_from : (adds : Bool) (f g : Fraction) (num den : ℤ) → IsSame f g → PartFits adds f num den → PartFits adds g num den
part_from true f g num den same h = subst (λ (z : ℤ). SumFits z g.den num den) same.0 (subst (λ (z : ℤ). SumFits f.num z num den) same.1 h)
part_from false f g num den same h = subst (λ (z : ℤ). SumFits z g.den (neg_ℤ num) den) same.0 (subst (λ (z : ℤ). SumFits f.num z (neg_ℤ num) den) same.1 h)

fits_from : (unit : Option ℕ) (own low : Bool) (by : ℤ) (row : List Fraction) (f g : Fraction) → IsSame f g → StepFits unit own low by row f → StepFits unit own low by row g
fits_from None true low by row f g same h = part_from (not low) f g by (pos 1) same h
fits_from None false low by row f g same h = tt
fits_from (Some c) true low by row f g same h = tt
fits_from (Some c) false low by row f g same h = record { product = h.product; part = λ p is. part_from low f g p.num p.den same (h.part p is) }

value_from : (i : ℕ) (row : List Fraction) (shifts : List Shift) (f g : Fraction) → IsSame f g → ValueFits i row shifts f → ValueFits i row shifts g
value_from i row [] f g same h = tt
value_from i row (s ∷ shifts) f g same h = (fits_from s.unit (i == s.row) s.low s.by row f g same h.0, λ new step. h.1 new (step_from s.unit (i == s.row) s.low s.by row f g new same step))

pub value_fits_more : (i : ℕ) (row : List Fraction) (s : Shift) (shifts : List Shift) (old new : Fraction) → StepFitsAt i row s old → StepAt i row s old new → ValueFits i row shifts new → ValueFits i row (s ∷ shifts) old
value_fits_more i row s shifts old new fits step rest = (fits, λ other given. value_from i row shifts new other (step_unique s.unit (i == s.row) s.low s.by row old new other step given) rest)

-- ---- the product of a factor fits, and then the sum

pub shift_fits : (adds : Bool) (old factor part one : Fraction) (by : ℤ) → one.num ≡ by → one.den ≡ pos 1 → ProductFits factor.num factor.den one.num one.den → IsRatio part.num part.den (factor.num *ℤ one.num) (factor.den *ℤ one.den) → PartFits adds old part.num part.den → ShiftFits adds old factor by
shift_fits adds old factor part one by is_num is_den fits is_part h =
    let is : IsRatio part.num part.den (factor.num *ℤ by) (factor.den *ℤ pos 1) = subst (λ (z : ℤ). IsRatio part.num part.den (factor.num *ℤ z) (factor.den *ℤ pos 1)) is_num (subst (λ (z : ℤ). IsRatio part.num part.den (factor.num *ℤ one.num) (factor.den *ℤ z)) is_den is_part) in
    record {
      product = subst (λ (z : ℤ). ProductFits factor.num factor.den z (pos 1)) is_num (subst (λ (z : ℤ). ProductFits factor.num factor.den one.num z) is_den fits);
      part = λ p is_p. (let same = same_ratio part p (factor.num *ℤ by) (factor.den *ℤ pos 1) (above_product factor.den (pos 1) (den_above factor.num factor.den factor.lowest) (omega (arith, ints))) is is_p in part_same adds old part.num part.den p.num p.den same.0 same.1 h);
    }
  where
    part_same : (b : Bool) (f : Fraction) (n d m e : ℤ) → n ≡ m → d ≡ e → PartFits b f n d → PartFits b f m e
    part_same true f n d m e is_n is_d k = subst (λ (z : ℤ). SumFits f.num f.den z e) is_n (subst (λ (z : ℤ). SumFits f.num f.den n z) is_d k)
    part_same false f n d m e is_n is_d k = subst (λ (z : ℤ). SumFits f.num f.den (neg_ℤ z) e) is_n (subst (λ (z : ℤ). SumFits f.num f.den (neg_ℤ n) z) is_d k)

pub shift_fits_when : (found : Option Fraction) (adds : Bool) (old factor part one : Fraction) (by : ℤ) → one.num ≡ by → one.den ≡ pos 1 → ProductFits factor.num factor.den one.num one.den → IsRatio part.num part.den (factor.num *ℤ one.num) (factor.den *ℤ one.den) → IfSome found (λ _. PartFits adds old part.num part.den) → IfSome found (λ _. ShiftFits adds old factor by)
shift_fits_when None adds old factor part one by is_num is_den fits is_part h = h
shift_fits_when (Some new) adds old factor part one by is_num is_den fits is_part h = shift_fits adds old factor part one by is_num is_den fits is_part h

pub shift_stuck_when : (found : Option Fraction) (adds : Bool) (old factor part one : Fraction) (by : ℤ) → one.num ≡ by → one.den ≡ pos 1 → IsRatio part.num part.den (factor.num *ℤ one.num) (factor.den *ℤ one.den) → IfNone found (PartFits adds old part.num part.den → ⊥) → IfNone found (ShiftFits adds old factor by → ⊥)
shift_stuck_when None adds old factor part one by is_num is_den is_part h = λ fits. h (fits.part part (subst (λ (z : ℤ). IsRatio part.num part.den (factor.num *ℤ z) (factor.den *ℤ pos 1)) is_num (subst (λ (z : ℤ). IsRatio part.num part.den (factor.num *ℤ one.num) (factor.den *ℤ z)) is_den is_part)))
shift_stuck_when (Some new) adds old factor part one by is_num is_den is_part h = h

-- ---- the value of a row so far

ratio_plain : (old new : Fraction) (a d : ℤ) → IsSame new old → IsRatio old.num old.den a d → IsRatio new.num new.den (a +ℤ pos 0) d
ratio_plain old new a d same is = ap (λ z. z *ℤ d) same.0 ∙ is ∙ ap (λ z. a *ℤ z) (sym same.1) ∙ ap (λ z. z *ℤ new.den) (omega (arith, ints))

step_scaled : (unit : Option ℕ) (own low : Bool) (by : ℤ) (row : List Fraction) (old new : Fraction) (a d : ℤ) (factor : ℕ → ℤ) → pos 0 <ℤ d → IsRatio old.num old.den a d → ((k : ℕ) → suc k < length row → IsRatio (cell_of row (suc k)).num (cell_of row (suc k)).den (factor k) d) → ((k : ℕ) → unit ≡ Some k → suc k < length row) → StepGives unit own low by row old new → IsRatio new.num new.den (a +ℤ change_of d factor unit own low by) d
step_scaled None true low by row old new a d factor above is factors within h = h.scaled a d above is
step_scaled None false low by row old new a d factor above is factors within h = ratio_plain old new a d h is
step_scaled (Some k) true low by row old new a d factor above is factors within h = ratio_plain old new a d h is
step_scaled (Some k) false low by row old new a d factor above is factors within h = h.scaled a (factor k) d above is (factors k (within k refl))

pub record ValueUpTo (i : ℕ) (row : List Fraction) (shifts rest : List Shift) (value : Fraction) : Type 0 where
  pub forward : ValueFits i row shifts (cell_of row 0) → ValueFits i row rest value
  pub back : ValueFits i row rest value → ValueFits i row shifts (cell_of row 0)
  pub scaled : (a d : ℤ) (factor : ℕ → ℤ) → pos 0 <ℤ d → IsRatio (cell_of row 0).num (cell_of row 0).den a d → ((k : ℕ) → suc k < length row → IsRatio (cell_of row (suc k)).num (cell_of row (suc k)).den (factor k) d) → IsRatio value.num value.den (a +ℤ (total_change d factor i shifts -ℤ total_change d factor i rest)) d

pub value_start : (i : ℕ) (row : List Fraction) (shifts : List Shift) (value : Fraction) → value ≡ cell_of row 0 → ValueUpTo i row shifts shifts value
value_start i row shifts value is = subst (λ (f : Fraction). ValueUpTo i row shifts shifts f) (sym is) (record {
  forward = λ h. h;
  back = λ h. h;
  scaled = λ a d factor above is_first factors. is_first ∙ ap (λ z. z *ℤ (cell_of row 0).den) (omega (arith, ints));
})

pub value_next : (i : ℕ) (row : List Fraction) (shifts : List Shift) (s : Shift) (rest : List Shift) (old new : Fraction) → IsUnitWithin row s → ValueUpTo i row shifts (s ∷ rest) old → StepAt i row s old new → StepFitsAt i row s old → ValueUpTo i row shifts rest new
value_next i row shifts s rest old new within h step fits = record {
  forward = λ all. (h.forward all).1 new step;
  back = λ later. h.back (value_fits_more i row s rest old new fits step later);
  scaled = λ a d factor above is_first factors.
      step_scaled s.unit (i == s.row) s.low s.by row old new (a +ℤ (total_change d factor i shifts -ℤ total_change d factor i (s ∷ rest))) d factor above (h.scaled a d factor above is_first factors) factors within step
      ∙ ap (λ z. z *ℤ new.den) (omega (arith, ints));
}

pub value_stuck : (i : ℕ) (row : List Fraction) (shifts : List Shift) (s : Shift) (rest : List Shift) (old : Fraction) → ValueUpTo i row shifts (s ∷ rest) old → (StepFitsAt i row s old → ⊥) → ValueFits i row shifts (cell_of row 0) → ⊥
value_stuck i row shifts s rest old h never all = never (h.forward all).0

pub value_end : (i : ℕ) (row : List Fraction) (shifts : List Shift) (value : Fraction) → ValueUpTo i row shifts [] value → IsValueAfter i row shifts value
value_end i row shifts value h = record {
  scaled = λ a d factor above is_first factors. h.scaled a d factor above is_first factors ∙ ap (λ z. z *ℤ value.den) (omega (arith, ints));
}

pub value_fits_end : (i : ℕ) (row : List Fraction) (shifts : List Shift) (value : Fraction) → ValueUpTo i row shifts [] value → ValueFits i row shifts (cell_of row 0)
value_fits_end i row shifts value h = h.back tt

-- the change at a place of the list
pub value_at_next : (i : ℕ) (row : List Fraction) (shifts : List Shift) (k : ℕ) (d : Shift) (old new : Fraction) → k < length shifts → All (λ s. IsUnitWithin row s) shifts → ValueUpTo i row shifts (drop k shifts) old → StepAt i row (get_or shifts k d) old new → StepFitsAt i row (get_or shifts k d) old → ValueUpTo i row shifts (drop (k + 1) shifts) new
value_at_next i row shifts k d old new there within h step fits =
    value_next i row shifts (get_or shifts k d) (drop (k + 1) shifts) old new (within k d there) (subst (λ (xs : List Shift). ValueUpTo i row shifts xs old) (drop_more shifts k d there) h) step fits

pub value_at_stuck : (i : ℕ) (row : List Fraction) (shifts : List Shift) (k : ℕ) (d : Shift) (old : Fraction) → k < length shifts → ValueUpTo i row shifts (drop k shifts) old → (StepFitsAt i row (get_or shifts k d) old → ⊥) → ValueFits i row shifts (cell_of row 0) → ⊥
value_at_stuck i row shifts k d old there h never =
    value_stuck i row shifts (get_or shifts k d) (drop (k + 1) shifts) old (subst (λ (xs : List Shift). ValueUpTo i row shifts xs old) (drop_more shifts k d there) h) never

pub value_at_end : (i : ℕ) (row : List Fraction) (shifts : List Shift) (k : ℕ) (value : Fraction) → k ≡ length shifts → ValueUpTo i row shifts (drop k shifts) value → ValueUpTo i row shifts [] value
value_at_end i row shifts k value same h = subst (λ (xs : List Shift). ValueUpTo i row shifts xs value) (subst (λ (n : ℕ). drop n shifts ≡ []) (sym same) (drop-length shifts)) h
