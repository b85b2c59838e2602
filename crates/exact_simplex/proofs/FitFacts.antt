-- Operations that fit.
use Rattle.std.proofs.Common.{◌≡◌, ℤ, pos, negsuc, ◌-ℤ◌, ◌*ℤ◌, ◌<ℤ◌, neg_ℤ, unsigned_abs, refl, sym, ap, subst, ◌∙◌, arith, Option, Some, None, IfSome}
use Rattle.std.proofs.lemmas.Int.{ints}
use Rattle.exact_fraction.specs.declared.fraction.Fraction.{Fraction}
use Rattle.exact_fraction.specs.Sizes.{IsLowest}
use Rattle.exact_fraction.specs.Exact.{IsRatio, SumFits, ProductFits, reciprocal_top}
use Rattle.exact_fraction.proofs.Fast.{left_zero_product, right_zero_product, right_zero_sum}
use Rattle.exact_fraction.proofs.Others.{flipped_lowest}
use Rattle.exact_simplex.specs.Cells.{no_fraction}
use Rattle.exact_simplex.specs.Pivots.{CellFits, IsProduct, QuotientFits}
use Rattle.exact_simplex.specs.Changes.{IsTaken}
use Rattle.exact_simplex.proofs.Ring.{mul_comm, none_times}
use Rattle.exact_simplex.proofs.Choice.{factor_none}
use Rattle.exact_simplex.proofs.CellSteps.{dens_above, taken_off_cell}
use Rattle.exact_simplex.proofs.StepFacts.{same_ratio}

reciprocal_lowest : (n d : ℤ) → pos 0 <ℤ n → IsLowest n d → IsLowest (reciprocal_top n d) (pos (unsigned_abs n))
reciprocal_lowest (pos n) d above h = flipped_lowest (pos n) d above h
reciprocal_lowest (negsuc n) d above h = absurd (omega (arith, ints))

-- 0 over the pivot
pub none_over : (pivot : Fraction) → pos 0 <ℤ pivot.num → QuotientFits no_fraction pivot
none_over pivot above = (left_zero_product (pos 0) (pos 1) (reciprocal_top pivot.num pivot.den) (pos (unsigned_abs pivot.num)) no_fraction.lowest (reciprocal_lowest pivot.num pivot.den above pivot.lowest) refl).fits

none_product : (p f g : Fraction) → g.num ≡ pos 0 → IsProduct p f g → p.num ≡ pos 0
none_product p f g none is = factor_none p.num (f.den *ℤ g.den) (dens_above f g) (is ∙ ap (λ z. z *ℤ p.den) (ap (λ z. f.num *ℤ z) none ∙ mul_comm f.num (pos 0) ∙ none_times f.num) ∙ none_times p.den)

-- a share of 0
pub nothing_fits : (old factor share : Fraction) → share.num ≡ pos 0 → CellFits old factor share
nothing_fits old factor share none = record {
  product = (right_zero_product factor.num factor.den share.num share.den factor.lowest share.lowest none).fits;
  difference = λ p is.
      (let gone : p.num ≡ pos 0 = none_product p factor share none is in
      let turned : neg_ℤ p.num ≡ pos 0 = ap neg_ℤ gone in
      (right_zero_sum old.num old.den (neg_ℤ p.num) p.den old.lowest (subst (λ z. IsLowest z p.den) (gone ∙ sym turned) p.lowest) turned).fits);
}

pub taken_fits : (old factor share change : Fraction) → IsProduct change factor share → ProductFits factor.num factor.den share.num share.den → SumFits old.num old.den (neg_ℤ change.num) change.den → CellFits old factor share
taken_fits old factor share change is_change product fits = record {
  product = product;
  difference = λ p is.
      (let same = same_ratio change p (factor.num *ℤ share.num) (factor.den *ℤ share.den) (dens_above factor share) is_change is in
      subst (λ z. SumFits old.num old.den (neg_ℤ z) p.den) same.0 (subst (λ z. SumFits old.num old.den (neg_ℤ change.num) z) same.1 fits));
}

pub taken_when : (found : Option Fraction) (old factor share change : Fraction) → IsProduct change factor share → ProductFits factor.num factor.den share.num share.den → IfSome found (λ new. IsRatio new.num new.den (old.num *ℤ change.den -ℤ change.num *ℤ old.den) (old.den *ℤ change.den)) → IfSome found (λ _. SumFits old.num old.den (neg_ℤ change.num) change.den) → IfSome found (λ new. IsTaken new old factor share)
taken_when None old factor share change is_change product is_new fits = is_new
taken_when (Some new) old factor share change is_change product is_new fits = taken_off_cell new old factor share change is_change is_new (taken_fits old factor share change is_change product fits)

-- the same share by its number
pub fits_as : (old factor f g : Fraction) → f.num ≡ g.num → f.den ≡ g.den → CellFits old factor f → CellFits old factor g
fits_as old factor f g num den h = record {
  product = subst (λ z. ProductFits factor.num factor.den z g.den) num (subst (λ z. ProductFits factor.num factor.den f.num z) den h.product);
  difference = λ p is. h.difference p (subst (λ z. IsRatio p.num p.den (factor.num *ℤ z) (factor.den *ℤ f.den)) (sym num) (subst (λ z. IsRatio p.num p.den (factor.num *ℤ g.num) (factor.den *ℤ z)) (sym den) is));
}
