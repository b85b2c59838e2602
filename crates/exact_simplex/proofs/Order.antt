-- Columns whose first cell that is not 0 is above 0.
use Rattle.std.proofs.Common.{◌≡◌, ℕ, ◌*◌, ◌<◌, ◌≤◌, ℤ, pos, negsuc, ◌+ℤ◌, ◌*ℤ◌, ◌≤ℤ◌, ◌<ℤ◌, sym, subst, ◌∙◌, arith, inl, inr, ◌⊎◌, mul-le-mul}
use Rattle.std.proofs.lemmas.Int.{ints}
use Rattle.exact_simplex.specs.Tableaus.{IsFirstAbove}
use Rattle.exact_simplex.proofs.Ring.{none_times}

pub above_product : (a b : ℤ) → pos 0 <ℤ a → pos 0 <ℤ b → pos 0 <ℤ (a *ℤ b)
above_product (pos m) (pos n) h k =
    let p : 1 ≤ m = omega (arith, ints) in
    let q : 1 ≤ n = omega (arith, ints) in
    let r : 1 * 1 ≤ m * n = mul-le-mul p q in
    omega (arith, ints)
above_product (pos m) (negsuc n) h k = absurd (omega (arith, ints))
above_product (negsuc m) b h k = absurd (omega (arith, ints))

pub first_above-same : (f g : ℕ → ℤ) → ((i : ℕ) → f i ≡ g i) → IsFirstAbove f → IsFirstAbove g
first_above-same f g same h = record {
  first = h.first;
  above = subst (λ z. pos 0 <ℤ z) (same h.first) h.above;
  before = λ i p. sym (same i) ∙ h.before i p;
}

pub first_above-scale : (f : ℕ → ℤ) (p : ℤ) → pos 0 <ℤ p → IsFirstAbove f → IsFirstAbove (λ i. f i *ℤ p)
first_above-scale f p above h = record {
  first = h.first;
  above = above_product _ _ h.above above;
  before = λ i q. rw (h.before i q) (none_times p);
}

pub order : (a b : ℕ) → (a < b) ⊎ (b ≤ a)
order a b = grind arith

pub at_or_before : (f : ℕ → ℤ) (h : IsFirstAbove f) (i : ℕ) → i ≤ h.first → pos 0 ≤ℤ f i
at_or_before f h i p =
    elim (order i h.first) [
      | inl q ↦ let e = h.before i q in omega (arith, ints)
      | inr q ↦
          let same : h.first ≡ i = omega arith in
          let above = subst (λ m. pos 0 <ℤ f m) same h.above in
          omega (arith, ints)
    ]

pub first_above-add : (f g : ℕ → ℤ) → IsFirstAbove f → IsFirstAbove g → IsFirstAbove (λ i. f i +ℤ g i)
first_above-add f g h k =
    elim (order h.first k.first) [
      | inl p ↦ record {
        first = h.first;
        above = (let a = h.above in let b = at_or_before g k h.first (omega arith) in omega (arith, ints));
        before = λ i q. (let a = h.before i q in let b = k.before i (omega arith) in omega (arith, ints));
      }
      | inr p ↦ record {
        first = k.first;
        above = (let a = at_or_before f h k.first p in let b = k.above in omega (arith, ints));
        before = λ i q. (let a = h.before i (omega arith) in let b = k.before i q in omega (arith, ints));
      }
    ]
