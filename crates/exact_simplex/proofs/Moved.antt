-- A change of the box keeps what the tableau stands for.
use Rattle.std.proofs.Common.{◌≡◌, ℕ, suc, ◌<◌, ℤ, pos, ◌+ℤ◌, ◌-ℤ◌, ◌*ℤ◌, sym, ap, ◌∙◌, arith}
use Rattle.std.proofs.lemmas.Int.{ints}
use Rattle.ip_model.specs.Sums.{sum_below}
use Rattle.exact_simplex.specs.Tableaus.{Form, value_at, Scaled, StandsFor, IsPositive}
use Rattle.exact_simplex.proofs.Ring.{difference_of, difference-add, difference-sub, difference-mul, difference-same, nothing, mul_comm, mul-add}
use Rattle.exact_simplex.proofs.SumBelow.{sum_below-same}
use Rattle.exact_simplex.proofs.Places.{pick}
use Rattle.exact_simplex.proofs.MovedSums.{value_at-less_sum, sum_moved, sum_spread}

-- the tableau whose row i measures `shift i` more than before: its value rises by that, and falls by what the unit rows rise
abbrev pub moved_by : ℕ → (ℕ → ℤ) → Scaled → Scaled
moved_by n shift t = record {
  scale = t.scale;
  value = λ i. (t.value i +ℤ pos t.scale *ℤ shift i) -ℤ sum_below n (λ k. t.factor i k *ℤ shift (t.unit k));
  factor = t.factor;
  unit = t.unit;
}

-- by how much more a row measures in the new box than in the old one, where each low number is `delta` higher
abbrev pub shift_of : ℕ → (ℕ → Form) → (ℕ → Form) → (ℕ → ℤ) → ℕ → ℤ
shift_of n old new delta i = (new i).constant -ℤ value_at n (old i) (pos 1) delta

-- the rows have the same slopes, and the steps fall by what the lows rise
pub record SameSlopes (n : ℕ) (old new : ℕ → Form) (delta : ℕ → ℤ) : Type 0 where
  pub slopes : (i : ℕ) → (new i).slope ≡ (old i).slope
  pub steps : (j : ℕ) → j < n → shift_of n old new delta (suc j) ≡ pos 0 -ℤ delta j

constants : (c d p q e : ℤ) → p +ℤ c *ℤ e ≡ ((p +ℤ q *ℤ e) +ℤ d *ℤ e) +ℤ (c -ℤ (q +ℤ d *ℤ pos 1)) *ℤ e
constants c d p q e = let plain : d *ℤ pos 1 ≡ d = omega (arith, ints) in rw plain (rw (difference_of c, difference_of d, difference_of p, difference_of q, difference_of e) (simp (nothing, difference-add, difference-sub, difference-mul) (difference-same _ _ _ _ (omega arith))))

-- a row at a point of the new box, by the same point of the old one
at_point : (n : ℕ) (old new : ℕ → Form) (delta : ℕ → ℤ) → SameSlopes n old new delta → (i : ℕ) (e : ℤ) (step : ℕ → ℤ) → value_at n (new i) e step ≡ value_at n (old i) e (λ j. step j +ℤ e *ℤ delta j) +ℤ shift_of n old new delta i *ℤ e
at_point n old new delta h i e step =
    ap (λ (s : ℕ → ℤ). sum_below n (λ j. s j *ℤ step j) +ℤ (new i).constant *ℤ e) (h.slopes i)
    ∙ constants (new i).constant (old i).constant (sum_below n (λ j. (old i).slope j *ℤ step j)) (sum_below n (λ j. (old i).slope j *ℤ delta j)) e
    ∙ ap (λ z. (z +ℤ (old i).constant *ℤ e) +ℤ shift_of n old new delta i *ℤ e) (sym (sum_moved n e (old i).slope step delta))

collect : (v a d s e f : ℤ) → (v *ℤ e +ℤ a) +ℤ d *ℤ (s *ℤ e) ≡ ((v +ℤ d *ℤ s) -ℤ f) *ℤ e +ℤ (a +ℤ f *ℤ e)
collect v a d s e f = rw (difference_of v, difference_of a, difference_of d, difference_of s, difference_of e, difference_of f) (simp (difference-add, difference-sub, difference-mul) (difference-same _ _ _ _ (omega arith)))

moved_by_units : (n : ℕ) (old new : ℕ → Form) (delta : ℕ → ℤ) (t : Scaled) → SameSlopes n old new delta → StandsFor n old t → (i : ℕ) (e : ℤ) (step : ℕ → ℤ) → pos t.scale *ℤ value_at n (new i) e step ≡ (moved_by n (shift_of n old new delta) t).value i *ℤ e +ℤ sum_below n (λ k. t.factor i k *ℤ value_at n (new (t.unit k)) e step)
moved_by_units n old new delta t same h i e step =
    let s = shift_of n old new delta in
    let back : ℕ → ℤ = λ j. step j +ℤ e *ℤ delta j in
    ap (λ z. pos t.scale *ℤ z) (at_point n old new delta same i e step)
    ∙ mul-add (pos t.scale) (value_at n (old i) e back) (s i *ℤ e)
    ∙ ap (λ z. z +ℤ pos t.scale *ℤ (s i *ℤ e)) (h.by_units i e back)
    ∙ collect (t.value i) (sum_below n (λ k. t.factor i k *ℤ value_at n (old (t.unit k)) e back)) (pos t.scale) (s i) e (sum_below n (λ k. t.factor i k *ℤ s (t.unit k)))
    ∙ ap (λ z. (moved_by n s t).value i *ℤ e +ℤ z) (sym (sum_spread n e (t.factor i) (λ k. value_at n (old (t.unit k)) e back) (λ k. s (t.unit k))))
    ∙ ap (λ z. (moved_by n s t).value i *ℤ e +ℤ z) (sum_below-same n _ _ (λ k q. ap (λ z. t.factor i k *ℤ z) (sym (at_point n old new delta same (t.unit k) e step))))

-- the value of a unit row stays 0
moved_unit : (n : ℕ) (forms : ℕ → Form) (shift : ℕ → ℤ) (t : Scaled) → StandsFor n forms t → (k : ℕ) → k < n → (moved_by n shift t).value (t.unit k) ≡ pos 0
moved_unit n forms shift t h k there =
    let own : sum_below n (λ l. t.factor (t.unit k) l *ℤ shift (t.unit l)) ≡ pos t.scale *ℤ shift (t.unit k) = sum_below-same n _ _ (λ l q. ap (λ z. z *ℤ shift (t.unit l)) (h.unit_factor k l there q)) ∙ pick n k (pos t.scale) (λ l. shift (t.unit l)) there in
    let none = h.unit_value k there in
    omega (arith, ints)

turn_back : (v d p x : ℤ) → ((v +ℤ d *ℤ (pos 0 -ℤ p)) -ℤ x) +ℤ d *ℤ p ≡ v -ℤ x
turn_back v d p x = rw (difference_of v, difference_of d, difference_of p, difference_of x) (simp (nothing, difference-add, difference-sub, difference-mul) (difference-same _ _ _ _ (omega arith)))

moved_at_value : (n : ℕ) (old new : ℕ → Form) (delta : ℕ → ℤ) (t : Scaled) → SameSlopes n old new delta → StandsFor n old t → (i : ℕ) → value_at n (new i) (pos t.scale) (λ j. (moved_by n (shift_of n old new delta) t).value (suc j)) ≡ (moved_by n (shift_of n old new delta) t).value i
moved_at_value n old new delta t same h i =
    let s = shift_of n old new delta in
    let m = moved_by n s t in
    let d = pos t.scale in
    let u : ℕ → ℤ = λ k. s (t.unit k) in
    let steps : (j : ℕ) → j < n → (m.value (suc j) +ℤ d *ℤ delta j) ≡ t.value (suc j) -ℤ sum_below n (λ k. t.factor (suc j) k *ℤ u k) =
    λ j q. ap (λ z. ((t.value (suc j) +ℤ d *ℤ z) -ℤ sum_below n (λ k. t.factor (suc j) k *ℤ u k)) +ℤ d *ℤ delta j) (same.steps j q) ∙ turn_back (t.value (suc j)) d (delta j) (sum_below n (λ k. t.factor (suc j) k *ℤ u k)) in
    let factors : sum_below n (λ k. u k *ℤ value_at n (old i) (pos 0) (λ j. t.factor (suc j) k)) ≡ sum_below n (λ k. t.factor i k *ℤ u k) =
    sum_below-same n _ _ (λ k q. ap (λ z. u k *ℤ z) (h.at_factor i k q) ∙ mul_comm (u k) (t.factor i k)) in
    let turned = mul_comm (s i) d in
    at_point n old new delta same i d (λ j. m.value (suc j))
    ∙ ap (λ z. (z +ℤ (old i).constant *ℤ d) +ℤ s i *ℤ d) (sum_below-same n _ (λ j. (old i).slope j *ℤ (t.value (suc j) -ℤ sum_below n (λ k. t.factor (suc j) k *ℤ u k))) (λ j q. ap (λ z. (old i).slope j *ℤ z) (steps j q)))
    ∙ ap (λ z. z +ℤ s i *ℤ d) (value_at-less_sum n n (old i) d (λ j. t.value (suc j)) u (λ j k. t.factor (suc j) k) ∙ ap (λ z. z -ℤ sum_below n (λ k. u k *ℤ value_at n (old i) (pos 0) (λ j. t.factor (suc j) k))) (h.at_value i) ∙ ap (λ z. t.value i -ℤ z) factors)
    ∙ omega (arith, ints)

moved_at_factor : (n : ℕ) (old new : ℕ → Form) (delta : ℕ → ℤ) (t : Scaled) → SameSlopes n old new delta → StandsFor n old t → (i k : ℕ) → k < n → value_at n (new i) (pos 0) (λ j. t.factor (suc j) k) ≡ t.factor i k
moved_at_factor n old new delta t same h i k there =
    ap (λ (s : ℕ → ℤ). sum_below n (λ j. s j *ℤ t.factor (suc j) k) +ℤ (new i).constant *ℤ pos 0) (same.slopes i)
    ∙ (let at = h.at_factor i k there in omega (arith, ints))

pub moved_stands : (n : ℕ) (old new : ℕ → Form) (delta : ℕ → ℤ) (t : Scaled) → SameSlopes n old new delta → StandsFor n old t → StandsFor n new (moved_by n (shift_of n old new delta) t)
moved_stands n old new delta t same h = record {
  scale_above_none = h.scale_above_none;
  by_units = moved_by_units n old new delta t same h;
  unit_value = moved_unit n old (shift_of n old new delta) t h;
  unit_factor = h.unit_factor;
  at_value = moved_at_value n old new delta t same h;
  at_factor = moved_at_factor n old new delta t same h;
}

pub moved_positive : (n : ℕ) (shift : ℕ → ℤ) (t : Scaled) → IsPositive n t → IsPositive n (moved_by n shift t)
moved_positive n shift t h = record { columns = h.columns }
