-- Sums of affine functions at points that move.
use Rattle.std.proofs.Common.{◌≡◌, ℕ, zero, suc, ℤ, pos, ◌+ℤ◌, ◌-ℤ◌, ◌*ℤ◌, ap, ◌∙◌, arith}
use Rattle.std.proofs.lemmas.Int.{ints}
use Rattle.ip_model.specs.Sums.{sum_below}
use Rattle.exact_simplex.specs.Tableaus.{Form, value_at}
use Rattle.exact_simplex.proofs.Ring.{difference_of, difference-add, difference-sub, difference-mul, difference-same, mul_comm}
use Rattle.exact_simplex.proofs.SumBelow.{sum_below-add, sum_below-scale, sum_below-same}
use Rattle.exact_simplex.proofs.Pivot.{sum_below-sub}

-- the function at a point that lies q times another one lower
less_term : (s z q y : ℤ) → s *ℤ (z -ℤ q *ℤ y) ≡ s *ℤ z -ℤ q *ℤ (s *ℤ y)
less_term s z q y = rw (difference_of s, difference_of z, difference_of q, difference_of y) (simp (difference-add, difference-sub, difference-mul) (difference-same _ _ _ _ (omega arith)))

pub value_at-less : (n : ℕ) (f : Form) (e q : ℤ) (step other : ℕ → ℤ) → value_at n f e (λ j. step j -ℤ q *ℤ other j) ≡ value_at n f e step -ℤ q *ℤ value_at n f (pos 0) other
value_at-less n f e q step other =
    let terms : sum_below n (λ j. f.slope j *ℤ (step j -ℤ q *ℤ other j)) ≡ sum_below n (λ j. f.slope j *ℤ step j) -ℤ q *ℤ sum_below n (λ j. f.slope j *ℤ other j) =
    sum_below-same n _ (λ j. f.slope j *ℤ step j -ℤ q *ℤ (f.slope j *ℤ other j)) (λ j h. less_term (f.slope j) (step j) q (other j))
    ∙ sum_below-sub n (λ j. f.slope j *ℤ step j) (λ j. q *ℤ (f.slope j *ℤ other j))
    ∙ ap (λ z. sum_below n (λ j. f.slope j *ℤ step j) -ℤ z) (sum_below-scale n q (λ j. f.slope j *ℤ other j)) in
    let plain : sum_below n (λ j. f.slope j *ℤ other j) +ℤ f.constant *ℤ pos 0 ≡ sum_below n (λ j. f.slope j *ℤ other j) = omega (arith, ints) in
    rw plain (omega (arith, ints))

-- the function at a point that lies lower by a sum of such
pub value_at-less_sum : (m n : ℕ) (f : Form) (e : ℤ) (step : ℕ → ℤ) (q : ℕ → ℤ) (other : ℕ → ℕ → ℤ) → value_at n f e (λ j. step j -ℤ sum_below m (λ k. other j k *ℤ q k)) ≡ value_at n f e step -ℤ sum_below m (λ k. q k *ℤ value_at n f (pos 0) (λ j. other j k))
value_at-less_sum zero n f e step q other =
    ap (λ z. z +ℤ f.constant *ℤ e) (sum_below-same n _ (λ j. f.slope j *ℤ step j) (λ j h. ap (λ z. f.slope j *ℤ z) (omega (arith, ints)))) ∙ omega (arith, ints)
value_at-less_sum (suc m) n f e step q other =
    let so_far = value_at-less_sum m n f e step q other in
    let last = value_at-less n f e (q m) (λ j. step j -ℤ sum_below m (λ k. other j k *ℤ q k)) (λ j. other j m) in
    ap (λ z. z +ℤ f.constant *ℤ e) (sum_below-same n _ (λ j. f.slope j *ℤ ((step j -ℤ sum_below m (λ k. other j k *ℤ q k)) -ℤ q m *ℤ other j m)) (λ j h. ap (λ z. f.slope j *ℤ z) (let turned = mul_comm (other j m) (q m) in omega (arith, ints))))
    ∙ last ∙ omega (arith, ints)

-- the function at a point that is moved by e times delta
more_term : (s z e y : ℤ) → s *ℤ (z +ℤ e *ℤ y) ≡ s *ℤ z +ℤ (s *ℤ y) *ℤ e
more_term s z e y = rw (difference_of s, difference_of z, difference_of e, difference_of y) (simp (difference-add, difference-sub, difference-mul) (difference-same _ _ _ _ (omega arith)))

sum_times : (n : ℕ) (a : ℤ) (f : ℕ → ℤ) → sum_below n (λ i. f i *ℤ a) ≡ sum_below n f *ℤ a
sum_times n a f = sum_below-same n _ (λ i. a *ℤ f i) (λ i h. mul_comm (f i) a) ∙ sum_below-scale n a f ∙ mul_comm a (sum_below n f)

pub sum_moved : (n : ℕ) (e : ℤ) (a step delta : ℕ → ℤ) → sum_below n (λ j. a j *ℤ (step j +ℤ e *ℤ delta j)) ≡ sum_below n (λ j. a j *ℤ step j) +ℤ sum_below n (λ j. a j *ℤ delta j) *ℤ e
sum_moved n e a step delta =
    sum_below-same n _ (λ j. a j *ℤ step j +ℤ (a j *ℤ delta j) *ℤ e) (λ j h. more_term (a j) (step j) e (delta j))
    ∙ sum_below-add n (λ j. a j *ℤ step j) (λ j. (a j *ℤ delta j) *ℤ e)
    ∙ ap (λ z. sum_below n (λ j. a j *ℤ step j) +ℤ z) (sum_times n e (λ j. a j *ℤ delta j))

-- the sum of products with sums
pub sum_spread : (n : ℕ) (e : ℤ) (f v s : ℕ → ℤ) → sum_below n (λ k. f k *ℤ (v k +ℤ s k *ℤ e)) ≡ sum_below n (λ k. f k *ℤ v k) +ℤ sum_below n (λ k. f k *ℤ s k) *ℤ e
sum_spread n e f v s = sum_below-same n _ (λ k. f k *ℤ (v k +ℤ e *ℤ s k)) (λ k h. ap (λ z. f k *ℤ (v k +ℤ z)) (mul_comm (s k) e)) ∙ sum_moved n e f v s
