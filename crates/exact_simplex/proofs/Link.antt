-- What certificate multipliers show, from what the weights of the rows show.
use Rattle.std.proofs.Common.{◌≡◌, ℕ, suc, ◌+◌, ◌*◌, ◌<◌, ℤ, pos, ◌+ℤ◌, ◌-ℤ◌, ◌*ℤ◌, ◌≤ℤ◌, refl, sym, ap, ◌∙◌, arith, if◌then◌else◌, ◌==◌, inl, inr, ◌⊎◌, List, [], ◌∷◌, length, All}
use Rattle.std.proofs.lemmas.Int.{ints, clamps}
use Rattle.std.proofs.lemmas.Bool.Decides.{eqb_tells}
use Rattle.std.specs.Int.{int_min}
use Rattle.ip_model.specs.declared.parts.Line.{Line}
use Rattle.ip_model.specs.declared.parts.Bounds.{Bounds}
use Rattle.ip_model.specs.declared.program.Program.{Program}
use Rattle.ip_model.specs.Limits.{cost_of}
use Rattle.ip_model.specs.Sums.{sum_below, factor_of}
use Rattle.bound_certificate.specs.declared.multipliers.Top.{Top}
use Rattle.bound_certificate.specs.Bound.{terms_of, least_of, combined_factor, combined_least, reduced_cost, box_sum, weighted_total}
use Rattle.exact_simplex.specs.Forms.{parts_of}
use Rattle.exact_simplex.specs.Duals.{num_at, AreWeights}
use Rattle.exact_simplex.proofs.Ring.{mul_assoc, mul-add, move_scale, scaled_less, scaled_back}
use Rattle.exact_simplex.proofs.Integers.{mul-le}
use Rattle.exact_simplex.proofs.SumBelow.{sum_below-scale, sum_below-same}
use Rattle.exact_simplex.proofs.Weights.{taken_off, shown_by}
use Rattle.exact_simplex.proofs.Places.{pick, none_picked, sum_of_products}

abbrev pub combined : (ℕ → ℤ) → List Top → ℤ
combined f [] = pos 0
combined f (top ∷ tops) = pos top.num *ℤ f top.row +ℤ combined f tops

factor_is : (rows : List Line) (tops : List Top) (j : ℕ) → combined_factor rows tops j ≡ combined (λ i. factor_of (terms_of rows i) j) tops
factor_is rows [] j = refl
factor_is rows (top ∷ tops) j = ap (λ z. pos top.num *ℤ factor_of (terms_of rows top.row) j +ℤ z) (factor_is rows tops j)

least_is : (rows : List Line) (tops : List Top) → combined_least rows tops ≡ combined (least_of rows) tops
least_is rows [] = refl
least_is rows (top ∷ tops) = ap (λ z. pos top.num *ℤ least_of rows top.row +ℤ z) (least_is rows tops)

choice_is : (i k n m : ℕ) → pos ((if i == k then n else 0) + m) ≡ (if i == k then pos n else pos 0) +ℤ pos m
choice_is i k n m =
    elim (eqb_tells i k) [
      | inl x ↦ rw x.0 refl
      | inr x ↦ rw x.0 refl
    ]

by_rows : (m : ℕ) (f : ℕ → ℤ) (tops : List Top) → All (λ top. top.row < m) tops → combined f tops ≡ sum_below m (λ i. pos (num_at tops i) *ℤ f i)
by_rows m f [] h = sym (none_picked m f)
by_rows m f (top ∷ tops) h =
    let rest = by_rows m f tops (λ k d p. h (suc k) d (omega arith)) in
    let here = pick m top.row (pos top.num) f (h 0 top (omega arith)) in
    let split = sum_of_products m (λ i. if i == top.row then pos top.num else pos 0) (λ i. pos (num_at tops i)) f in
    let same = sum_below-same m (λ i. pos (num_at (top ∷ tops) i) *ℤ f i) (λ i. ((if i == top.row then pos top.num else pos 0) +ℤ pos (num_at tops i)) *ℤ f i) (λ i p. ap (λ z. z *ℤ f i) (choice_is i top.row top.num (num_at tops i))) in
    ap (λ z. pos top.num *ℤ f top.row +ℤ z) rest ∙ ap (λ z. z +ℤ sum_below m (λ i. pos (num_at tops i) *ℤ f i)) (sym here) ∙ sym split ∙ sym same

scaled_rows : (m : ℕ) (f : ℕ → ℤ) (tops : List Top) (den scale : ℕ) (y : ℕ → ℤ) → AreWeights m den scale tops y → pos scale *ℤ combined f tops ≡ pos den *ℤ sum_below m (λ i. y i *ℤ f i)
scaled_rows m f tops den scale y h =
    ap (λ z. pos scale *ℤ z) (by_rows m f tops h.there)
    ∙ sym (sum_below-scale m (pos scale) (λ i. pos (num_at tops i) *ℤ f i))
    ∙ sum_below-same m _ _ (λ i p. move_scale (pos scale) (pos (num_at tops i)) (f i) ∙ ap (λ z. z *ℤ f i) (h.nums i p) ∙ mul_assoc (pos den) (y i) (f i))
    ∙ sum_below-scale m (pos den) (λ i. y i *ℤ f i)

either : (a b : ℤ) → (a ≤ℤ b) ⊎ (b ≤ℤ a)
either a b = grind (arith, ints)

least_left : (a b : ℤ) → a ≤ℤ b → int_min a b ≡ a
least_left a b p = omega (arith, ints, clamps)

least_right : (a b : ℤ) → b ≤ℤ a → int_min a b ≡ b
least_right a b p = omega (arith, ints, clamps)

min_scale : (q : ℕ) (a b : ℤ) → pos q *ℤ int_min a b ≡ int_min (pos q *ℤ a) (pos q *ℤ b)
min_scale q a b =
    elim (either a b) [
      | inl p ↦ let m = mul-le q a b p in omega (arith, ints, clamps, ap (λ z. pos q *ℤ z) (least_left a b p))
      | inr p ↦ let m = mul-le q b a p in omega (arith, ints, clamps, ap (λ z. pos q *ℤ z) (least_right a b p))
    ]

column_scale : (d q : ℕ) (e g l h : ℤ) → pos d *ℤ e ≡ pos q *ℤ g → pos d *ℤ int_min (e *ℤ l) (e *ℤ h) ≡ pos q *ℤ int_min (g *ℤ l) (g *ℤ h)
column_scale d q e g l h is =
    min_scale d (e *ℤ l) (e *ℤ h)
    ∙ ap (λ z. int_min z (pos d *ℤ (e *ℤ h))) (sym (mul_assoc (pos d) e l) ∙ ap (λ z. z *ℤ l) is ∙ mul_assoc (pos q) g l)
    ∙ ap (λ z. int_min (pos q *ℤ (g *ℤ l)) z) (sym (mul_assoc (pos d) e h) ∙ ap (λ z. z *ℤ h) is ∙ mul_assoc (pos q) g h)
    ∙ sym (min_scale q (g *ℤ l) (g *ℤ h))

reduced_scale : (program : Program) (box : Bounds) (tops : List Top) (den scale times : ℕ) (c : ℤ) (y : ℕ → ℤ) (j : ℕ) → AreWeights (length program.rows) den scale tops y → pos times *ℤ pos scale ≡ pos den *ℤ c → pos scale *ℤ reduced_cost program tops times j ≡ pos den *ℤ (c *ℤ pos (cost_of program.columns j) -ℤ taken_off (parts_of program box) y j)
reduced_scale program box tops den scale times c y j h is =
    let k = pos (cost_of program.columns j) in
    scaled_less (pos scale) (pos times) k (combined_factor program.rows tops j)
    ∙ ap (λ z. z *ℤ k -ℤ pos scale *ℤ combined_factor program.rows tops j) is
    ∙ ap (λ z. (pos den *ℤ c) *ℤ k -ℤ z) (ap (λ z. pos scale *ℤ z) (factor_is program.rows tops j) ∙ scaled_rows (length program.rows) (λ i. factor_of (terms_of program.rows i) j) tops den scale y h)
    ∙ scaled_back (pos den) c k (taken_off (parts_of program box) y j)

three_parts : (a b c x y z : ℤ) → a ≡ x → b ≡ y → c ≡ z → (a +ℤ b) +ℤ c ≡ x +ℤ (y +ℤ z)
three_parts a b c x y z p q r = omega (arith, ints)

pub shown_scale : (program : Program) (box : Bounds) (tops : List Top) (den scale times : ℕ) (c : ℤ) (y : ℕ → ℤ) → AreWeights (length program.rows) den scale tops y → pos times *ℤ pos scale ≡ pos den *ℤ c → pos scale *ℤ weighted_total program box tops times ≡ pos den *ℤ (c *ℤ pos program.base +ℤ shown_by (parts_of program box) c y)
shown_scale program box tops den scale times c y h is =
    let p = parts_of program box in
    let n = length program.columns in
    let m = length program.rows in
    let e : ℕ → ℤ = reduced_cost program tops times in
    let g : ℕ → ℤ = λ j. c *ℤ pos (p.cost j) -ℤ taken_off p y j in
    let boxed : pos scale *ℤ box_sum n e box ≡ pos den *ℤ sum_below n (λ j. int_min (g j *ℤ pos (p.low j)) (g j *ℤ pos (p.high j))) =
    sym (sum_below-scale n (pos scale) (λ j. int_min (e j *ℤ pos (p.low j)) (e j *ℤ pos (p.high j))))
    ∙ sum_below-same n _ (λ j. pos den *ℤ int_min (g j *ℤ pos (p.low j)) (g j *ℤ pos (p.high j))) (λ j q. column_scale scale den (e j) (g j) (pos (p.low j)) (pos (p.high j)) (reduced_scale program box tops den scale times c y j h is))
    ∙ sum_below-scale n (pos den) (λ j. int_min (g j *ℤ pos (p.low j)) (g j *ℤ pos (p.high j))) in
    let rows : pos scale *ℤ combined_least program.rows tops ≡ pos den *ℤ sum_below m (λ i. y i *ℤ p.least i) = ap (λ z. pos scale *ℤ z) (least_is program.rows tops) ∙ scaled_rows m (least_of program.rows) tops den scale y h in
    let base : pos scale *ℤ pos (times * program.base) ≡ pos den *ℤ (c *ℤ pos program.base) = move_scale (pos scale) (pos times) (pos program.base) ∙ ap (λ z. z *ℤ pos program.base) is ∙ mul_assoc (pos den) c (pos program.base) in
    let rest = sum_below m (λ i. y i *ℤ p.least i) in
    let last = sum_below n (λ j. int_min (g j *ℤ pos (p.low j)) (g j *ℤ pos (p.high j))) in
    let a = mul-add (pos scale) (pos (times * program.base) +ℤ combined_least program.rows tops) (box_sum n e box) in
    let b = mul-add (pos scale) (pos (times * program.base)) (combined_least program.rows tops) in
    let d = mul-add (pos den) (c *ℤ pos program.base) (rest +ℤ last) in
    let f = mul-add (pos den) rest last in
    a ∙ ap (λ z. z +ℤ pos scale *ℤ box_sum n e box) b ∙ three_parts _ _ _ _ _ _ base rows boxed ∙ ap (λ z. pos den *ℤ (c *ℤ pos program.base) +ℤ z) (sym f) ∙ sym d
