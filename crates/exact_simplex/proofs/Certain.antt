-- What the exact point and duals of a least tableau certify.
use Rattle.std.proofs.Common.{◌≡◌, ℕ, zero, suc, ◌+◌, ◌-◌, ◌*◌, ◌/◌, ◌<◌, ◌≤◌, ◌^◌, min, ℤ, pos, negsuc, ◌+ℤ◌, ◌*ℤ◌, ◌≤ℤ◌, ◌<ℤ◌, sym, ap, subst, ◌∙◌, arith, List, [], ◌∷◌, length, All, slice_index, inl, inr, ◌⊎◌, mul-le-mul}
use Rattle.std.proofs.lemmas.Int.{ints}
use Rattle.std.proofs.lemmas.Nat.{div_below}
use Rattle.std.proofs.Math.Nat.{mul-le-mul_left, le_of_mul-le-mul_left}
use Rattle.bound_certificate.specs.declared.multipliers.Multipliers.{Multipliers}
use Rattle.bound_certificate.specs.Bound.{rounded_up, unrounded_numerator, leaf_bound}
use Rattle.bound_certificate.proofs.LeafBound.{leaf_bound_under_up}
use Rattle.bound_certificate.proofs.RuleFacts.{multipliers_range}
use Rattle.ip_model.specs.declared.parts.Column.{Column}
use Rattle.ip_model.specs.declared.parts.Term.{Term}
use Rattle.ip_model.specs.declared.parts.Line.{Line}
use Rattle.ip_model.specs.declared.parts.Bounds.{Bounds}
use Rattle.ip_model.specs.declared.program.Program.{Program}
use Rattle.ip_model.specs.Limits.{cost_of, top_of, ColumnInRange}
use Rattle.ip_model.proofs.RuleFacts.{program_limits}
use Rattle.ip_model.specs.Sums.{terms_at, total_below}
use Rattle.ip_model.specs.Points.{IsBoxOf, IsPointIn, LiesIn, MeetsLine, value_over}
use Rattle.exact_simplex.proofs.Ring.{mul_left_comm, mul-add}
use Rattle.exact_simplex.proofs.Integers.{mul-le}

-- the same point over another denominator: y over e is x over d
abbrev pub AreSamePoints : ℕ → ℕ → (ℕ → ℕ) → ℕ → (ℕ → ℕ) → Type 0
AreSamePoints n d x e y = (j : ℕ) → j < n → y j * d ≡ e * x j

exchange : (a b c : ℕ) → a * (b * c) ≡ b * (a * c)
exchange a b c = omega arith

turn : (a b c : ℕ) → (a * b) * c ≡ (a * c) * b
turn a b c = omega arith

low_bound : (d e low x y : ℕ) → 1 ≤ d → d * low ≤ x → y * d ≡ e * x → e * low ≤ y
low_bound d e low x y some h is =
    let up = mul-le-mul_left e h in
    le_of_mul-le-mul_left (subst (λ m. d * (e * low) ≤ m) (sym is ∙ omega arith) (subst (λ m. m ≤ e * x) (exchange e d low) up)) some

high_bound : (d e high x y : ℕ) → 1 ≤ d → x ≤ d * high → y * d ≡ e * x → y ≤ e * high
high_bound d e high x y some h is =
    let up = mul-le-mul_left e h in
    le_of_mul-le-mul_left (subst (λ m. m ≤ d * (e * high)) (sym is ∙ omega arith) (subst (λ m. e * x ≤ m) (exchange e d high) up)) some

term_scaled : (f : ℤ) (d e x y : ℕ) → y * d ≡ e * x → pos d *ℤ (f *ℤ pos y) ≡ pos e *ℤ (f *ℤ pos x)
term_scaled f d e x y is = mul_left_comm (pos d) f (pos y) ∙ ap (λ z. f *ℤ z) (ap pos (turned d e x y is)) ∙ mul_left_comm f (pos e) (pos x)
  where
    turned : (d e x y : ℕ) → y * d ≡ e * x → d * y ≡ e * x
    turned d e x y is = omega arith

terms_scaled : (n d e : ℕ) (x y : ℕ → ℕ) (terms : List Term) → AreSamePoints n d x e y → All (λ t. t.column < n) terms → pos d *ℤ terms_at terms y ≡ pos e *ℤ terms_at terms x
terms_scaled n d e x y [] same within = omega (arith, ints)
terms_scaled n d e x y (t ∷ ts) same within =
    let rest = terms_scaled n d e x y ts same (λ k q p. within (suc k) q (omega arith)) in
    let here = term_scaled t.factor d e (x t.column) (y t.column) (same t.column (within 0 t (omega arith))) in
    mul-add (pos d) (t.factor *ℤ pos (y t.column)) (terms_at ts y) ∙ ap (λ z. z +ℤ pos d *ℤ terms_at ts y) here ∙ ap (λ z. pos e *ℤ (t.factor *ℤ pos (x t.column)) +ℤ z) rest ∙ sym (mul-add (pos e) (t.factor *ℤ pos (x t.column)) (terms_at ts x))

pub cancel_le : (d : ℕ) (a b : ℤ) → 1 ≤ d → (pos d *ℤ a) ≤ℤ (pos d *ℤ b) → a ≤ℤ b
cancel_le d a b some h =
    elim (either a b) [
      | inl p ↦ p
      | inr p ↦ absurd (omega (arith, ints, strictly d a b some p))
    ]
  where
    either : (a b : ℤ) → (a ≤ℤ b) ⊎ (b <ℤ a)
    either a b = grind (arith, ints)

    strictly : (d : ℕ) (a b : ℤ) → 1 ≤ d → b <ℤ a → (pos d *ℤ b) <ℤ (pos d *ℤ a)
    strictly d a b some p =
        let up : (b +ℤ pos 1) ≤ℤ a = omega (arith, ints) in
        let wide = mul-le d (b +ℤ pos 1) a up in
        let split = mul-add (pos d) b (pos 1) in
        omega (arith, ints)

line_scaled : (n d e : ℕ) (x y : ℕ → ℕ) (line : Line) → 1 ≤ d → AreSamePoints n d x e y → All (λ t. t.column < n) line.terms → MeetsLine d x line → MeetsLine e y line
line_scaled n d e x y line some same within meets =
    let up = mul-le e (pos d *ℤ line.least) (terms_at line.terms x) meets in
    let is = terms_scaled n d e x y line.terms same within in
    let left = mul_left_comm (pos e) (pos d) line.least in
    cancel_le d (pos e *ℤ line.least) (terms_at line.terms y) some (omega (arith, ints))

lines_scaled : (n d e : ℕ) (x y : ℕ → ℕ) (lines : List Line) → 1 ≤ d → AreSamePoints n d x e y → All (λ line. All (λ t. t.column < n) line.terms) lines → All (MeetsLine d x) lines → All (MeetsLine e y) lines
lines_scaled n d e x y [] some same within meets k q p = absurd (omega arith)
lines_scaled n d e x y (line ∷ lines) some same within meets zero q p = line_scaled n d e x y line some same (within 0 line (omega arith)) (meets 0 line (omega arith))
lines_scaled n d e x y (line ∷ lines) some same within meets (suc k) q p = lines_scaled n d e x y lines some same (λ i r s. within (suc i) r (omega arith)) (λ i r s. meets (suc i) r (omega arith)) k q (omega arith)

-- the same point over another denominator lies in the relaxation too
pub point_scaled : (program : Program) (box : Bounds) (d e : ℕ) (x y : ℕ → ℕ) → 1 ≤ d → AreSamePoints (length program.columns) d x e y → All (λ line. All (λ t. t.column < length program.columns) line.terms) program.rows → IsPointIn program box d x → IsPointIn program box e y
point_scaled program box d e x y some same within h = record {
  lies = record {
    above = λ j p. low_bound d e (slice_index box.low j) (x j) (y j) some (h.lies.above j p) (same j p);
    below = λ j p. high_bound d e (slice_index box.high j) (x j) (y j) some (h.lies.below j p) (same j p);
  };
  meets = lines_scaled (length program.columns) d e x y program.rows some same within h.meets;
}

total_scaled : (n d e : ℕ) (cost x y : ℕ → ℕ) → AreSamePoints n d x e y → d * total_below n (λ j. cost j * y j) ≡ e * total_below n (λ j. cost j * x j)
total_scaled zero d e cost x y same = omega arith
total_scaled (suc n) d e cost x y same =
    let before = total_scaled n d e cost x y (λ j p. same j (omega arith)) in
    split d (total_below n (λ j. cost j * y j)) (cost n) (y n) ∙ ap (λ m. m + cost n * (y n * d)) before ∙ ap (λ m. e * total_below n (λ j. cost j * x j) + cost n * m) (same n (omega arith)) ∙ join e (total_below n (λ j. cost j * x j)) (cost n) (x n)
  where
    split : (d t c y : ℕ) → d * (t + c * y) ≡ d * t + c * (y * d)
    split d t c y = omega arith

    join : (e t c x : ℕ) → e * t + c * (e * x) ≡ e * (t + c * x)
    join e t c x = omega arith

pub value_scaled : (program : Program) (d e : ℕ) (x y : ℕ → ℕ) → AreSamePoints (length program.columns) d x e y → d * value_over program e y ≡ e * value_over program d x
value_scaled program d e x y same =
    let total = total_scaled (length program.columns) d e (cost_of program.columns) x y same in
    by d e program.base (total_below (length program.columns) (λ j. cost_of program.columns j * y j)) (total_below (length program.columns) (λ j. cost_of program.columns j * x j)) total
  where
    by : (d e b s t : ℕ) → d * s ≡ e * t → d * (e * b + s) ≡ e * (d * b + t)
    by d e b s t h = omega (arith, h)

cancel_same : (d : ℕ) (a b : ℤ) → 1 ≤ d → pos d *ℤ a ≡ pos d *ℤ b → a ≡ b
cancel_same d a b some h =
    let p = cancel_le d a b some (omega (arith, ints)) in
    let q = cancel_le d b a some (omega (arith, ints)) in
    omega (arith, ints)

-- the unrounded bound is the value, over the denominators of both
pub unrounded_scaled : (u : ℤ) (s d m v w : ℕ) → 1 ≤ s → pos s *ℤ u ≡ pos (m * v) → s * w ≡ d * v → pos d *ℤ u ≡ pos (m * w)
unrounded_scaled u s d m v w some shown value =
    let left : pos s *ℤ (pos d *ℤ u) ≡ pos d *ℤ pos (m * v) = mul_left_comm (pos s) (pos d) u ∙ ap (λ z. pos d *ℤ z) shown in
    let right : s * (m * w) ≡ d * (m * v) = exchange s m w ∙ ap (λ k. m * k) value ∙ exchange m d v in
    cancel_same s (pos d *ℤ u) (pos (m * w)) some (left ∙ ap pos (sym right))

-- a number that is at most d times q is, over d and rounded up, at most q
up_most : (w d q : ℕ) → 1 ≤ d → w ≤ d * q → (w + (d - 1)) / d ≤ q
up_most w d q some h =
    let below : w + (d - 1) < suc q * d = spread w d q some h in
    let under = div_below (w + (d - 1)) d (suc q) some below in
    omega (arith, under)
  where
    spread : (w d q : ℕ) → 1 ≤ d → w ≤ d * q → w + (d - 1) < suc q * d
    spread w d q some h = omega (arith, h)

least_up : (n m d w : ℕ) → 1 ≤ m → 1 ≤ d → d * n ≡ m * w → (w + (d - 1)) / d ≤ (n + (m - 1)) / m
least_up n m d w one some is =
    let q = (n + (m - 1)) / m in
    let above : n ≤ m * q = not_below n m one in
    let scaled = mul-le-mul_left d above in
    let wide : m * w ≤ m * (d * q) = subst (λ k. k ≤ m * (d * q)) is (subst (λ k. d * n ≤ k) (exchange d m q) scaled) in
    up_most w d q some (le_of_mul-le-mul_left wide one)
  where
    not_below : (v den : ℕ) → 1 ≤ den → v ≤ den * ((v + (den - 1)) / den)
    not_below v den some = omega arith

pub rounded_least : (u : ℤ) (m d w : ℕ) → 1 ≤ m → 1 ≤ d → pos d *ℤ u ≡ pos (m * w) → (w + (d - 1)) / d ≤ rounded_up u m
rounded_least (pos n) m d w one some is = least_up n m d w one some (omega (arith, ints))
rounded_least (negsuc n) m zero w one some is = absurd (omega arith)
rounded_least (negsuc n) m (suc d) w one some is = absurd (omega (arith, ints))

total_most : (n k : ℕ) (cost x : ℕ → ℕ) → ((j : ℕ) → j < n → cost j * x j ≤ k) → total_below n (λ j. cost j * x j) ≤ n * k
total_most zero k cost x h = omega arith
total_most (suc n) k cost x h =
    let before = total_most n k cost x (λ j p. h j (omega arith)) in
    let last = h n (omega arith) in
    omega (arith, before, last)

cost_small : (columns : List Column) (j : ℕ) → All ColumnInRange columns → cost_of columns j ≤ 10000
cost_small [] j h = omega arith
cost_small (c ∷ columns) zero h = (h 0 c (omega arith)).cost
cost_small (c ∷ columns) (suc j) h = cost_small columns j (λ k d p. h (suc k) d (omega arith))

pub top_small : (columns : List Column) (j : ℕ) → All ColumnInRange columns → top_of columns j ≤ 20000000
top_small [] j h = omega arith
top_small (c ∷ columns) zero h = (h 0 c (omega arith)).top
top_small (c ∷ columns) (suc j) h = top_small columns j (λ k d p. h (suc k) d (omega arith))

-- the value of a point of the box, rounded up, is at most 2^62
value_up_most : (program : Program) (box : Bounds) (den : ℕ) (x : ℕ → ℕ) → 1 ≤ den → IsBoxOf program box → LiesIn program box den x → (value_over program den x + (den - 1)) / den ≤ 2 ^ 62
value_up_most program box den x some is_box lies =
    let limits = program_limits program in
    let terms = total_most (length program.columns) (10000 * (den * 20000000)) (cost_of program.columns) x (λ j p.
    let cost = cost_small program.columns j limits.columns_in in
    let top = top_small program.columns j limits.columns_in in
    let within = is_box.within j in
    let number : x j ≤ den * 20000000 = chain (lies.below j p) (mul-le-mul_left den (chain within top)) in
    mul-le-mul cost number) in
    let few : length program.columns * (10000 * (den * 20000000)) ≤ 2048 * (10000 * (den * 20000000)) = mul-le-mul limits.few_columns (same_le (10000 * (den * 20000000))) in
    let base = mul-le-mul_left den limits.base_bound in
    up_most (value_over program den x) den (2 ^ 62) some (sum_most den (den * program.base) (total_below (length program.columns) (λ j. cost_of program.columns j * x j)) base (chain terms few))
  where
    chain : {x y z : ℕ} → x ≤ y → y ≤ z → x ≤ z
    chain p q = omega arith

    same_le : (x : ℕ) → x ≤ x
    same_le x = omega arith

    sum_most : (d b t : ℕ) → b ≤ d * 2 ^ 48 → t ≤ 2048 * (10000 * (d * 20000000)) → b + t ≤ d * 2 ^ 62
    sum_most d b t p q = omega (arith, p, q)

-- a bound that is the value before rounding is the value after
pub bound_is_value : (program : Program) (box : Bounds) (y : Multipliers) (den : ℕ) (x : ℕ → ℕ) → 1 ≤ den → IsBoxOf program box → IsPointIn program box den x → pos den *ℤ unrounded_numerator program box y ≡ pos (y.den * value_over program den x) → leaf_bound program box y ≡ (value_over program den x + (den - 1)) / den
bound_is_value program box y den x some is_box is same =
    let most = value_up_most program box den x some is_box is.lies in
    let under = leaf_bound_under_up program box y den x some is in
    let least = rounded_least (unrounded_numerator program box y) y.den den (value_over program den x) (multipliers_range y).den_above_none some same in
    between (rounded_up (unrounded_numerator program box y) y.den) ((value_over program den x + (den - 1)) / den) (2 ^ 62) under least most
  where
    between : (a b m : ℕ) → min a m ≤ b → b ≤ a → b ≤ m → min a m ≡ b
    between a b m p q r = omega (arith, p, q, r)
