-- The point of a least tableau.
use Rattle.std.proofs.Common.{◌≡◌, ℕ, zero, suc, ◌+◌, ◌-◌, ◌*◌, ◌<◌, ◌≤◌, ℤ, pos, negsuc, ◌+ℤ◌, ◌-ℤ◌, ◌*ℤ◌, ◌≤ℤ◌, unsigned_abs, refl, ap, subst, ◌∙◌, arith, if◌then◌else◌, ◌==◌, true, false, nat_lt, List, [], ◌∷◌, length, All, slice_index}
use Rattle.std.proofs.lemmas.Int.{ints}
use Rattle.ip_model.specs.declared.parts.Line.{Line}
use Rattle.ip_model.specs.declared.parts.Bounds.{Bounds}
use Rattle.ip_model.specs.declared.program.Program.{Program}
use Rattle.ip_model.specs.Sums.{sum_below, total_below, terms_at}
use Rattle.ip_model.specs.Points.{MeetsLine, IsPointIn, value_over}
use Rattle.bound_certificate.specs.Bound.{terms_of, least_of}
use Rattle.bound_certificate.proofs.Duality.{by_columns}
use Rattle.bound_certificate.proofs.LeafBound.{columns_in}
use Rattle.exact_simplex.specs.Tableaus.{value_at, Scaled, StandsFor}
use Rattle.exact_simplex.specs.Forms.{step, surplus, room, place_of, form_at, forms_of, parts_of}
use Rattle.exact_simplex.proofs.Ring.{mul_comm, low_and_step, sub-mul, room_ring}
use Rattle.exact_simplex.proofs.Integers.{add-mul}
use Rattle.exact_simplex.proofs.Places.{pick}
use Rattle.ip_model.proofs.RuleFacts.{program_limits}

lt_true : (a b : ℕ) → a < b → nat_lt a b ≡ true
lt_true a b h = grind arith

lt_false : (a b : ℕ) → b ≤ a → nat_lt a b ≡ false
lt_false a b h = grind arith

pub step_place : (n m j : ℕ) → j < n → place_of n m (suc j) ≡ step j
step_place n m j h = rw (lt_true j n h) refl

pub surplus_place : (n m i : ℕ) → i < m → place_of n m (suc (n + i)) ≡ surplus i
surplus_place n m i h =
    let back : (n + i) - n ≡ i = omega arith in
    rw (lt_false (n + i) n (omega arith), lt_true (n + i) (n + m) (omega arith), back) refl

pub room_place : (n m j : ℕ) → place_of n m (suc (n + m + j)) ≡ room j
room_place n m j =
    let back : (n + m + j) - (n + m) ≡ j = omega arith in
    rw (lt_false (n + m + j) n (omega arith), lt_false (n + m + j) (n + m) (omega arith), back) refl

-- no value from row 1 on is below 0
pub record IsLeast (t : Scaled) : Type 0 where
  pub over : (i : ℕ) → 1 ≤ i → pos 0 ≤ℤ t.value i

-- the numerators of the point, over the scale
abbrev pub point_of : Bounds → Scaled → ℕ → ℕ
point_of box t j = t.scale * slice_index box.low j + unsigned_abs (t.value (suc j))

size_of : (z : ℤ) → pos 0 ≤ℤ z → pos (unsigned_abs z) ≡ z
size_of (pos n) h = refl
size_of (negsuc n) h = absurd (omega (arith, ints))

room_value : (n c : ℕ) (l h d : ℤ) (v : ℕ → ℤ) → c < n → sum_below n (λ j. (if j == c then pos 0 -ℤ pos 1 else pos 0) *ℤ v j) +ℤ (h -ℤ l) *ℤ d ≡ h *ℤ d -ℤ (l *ℤ d +ℤ v c)
room_value n c l h d v there = ap (λ z. z +ℤ (h -ℤ l) *ℤ d) (pick n c (pos 0 -ℤ pos 1) v there) ∙ room_ring (pos 1) (v c) l h d ∙ ap (λ z. h *ℤ d -ℤ (l *ℤ d +ℤ z)) (omega (arith, ints))

rows_meet : (rows : List Line) (den : ℕ) (x : ℕ → ℕ) → ((i : ℕ) → i < length rows → (pos den *ℤ least_of rows i) ≤ℤ terms_at (terms_of rows i) x) → All (MeetsLine den x) rows
rows_meet [] den x h k d p = absurd (omega arith)
rows_meet (line ∷ rows) den x h zero d p = h 0 (omega arith)
rows_meet (line ∷ rows) den x h (suc k) d p = rows_meet rows den x (λ i q. h (suc i) (omega arith)) k d (omega arith)

-- the sum at the point, from the sum at the steps
at_point : (n : ℕ) (f : ℕ → ℤ) (d : ℕ) (low x : ℕ → ℕ) (v : ℕ → ℤ) → ((j : ℕ) → pos (x j) ≡ pos (d * low j) +ℤ v j) → sum_below n (λ j. f j *ℤ pos (x j)) ≡ sum_below n (λ j. f j *ℤ v j) +ℤ sum_below n (λ j. f j *ℤ pos (low j)) *ℤ pos d
at_point zero f d low x v is = omega (arith, ints)
at_point (suc n) f d low x v is =
    let before = at_point n f d low x v is in
    let last : f n *ℤ pos (x n) ≡ f n *ℤ v n +ℤ (f n *ℤ pos (low n)) *ℤ pos d = ap (λ z. f n *ℤ z) (is n) ∙ low_and_step (f n) (v n) (pos (low n)) (pos d) in
    omega (arith, ints, add-mul (sum_below n (λ j. f j *ℤ pos (low j))) (f n *ℤ pos (low n)) (pos d))

natural_sum : (n : ℕ) (c x : ℕ → ℕ) → pos (total_below n (λ j. c j * x j)) ≡ sum_below n (λ j. pos (c j) *ℤ pos (x j))
natural_sum zero c x = refl
natural_sum (suc n) c x = let h = natural_sum n c x in omega (arith, ints)

pub least_lies : (program : Program) (box : Bounds) (t : Scaled) → StandsFor (length program.columns) (forms_of (parts_of program box)) t → IsLeast t → IsPointIn program box t.scale (point_of box t)
least_lies program box t h least =
    let p = parts_of program box in
    let n = length program.columns in
    let m = length program.rows in
    let steps : ℕ → ℤ = λ j. t.value (suc j) in
    let is : (j : ℕ) → pos (point_of box t j) ≡ pos (t.scale * p.low j) +ℤ steps j = λ j. (let e = size_of (t.value (suc j)) (least.over (suc j) (omega arith)) in omega (arith, ints)) in
    record {
      lies = record {
        above = λ j q. omega arith;
        below = λ j q. (
            let above = least.over (suc (n + m + j)) (omega arith) in
            let at : value_at n (form_at p (room j)) (pos t.scale) steps ≡ t.value (suc (n + m + j)) = subst (λ w. value_at n (form_at p w) (pos t.scale) steps ≡ t.value (suc (n + m + j))) (room_place n m j) (h.at_value (suc (n + m + j))) in
            let room_is = room_value n j (pos (p.low j)) (pos (p.high j)) (pos t.scale) steps q in
            let here = is j in
            omega (arith, ints));
      };
      meets = rows_meet program.rows t.scale (point_of box t) (λ i q. (
          let above = least.over (suc (n + i)) (omega arith) in
          let f = p.factor i in
          let at : value_at n (form_at p (surplus i)) (pos t.scale) steps ≡ t.value (suc (n + i)) = subst (λ w. value_at n (form_at p w) (pos t.scale) steps ≡ t.value (suc (n + i))) (surplus_place n m i q) (h.at_value (suc (n + i))) in
          let sum = at_point n f t.scale p.low (point_of box t) steps is in
          let columns = by_columns n (terms_of program.rows i) (point_of box t) (columns_in n program.rows i (λ k d r l e s. (((program_limits program).rows_in k d r).terms l e s).column)) in
          let split = sub-mul (sum_below n (λ j. f j *ℤ pos (p.low j))) (p.least i) (pos t.scale) in
          omega (arith, ints, mul_comm (pos t.scale) (p.least i))));
    }

-- its value is the base and the value of row 0
pub least_value : (program : Program) (box : Bounds) (t : Scaled) → StandsFor (length program.columns) (forms_of (parts_of program box)) t → IsLeast t → pos (value_over program t.scale (point_of box t)) ≡ pos (t.scale * program.base) +ℤ t.value 0
least_value program box t h least =
    let p = parts_of program box in
    let n = length program.columns in
    let steps : ℕ → ℤ = λ j. t.value (suc j) in
    let is : (j : ℕ) → pos (point_of box t j) ≡ pos (t.scale * p.low j) +ℤ steps j = λ j. (let e = size_of (t.value (suc j)) (least.over (suc j) (omega arith)) in omega (arith, ints)) in
    let at = h.at_value 0 in
    let sum = at_point n (λ j. pos (p.cost j)) t.scale p.low (point_of box t) steps is in
    let total = natural_sum n p.cost (point_of box t) in
    omega (arith, ints)
