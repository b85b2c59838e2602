-- A split parts the ways to set the count columns.
use Rattle.std.proofs.Common.{◌≡◌, ℕ, zero, suc, ◌+◌, ◌-◌, ◌*◌, ◌<◌, ◌≤◌, ◌≢◌, ◌∙◌, ap, sym, refl, subst, arith, List, [], ◌∷◌, length, map, Bool, true, false, if◌then◌else◌, slice_index, inl, inr}
use Rattle.std.proofs.lemmas.Bool.{cases_eq}
use Rattle.std.proofs.lemmas.List.{get_or-set_same, get_or-set_other}
use Rattle.std.proofs.lemmas.Nat.{mul-le}
use Rattle.std.proofs.Math.Nat.{mul-add, add-mul, mul_assoc}
use Rattle.ip_model.specs.declared.parts.Bounds.{Bounds}
use Rattle.ip_model.specs.declared.parts.Column.{Column}
use Rattle.ip_model.specs.declared.program.Program.{Program}
use Rattle.ip_model.specs.Choices.{choices_of}
use Rattle.ip_model.specs.Limits.{helper_at, is_helper}
use Rattle.ip_model.specs.Points.{full_box_of, IsBoxOf}
use Rattle.bound_certificate.specs.Trees.{low_side, high_side}
use Rattle.bound_certificate.proofs.WalkSteps.{low_of_full}
use Rattle.search_tree.specs.Ways.{product_below, width_at, ways}

product_same : (n : ℕ) (f g : ℕ → ℕ) → ((j : ℕ) → j < n → f j ≡ g j) → product_below n f ≡ product_below n g
product_same zero f g h = refl
product_same (suc n) f g h = ap (λ (a : ℕ). a * f n) (product_same n f g (λ j p. h j (omega arith))) ∙ ap (λ (a : ℕ). product_below n g * a) (h n (omega arith))

pub product_some : (n : ℕ) (f : ℕ → ℕ) → ((j : ℕ) → j < n → 1 ≤ f j) → 1 ≤ product_below n f
product_some zero f h = omega arith
product_some (suc n) f h = mul-le 1 1 (product_below n f) (f n) (product_some n f (λ j p. h j (omega arith))) (h n (omega arith))

-- two products that differ in one factor
product_parted : (n column : ℕ) (f g h : ℕ → ℕ) → column < n → f column + g column ≡ h column → ((j : ℕ) → j ≢ column → f j ≡ h j) → ((j : ℕ) → j ≢ column → g j ≡ h j) → product_below n f + product_below n g ≡ product_below n h
product_parted zero column f g h p sum same other = absurd (omega arith)
product_parted (suc n) column f g h p sum same other = elim (cases_eq n column) [
  | inl e ↦
      let first = product_same n f h (λ j q. same j (λ k. omega arith)) in
      let second = product_same n g h (λ j q. other j (λ k. omega arith)) in
      ap (λ (a : ℕ). a * f n + product_below n g * g n) first ∙ ap (λ (a : ℕ). product_below n h * f n + a * g n) second
      ∙ sym (mul-add (product_below n h) (f n) (g n)) ∙ ap (λ (a : ℕ). product_below n h * a) (subst (λ (k : ℕ). f k + g k ≡ h k) (sym e) sum)
  | inr e ↦
      let rest = product_parted n column f g h (omega arith) sum same other in
      ap (λ (a : ℕ). product_below n f * a + product_below n g * g n) (same n e) ∙ ap (λ (a : ℕ). product_below n f * h n + product_below n g * a) (other n e)
      ∙ sym (add-mul (product_below n f) (product_below n g) (h n)) ∙ ap (λ (a : ℕ). a * h n) rest
]

width_of_helper : (program : Program) (box : Bounds) (j : ℕ) → helper_at program.columns j ≡ true → width_at program box j ≡ 1
width_of_helper program box j h = rw h refl

width_of_count : (program : Program) (box : Bounds) (j : ℕ) → helper_at program.columns j ≡ false → width_at program box j ≡ slice_index box.high j - slice_index box.low j + 1
width_of_count program box j h = rw h refl

width_same : (program : Program) (box other : Bounds) (j : ℕ) → slice_index box.low j ≡ slice_index other.low j → slice_index box.high j ≡ slice_index other.high j → width_at program box j ≡ width_at program other j
width_same program box other j low high =
    ap (λ (a : ℕ). if helper_at program.columns j then 1 else slice_index box.high j - a + 1) low
    ∙ ap (λ (a : ℕ). if helper_at program.columns j then 1 else a - slice_index other.low j + 1) high

-- a split of a count column parts the ways
pub ways_parted : (program : Program) (box : Bounds) (column at : ℕ) → IsBoxOf program box → column < length program.columns → helper_at program.columns column ≡ false
    → slice_index box.low column ≤ at → at < slice_index box.high column → ways program (low_side box column at) + ways program (high_side box column at) ≡ ways program box
ways_parted program box column at is there count above below =
    let in_high : column < length box.high = omega (arith, is.highs) in
    let in_low : column < length box.low = omega (arith, is.lows) in
    let new_high = get_or-set_same box.high column at 0 in_high in
    let new_low = get_or-set_same box.low column (at + 1) 0 in_low in
    product_parted (length program.columns) column (width_at program (low_side box column at)) (width_at program (high_side box column at)) (width_at program box) there
    (rw count (omega (arith, new_high, new_low)))
    (λ j other. width_same program (low_side box column at) box j refl (get_or-set_other box.high column j at 0 other))
    (λ j other. width_same program (high_side box column at) box j (get_or-set_other box.low column j (at + 1) 0 other) refl)

some_width : (b : Bool) (a : ℕ) → 1 ≤ (if b then 1 else a + 1)
some_width true a = omega arith
some_width false a = omega arith

-- there is a way at least
pub some_way : (program : Program) (box : Bounds) → 1 ≤ ways program box
some_way program box = product_some (length program.columns) (width_at program box) (λ j p. some_width (helper_at program.columns j) (slice_index box.high j - slice_index box.low j))

-- a product from its first factor on
product_first : (n : ℕ) (f : ℕ → ℕ) → product_below (suc n) f ≡ f 0 * product_below n (λ j. f (suc j))
product_first zero f = omega arith
product_first (suc n) f = ap (λ (a : ℕ). a * f (suc n)) (product_first n f) ∙ mul_assoc (f 0) (product_below n (λ j. f (suc j))) (f (suc n))

abbrev full_width : List Column → ℕ → ℕ
full_width columns j = if helper_at columns j then 1 else slice_index (map (λ (c : Column). c.top) columns) j + 1

first_choice : (b : Bool) (top rest : ℕ) → (if b then 1 else top + 1) * rest ≡ (if b then rest else (top + 1) * rest)
first_choice true top rest = omega arith
first_choice false top rest = refl

product_choices : (columns : List Column) → product_below (length columns) (full_width columns) ≡ choices_of columns
product_choices [] = refl
product_choices (column ∷ columns) =
    product_first (length columns) (full_width (column ∷ columns))
    ∙ ap (λ (a : ℕ). full_width (column ∷ columns) 0 * a) (product_choices columns)
    ∙ first_choice (is_helper column.mark) column.top (choices_of columns)

-- the full box has all ways
pub full_ways : (program : Program) → ways program (full_box_of program) ≡ choices_of program.columns
full_ways program =
    product_same (length program.columns) (width_at program (full_box_of program)) (full_width program.columns)
    (λ j p. ap (λ (a : ℕ). if helper_at program.columns j then 1 else slice_index (map (λ (c : Column). c.top) program.columns) j - a + 1) (low_of_full (length program.columns) j)
    ∙ ap (λ (a : ℕ). if helper_at program.columns j then 1 else a + 1) (omega arith))
    ∙ product_choices program.columns
