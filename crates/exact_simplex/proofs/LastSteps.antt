-- The last tableau of the written method is one.
use Rattle.std.proofs.Common.{◌≡◌, ◌∙◌, ◌*◌, slice_index, ℕ, zero, suc, ◌<◌, ◌≤◌, ◌⊎◌, refl, sym, ap, subst, arith, inl, inr, List, [], length, Option, Some, None, ℤ, pos, ◌-ℤ◌, ◌+ℤ◌, ◌*ℤ◌, ◌<ℤ◌, ◌≤ℤ◌, neg_ℤ, unsigned_abs}
use Rattle.std.proofs.lemmas.Int.{ints}
use Rattle.std.proofs.lemmas.Bool.{cases_eq, cases_lt}
use Rattle.std.proofs.lemmas.List.{get_or_past}
use Rattle.std.proofs.lemmas.Grind.{same_number_lists}
use Rattle.ip_model.specs.declared.parts.Bounds.{Bounds}
use Rattle.ip_model.specs.declared.point.Point.{Point}
use Rattle.ip_model.specs.declared.program.Program.{Program}
use Rattle.ip_model.specs.Points.{numerator}
use Rattle.bound_certificate.specs.declared.multipliers.Multipliers.{Multipliers}
use Rattle.exact_fraction.specs.declared.fraction.Fraction.{Fraction}
use Rattle.exact_fraction.specs.Exact.{IsRatio, SumFits, ProductFits, reciprocal_top}
use Rattle.exact_simplex.specs.declared.table.Tableau.{Tableau}
use Rattle.exact_simplex.specs.Tableaus.{Scaled, IsPivotPlace, pivot_of}
use Rattle.exact_simplex.specs.Forms.{Parts, parts_of}
use Rattle.exact_simplex.specs.Start.{start_of}
use Rattle.exact_simplex.specs.Cells.{cell_of, row_of, no_fraction, number_at}
use Rattle.exact_simplex.specs.Rebounds.{IsSame}
use Rattle.exact_simplex.specs.Pivots.{CellFits, IsProduct, IsQuotient, QuotientFits, RowFits, PivotFits}
use Rattle.exact_simplex.specs.Choices.{ChoiceFits, CompareFits, IsCandidate, IsHeld}
use Rattle.exact_simplex.specs.Relaxing.{IsFirstBelow, IsFittingPivot, IsLeastTable, IsWritten, Stands, WideAt, begun, pivoted}
use Rattle.exact_simplex.specs.Answers.{IsEmptyTable, IsOpenAt}
use Rattle.exact_simplex.specs.Certificates.{AreExactDuals, AreExactRefutation, CertificateFits, IsExactPoint, IsRefutingWeight, IsWeight}
use Rattle.exact_simplex.specs.Duals.{num_at}
use Rattle.exact_simplex.specs.Licences.{AreSameTables, EmptyIsNotLicensed, IsLast, LastIsOne, LeastIsNotLicensed, most_pivots}
use Rattle.exact_simplex.proofs.Order.{first_above-add}
use Rattle.exact_simplex.proofs.StepFacts.{same_ratio}
use Rattle.exact_simplex.proofs.HeldSteps.{above_candidate}
use Rattle.exact_simplex.proofs.ReachSteps.{number_below, reached_place, setting_of, value_not_below}

-- ---- two tableaus that show one over one denominator

scale_above : (d : ℕ) → 1 ≤ d → pos 0 <ℤ pos d
scale_above d h = omega (arith, ints)

alike : (f g : Fraction) → f ≡ g → IsSame f g
alike f g h = (ap (λ (x : Fraction). x.num) h, ap (λ (x : Fraction). x.den) h)

past : (row : List Fraction) (c : ℕ) → length row ≤ c → cell_of row c ≡ no_fraction
past row c h = get_or_past row c no_fraction h

cell_alike : (p : Parts) (a b : Tableau) (t : Scaled) → Stands p a t → Stands p b t → (i c : ℕ) → i < length a.cells → IsSame (cell_of (row_of a.cells i) c) (cell_of (row_of b.cells i) c)
cell_alike p a b t h g i c q =
    let same = h.rows ∙ sym g.rows in
    let left = h.shows.rows i q in
    let right = g.shows.rows i (omega arith) in
    elim (cases_lt c (suc p.columns)) [
      | inl within ↦ same_ratio (cell_of (row_of a.cells i) c) (cell_of (row_of b.cells i) c) (number_at t i c) (pos t.scale) (scale_above t.scale h.stands.scale_above_none) (left.numbers c (omega arith)) (right.numbers c (omega arith))
      | inr out ↦ alike (cell_of (row_of a.cells i) c) (cell_of (row_of b.cells i) c) (past (row_of a.cells i) c (let s = left.size in omega arith) ∙ sym (past (row_of b.cells i) c (let s = right.size in omega arith)))
    ]

row_past : (cells : List (List Fraction)) (i : ℕ) → length cells ≤ i → row_of cells i ≡ []
row_past cells i h = get_or_past cells i [] h

rows_alike : (p : Parts) (a b : Tableau) (t : Scaled) → Stands p a t → Stands p b t → (i : ℕ) → (i < length a.cells) ⊎ (row_of a.cells i ≡ row_of b.cells i)
rows_alike p a b t h g i =
    let same = h.rows ∙ sym g.rows in
    elim (cases_lt i (length a.cells)) [
      | inl q ↦ inl q
      | inr q ↦ inr (row_past a.cells i (omega arith) ∙ sym (row_past b.cells i (omega arith)))
    ]

pub tables_same : (p : Parts) (a b : Tableau) (t : Scaled) → Stands p a t → Stands p b t → AreSameTables a b
tables_same p a b t h g = record {
  units = same_number_lists a.units b.units (h.shows.units_size ∙ sym g.shows.units_size) (λ k q. (let within : k < p.columns = (let s = h.shows.units_size in omega arith) in h.shows.units_are k within ∙ sym (g.shows.units_are k within)));
  rows = h.rows ∙ sym g.rows;
  sizes = λ i. elim (rows_alike p a b t h g i) [
    | inl q ↦ (h.shows.rows i q).size ∙ sym (g.shows.rows i (let s = h.rows ∙ sym g.rows in omega arith)).size
    | inr e ↦ ap length e
  ];
  cells = λ i c. elim (rows_alike p a b t h g i) [
    | inl q ↦ cell_alike p a b t h g i c q
    | inr e ↦ alike (cell_of (row_of a.cells i) c) (cell_of (row_of b.cells i) c) (ap (λ (xs : List Fraction). cell_of xs c) e)
  ];
}

pub same_back : (a b : Tableau) → AreSameTables a b → AreSameTables b a
same_back a b h = record {
  units = sym h.units;
  rows = sym h.rows;
  sizes = λ i. sym (h.sizes i);
  cells = λ i c. (sym (h.cells i c).0, sym (h.cells i c).1);
}

-- ---- what fits in one fits in the other

quotient_as : (f g x y : Fraction) → IsSame f x → IsSame g y → QuotientFits f g → QuotientFits x y
quotient_as f g x y first second h =
    subst (λ (z : ℤ). ProductFits x.num x.den (reciprocal_top y.num z) (pos (unsigned_abs y.num))) second.1
    (subst (λ (z : ℤ). ProductFits x.num x.den (reciprocal_top z g.den) (pos (unsigned_abs z))) second.0
    (subst (λ (z : ℤ). ProductFits x.num z (reciprocal_top g.num g.den) (pos (unsigned_abs g.num))) first.1
    (subst (λ (z : ℤ). ProductFits z f.den (reciprocal_top g.num g.den) (pos (unsigned_abs g.num))) first.0 h)))

is_quotient_as : (q f g x y : Fraction) → IsSame f x → IsSame g y → IsQuotient q f g → IsQuotient q x y
is_quotient_as q f g x y first second h =
    subst (λ (z : ℤ). IsRatio q.num q.den (x.num *ℤ z) (x.den *ℤ y.num)) second.1
    (subst (λ (z : ℤ). IsRatio q.num q.den (x.num *ℤ g.den) (x.den *ℤ z)) second.0
    (subst (λ (z : ℤ). IsRatio q.num q.den (x.num *ℤ g.den) (z *ℤ g.num)) first.1
    (subst (λ (z : ℤ). IsRatio q.num q.den (z *ℤ g.den) (f.den *ℤ g.num)) first.0 h)))

is_product_as : (q f x g : Fraction) → IsSame f x → IsProduct q f g → IsProduct q x g
is_product_as q f x g same h =
    subst (λ (z : ℤ). IsRatio q.num q.den (x.num *ℤ g.num) (z *ℤ g.den)) same.1 (subst (λ (z : ℤ). IsRatio q.num q.den (z *ℤ g.num) (f.den *ℤ g.den)) same.0 h)

same_turned : (f g : Fraction) → IsSame f g → IsSame g f
same_turned f g h = (sym h.0, sym h.1)

cell_as : (old f x y g : Fraction) → IsSame old x → IsSame f y → CellFits old f g → CellFits x y g
cell_as old f x y g first second h = record {
  product = subst (λ (z : ℤ). ProductFits y.num z g.num g.den) second.1 (subst (λ (z : ℤ). ProductFits z f.den g.num g.den) second.0 h.product);
  difference = λ p is. subst (λ (z : ℤ). SumFits x.num z (neg_ℤ p.num) p.den) first.1 (subst (λ (z : ℤ). SumFits z old.den (neg_ℤ p.num) p.den) first.0 (h.difference p (is_product_as p y f g (same_turned f y second) is)));
}

candidate_as : (a b : Tableau) (r c : ℕ) → AreSameTables a b → IsCandidate a.cells r c → IsCandidate b.cells r c
candidate_as a b r c same h = subst (λ (z : ℤ). pos 0 <ℤ z) (same.cells r c).0 h

held_as : (a b : Tableau) (t : Scaled) (r l k : ℕ) → AreSameTables a b → IsHeld a.cells t r l k → IsHeld b.cells t r l k
held_as a b t r l k same h = record {
  column = h.column;
  candidate = candidate_as a b r (suc k) same h.candidate;
  first = λ j p other above. h.first j p other (candidate_as b a r (suc j) (same_back a b same) above);
}

compare_as : (a b : Tableau) (t : Scaled) (r k l : ℕ) → AreSameTables a b → CompareFits a.cells t r k l → CompareFits b.cells t r k l
compare_as a b t r k l same h = record {
  at = λ i there before some.
      (let found = h.at i (let s = same.rows in omega arith) before (λ none. some (sym (same.cells i k).0 ∙ none.0, sym (same.cells i l).0 ∙ none.1)) in
      (quotient_as (cell_of (row_of a.cells i) k) (cell_of (row_of a.cells r) k) (cell_of (row_of b.cells i) k) (cell_of (row_of b.cells r) k) (same.cells i k) (same.cells r k) found.0, quotient_as (cell_of (row_of a.cells i) l) (cell_of (row_of a.cells r) l) (cell_of (row_of b.cells i) l) (cell_of (row_of b.cells r) l) (same.cells i l) (same.cells r l) found.1));
}

choice_as : (n : ℕ) (a b : Tableau) (t : Scaled) (r : ℕ) → AreSameTables a b → ChoiceFits n a.cells t r → ChoiceFits n b.cells t r
choice_as n a b t r same h = record {
  at = λ k l p held above. compare_as a b t r (suc k) (suc l) same (h.at k l p (held_as b a t r l k (same_back a b same) held) (candidate_as b a r (suc l) (same_back a b same) above));
}

row_as : (a b : Tableau) (r k i : ℕ) → AreSameTables a b → RowFits (row_of a.cells i) (row_of a.cells r) k → RowFits (row_of b.cells i) (row_of b.cells r) k
row_as a b r k i same h = record {
  own = quotient_as (cell_of (row_of a.cells i) k) (cell_of (row_of a.cells r) k) (cell_of (row_of b.cells i) k) (cell_of (row_of b.cells r) k) (same.cells i k) (same.cells r k) h.own;
  others = λ c g p other is.
      cell_as (cell_of (row_of a.cells i) c) (cell_of (row_of a.cells i) k) (cell_of (row_of b.cells i) c) (cell_of (row_of b.cells i) k) g (same.cells i c) (same.cells i k)
      (h.others c g (let s = same.sizes i in omega arith) other (is_quotient_as g (cell_of (row_of b.cells r) c) (cell_of (row_of b.cells r) k) (cell_of (row_of a.cells r) c) (cell_of (row_of a.cells r) k) ((same_back a b same).cells r c) ((same_back a b same).cells r k) is));
}

pivot_as : (a b : Tableau) (r k : ℕ) → AreSameTables a b → PivotFits a.cells r k → PivotFits b.cells r k
pivot_as a b r k same h = record {
  shares = λ c p other. quotient_as (cell_of (row_of a.cells r) c) (cell_of (row_of a.cells r) k) (cell_of (row_of b.cells r) c) (cell_of (row_of b.cells r) k) (same.cells r c) (same.cells r k) (h.shares c (let s = same.sizes r in omega arith) other);
  rows = λ i p other some. row_as a b r k i same (h.rows i (let s = same.rows in omega arith) other (λ none. some (sym (same.cells i k).0 ∙ none)));
}

-- ---- the place of the written pivot is one

opposite : (x y : ℤ) → pos 0 <ℤ ((x -ℤ y) +ℤ (y -ℤ x)) → ⊥
opposite x y h = omega (arith, ints)

not_both : (z : ℤ) → z <ℤ pos 0 → pos 0 ≤ℤ z → ⊥
not_both z h g = omega (arith, ints)

row_same : (n : ℕ) (t : Scaled) (r k s : ℕ) → IsPivotPlace n t r k → 1 ≤ s → t.value s <ℤ pos 0 → ((i : ℕ) → 1 ≤ i → i < s → pos 0 ≤ℤ t.value i) → s ≡ r
row_same n t r k s h some below first =
    elim (cases_eq s r) [
      | inl e ↦ e
      | inr e ↦ elim (cases_lt s r) [
        | inl q ↦ absurd (not_both (t.value s) below (h.first s some q))
        | inr q ↦ absurd (not_both (t.value r) h.below (first r h.row (omega arith)))
      ]
    ]

column_same : (n : ℕ) (t : Scaled) (r k l : ℕ) → IsPivotPlace n t r k → IsPivotPlace n t r l → l ≡ k
column_same n t r k l h g =
    elim (cases_eq l k) [
      | inl e ↦ e
      | inr e ↦ absurd (let both = first_above-add (λ i. t.factor i l *ℤ t.factor r k -ℤ t.factor i k *ℤ t.factor r l) (λ i. t.factor i k *ℤ t.factor r l -ℤ t.factor i l *ℤ t.factor r k) (h.least l g.column e g.candidate) (g.least k h.column (λ q. e (sym q)) h.candidate) in
          opposite (t.factor both.first l *ℤ t.factor r k) (t.factor both.first k *ℤ t.factor r l) both.above)
    ]

below_row : (p : Parts) (b : Tableau) (t : Scaled) (r k row : ℕ) → Stands p b t → IsPivotPlace p.columns t r k → IsFirstBelow b.cells row → row ≡ r
below_row p b t r k row h place first =
    row_same p.columns t r k row place first.some
    (number_below (cell_of (row_of b.cells row) 0) (t.value row) t.scale h.stands.scale_above_none ((h.shows.rows row first.within).numbers 0 (omega arith)) first.below)
    (λ i one before. value_not_below p b t i h (let w = first.within in omega arith) (first.first i one before))

-- ---- a written pivot that fits at one of two tableaus, and the end of the method at the other

place_of_pivot : (p : Parts) (a : Tableau) (t : Scaled) (r k : ℕ) → Stands p a t → IsFittingPivot p.columns a.cells t r k → IsPivotPlace p.columns t r k
place_of_pivot p a t r k h f = reached_place p a t r k h f.below f.held

no_least : (p : Parts) (a b : Tableau) (t : Scaled) (r k : ℕ) → Stands p a t → Stands p b t → IsFittingPivot p.columns a.cells t r k → IsLeastTable b.cells → ⊥
no_least p a b t r k h g f least =
    let place = place_of_pivot p a t r k h f in
    let w = f.below.within in
    let same = h.rows ∙ sym g.rows in
    let there : r < length b.cells = omega arith in
    not_both (t.value r) place.below (value_not_below p b t r g there (least r place.row there))

no_empty : (p : Parts) (a b : Tableau) (t : Scaled) (r k : ℕ) → Stands p a t → Stands p b t → IsFittingPivot p.columns a.cells t r k → IsEmptyTable b → ⊥
no_empty p a b t r k h g f empty =
    let place = place_of_pivot p a t r k h f in
    let same : empty.row ≡ r = below_row p b t r k empty.row g place empty.below in
    let size = g.shows.units_size in
    let c = place.column in
    empty.none k (omega arith) (subst (λ (m : ℕ). IsCandidate b.cells m (suc k)) (sym same) (above_candidate p.columns b.cells t r k (setting_of p b t g) (subst (λ (m : ℕ). m < length b.cells) same empty.below.within) place.column place.candidate))

no_wide : (p : Parts) (a b : Tableau) (t : Scaled) (r k row : ℕ) (column : Option ℕ) → Stands p a t → Stands p b t → IsFittingPivot p.columns a.cells t r k → IsFirstBelow b.cells row → WideAt column p.columns b t row → ⊥
no_wide p a b t r k row None h g f below wide =
    let place = place_of_pivot p a t r k h f in
    let same : row ≡ r = below_row p b t r k row g place below in
    wide (subst (λ (m : ℕ). ChoiceFits p.columns b.cells t m) (sym same) (choice_as p.columns a b t r (tables_same p a b t h g) f.choice))
no_wide p a b t r k row (Some column) h g f below wide =
    let place = place_of_pivot p a t r k h f in
    let same : row ≡ r = below_row p b t r k row g place below in
    let other = reached_place p b t row wide.0 g below wide.2 in
    let unit : wide.0 ≡ k = column_same p.columns t r k wide.0 place (subst (λ (m : ℕ). IsPivotPlace p.columns t m wide.0) same other) in
    let is : column ≡ suc k = wide.1 ∙ ap suc unit in
    wide.3 (subst (λ (m : ℕ). PivotFits b.cells m column) (sym same) (subst (λ (m : ℕ). PivotFits b.cells r m) (sym is) (pivot_as a b r (suc k) (tables_same p a b t h g) f.pivot)))

-- ---- the run is one

pub written_stands : (p : Parts) (from : Scaled) (m : ℕ) (a : Tableau) (s : Scaled) → IsWritten p from m a s → Stands p a s
written_stands p from zero a s (begun a' h) = h
written_stands p from (suc m) a s (pivoted m' at a' t r k before f h) = h

run_same : (p : Parts) (from : Scaled) (m : ℕ) (a b : Tableau) (s t : Scaled) → IsWritten p from m a s → IsWritten p from m b t → s ≡ t
run_same p from zero a b s t (begun a' h) (begun b' g) = refl
run_same p from (suc m) a b s t (pivoted m' at a' u r k before f h) (pivoted n' bt b' v q l other e g) =
    let same : u ≡ v = run_same p from m at bt u v before other in
    let first = place_of_pivot p at u r k (written_stands p from m at u before) f in
    let second : IsPivotPlace p.columns u q l = subst (λ (x : Scaled). IsPivotPlace p.columns x q l) (sym same) (place_of_pivot p bt v q l (written_stands p from m bt v other) e) in
    let row : q ≡ r = row_same p.columns u r k q first second.row second.below second.first in
    let unit : l ≡ k = column_same p.columns u r k l first (subst (λ (x : ℕ). IsPivotPlace p.columns u x l) row second) in
    ap (λ (x : Scaled). pivot_of x r k) same ∙ ap (λ (x : ℕ). pivot_of v x k) (sym row) ∙ ap (λ (x : ℕ). pivot_of v q x) (sym unit)

-- a tableau that the run passes has a written pivot that fits
pub record Passes (p : Parts) (t : Scaled) : Type 0 where
  pub at : Tableau
  pub stands : Stands p at t
  pub row : ℕ
  pub unit : ℕ
  pub pivot : IsFittingPivot p.columns at.cells t row unit

pub run_passes : (p : Parts) (from : Scaled) (m n : ℕ) (a b : Tableau) (s t : Scaled) → IsWritten p from m a s → IsWritten p from n b t → n < m → Passes p t
run_passes p from zero n a b s t (begun a' h) other less = absurd (omega arith)
run_passes p from (suc m) n a b s t (pivoted m' at a' u r k before f h) other less =
    elim (cases_eq n m) [
      | inl same ↦
          let here : u ≡ t = run_same p from m at b u t before (subst (λ (x : ℕ). IsWritten p from x b t) same other) in
          record {
            at = at;
            stands = subst (λ (x : Scaled). Stands p at x) here (written_stands p from m at u before);
            row = r;
            unit = k;
            pivot = subst (λ (x : Scaled). IsFittingPivot p.columns at.cells x r k) here f;
          }
      | inr apart ↦ run_passes p from m n at b u t before other (omega arith)
    ]

last_ends : (program : Program) (box : Bounds) (b : Tableau) (h : IsLast program box b) → Passes (parts_of program box) h.scaled → (made : ℕ) → h.made < made → made ≤ most_pivots program → ⊥
last_ends program box b h passes made less few =
    let p = parts_of program box in
    let stands = written_stands p (start_of p) h.made b h.scaled h.written in
    elim h.last [
      | inl all ↦ omega arith
      | inr ends ↦ elim ends [
        | inl over ↦ elim over [
          | inl least ↦ no_least p passes.at b h.scaled passes.row passes.unit passes.stands stands passes.pivot least
          | inr empty ↦ no_empty p passes.at b h.scaled passes.row passes.unit passes.stands stands passes.pivot empty
        ]
        | inr wide ↦ no_wide p passes.at b h.scaled passes.row passes.unit wide.0 wide.2.0 passes.stands stands passes.pivot wide.1.below wide.2.1
      ]
    ]

pub last_is_one_lem : LastIsOne
last_is_one_lem program box a b h g =
    let p = parts_of program box in
    let from = start_of p in
    elim (cases_eq h.made g.made) [
      | inl same ↦
          let to : IsWritten p from g.made a h.scaled = subst (λ (m : ℕ). IsWritten p from m a h.scaled) same h.written in
          let one : h.scaled ≡ g.scaled = run_same p from g.made a b h.scaled g.scaled to g.written in
          tables_same p a b g.scaled (subst (λ (x : Scaled). Stands p a x) one (written_stands p from h.made a h.scaled h.written)) (written_stands p from g.made b g.scaled g.written)
      | inr apart ↦ elim (cases_lt h.made g.made) [
        | inl less ↦ absurd (last_ends program box a h (run_passes p from g.made h.made b a g.scaled h.scaled g.written h.written less) g.made less g.few)
        | inr more ↦ absurd (let less : g.made < h.made = omega arith in last_ends program box b g (run_passes p from h.made g.made a b h.scaled g.scaled h.written g.written less) h.made less h.few)
      ]
    ]

-- ---- a certificate that fits at one of two tableaus

ratio_as : (f g : Fraction) (top bottom : ℤ) → IsSame f g → IsRatio f.num f.den top bottom → IsRatio g.num g.den top bottom
ratio_as f g top bottom same h = subst (λ (z : ℤ). IsRatio g.num z top bottom) same.1 (subst (λ (z : ℤ). IsRatio z f.den top bottom) same.0 h)

point_as : (box : Bounds) (a b : Tableau) (point : Point) → AreSameTables a b → IsExactPoint box a point → IsExactPoint box b point
point_as box a b point same h = record {
  wholes = h.wholes ∙ ap length same.units;
  parts = h.parts ∙ ap length same.units;
  steps = λ j p. ratio_as (cell_of (row_of a.cells (suc j)) 0) (cell_of (row_of b.cells (suc j)) 0) (pos (numerator point j) -ℤ pos (point.den * slice_index box.low j)) (pos point.den) (same.cells (suc j) 0) (h.steps j (let e = ap length same.units in omega arith));
}

duals_as : (program : Program) (a b : Tableau) (y : Multipliers) → AreSameTables a b → AreExactDuals program a y → AreExactDuals program b y
duals_as program a b y same h = record {
  there = h.there;
  weights = λ i p.
      (let w = subst (λ (units : List ℕ). IsWeight units (row_of a.cells 0) (length units) i (pos (num_at y.tops i)) (pos y.den)) same.units (h.weights i p) in
      record {
        unit = λ k q is. ratio_as (cell_of (row_of a.cells 0) (suc k)) (cell_of (row_of b.cells 0) (suc k)) (pos (num_at y.tops i)) (pos y.den) (same.cells 0 (suc k)) (w.unit k q is);
        other = w.other;
      });
}

certificate_as : (program : Program) (box : Bounds) (a b : Tableau) → AreSameTables a b → CertificateFits program box a → CertificateFits program box b
certificate_as program box a b same h = record {
  point = h.point;
  duals = h.duals;
  is_point = point_as box a b h.point same h.is_point;
  are_duals = duals_as program a b h.duals same h.are_duals;
}

least_not_below : (a b : Tableau) (row : ℕ) → AreSameTables a b → IsLeastTable a.cells → IsFirstBelow b.cells row → ⊥
least_not_below a b row same least below = least row below.some (let w = below.within in let s = same.rows in omega arith) (subst (λ (z : ℤ). z <ℤ pos 0) (sym (same.cells row 0).0) below.below)

pub least_is_not_licensed_lem : LeastIsNotLicensed
least_is_not_licensed_lem program box at last least fits licensed =
    let same = last_is_one_lem program box at licensed.at last licensed.last in
    elim licensed.stops [
      | inl opens ↦ least_not_below at licensed.at opens.0 same least opens.1.below
      | inr misfit ↦ elim misfit [
        | inl x ↦ x.1 (certificate_as program box at licensed.at same fits)
        | inr x ↦ least_not_below at licensed.at x.0.row same least x.0.below
      ]
    ]

-- ---- the same of an empty tableau

below_as : (a b : Tableau) (row : ℕ) → AreSameTables a b → IsFirstBelow a.cells row → IsFirstBelow b.cells row
below_as a b row same h = record {
  some = h.some;
  within = (let w = h.within in let s = same.rows in omega arith);
  below = subst (λ (z : ℤ). z <ℤ pos 0) (same.cells row 0).0 h.below;
  first = λ i one before low. h.first i one before (subst (λ (z : ℤ). z <ℤ pos 0) (sym (same.cells i 0).0) low);
}

below_one : (cells : List (List Fraction)) (r s : ℕ) → IsFirstBelow cells r → IsFirstBelow cells s → r ≡ s
below_one cells r s h g =
    elim (cases_eq r s) [
      | inl e ↦ e
      | inr e ↦ elim (cases_lt r s) [
        | inl q ↦ absurd (g.first r h.some q h.below)
        | inr q ↦ absurd (h.first s g.some (omega arith) g.below)
      ]
    ]

turned_as : (f g : Fraction) (top bottom : ℤ) → IsSame f g → IsRatio (neg_ℤ f.num) f.den top bottom → IsRatio (neg_ℤ g.num) g.den top bottom
turned_as f g top bottom same h = subst (λ (z : ℤ). IsRatio (neg_ℤ g.num) z top bottom) same.1 (subst (λ (z : ℤ). IsRatio (neg_ℤ z) f.den top bottom) same.0 h)

refutation_as : (program : Program) (a b : Tableau) (y : Multipliers) → AreSameTables a b → AreExactRefutation program a y → AreExactRefutation program b y
refutation_as program a b y same h = record {
  row = h.row;
  below = below_as a b h.row same h.below;
  there = h.there;
  weights = λ i p.
      (let w = subst (λ (units : List ℕ). IsRefutingWeight units (row_of a.cells h.row) h.row i (pos (num_at y.tops i)) (pos y.den)) same.units (h.weights i p) in
      record {
        unit = λ k q is. turned_as (cell_of (row_of a.cells h.row) (suc k)) (cell_of (row_of b.cells h.row) (suc k)) (pos (num_at y.tops i)) (pos y.den) (same.cells h.row (suc k)) (w.unit k q is);
        own = w.own;
        other = w.other;
      });
}

empty_not_open : (a b : Tableau) (row : ℕ) → AreSameTables a b → IsEmptyTable a → IsOpenAt b row → ⊥
empty_not_open a b row same empty opens =
    let one : row ≡ empty.row = below_one b.cells row empty.row opens.below (below_as a b empty.row same empty.below) in
    let size = ap length same.units in
    let within = opens.candidate.0 in
    empty.none opens.first (omega arith) (candidate_as b a empty.row (suc opens.first) (same_back a b same) (subst (λ (m : ℕ). IsCandidate b.cells m (suc opens.first)) one opens.candidate.1))

pub empty_is_not_licensed_lem : EmptyIsNotLicensed
empty_is_not_licensed_lem program box at last empty fits licensed =
    let same = last_is_one_lem program box at licensed.at last licensed.last in
    elim licensed.stops [
      | inl opens ↦ empty_not_open at licensed.at opens.0 same empty opens.1
      | inr misfit ↦ elim misfit [
        | inl x ↦ least_not_below licensed.at at empty.row (same_back at licensed.at same) x.0 empty.below
        | inr x ↦ x.1 (record { duals = fits.duals; are = refutation_as program at licensed.at fits.duals same fits.are })
      ]
    ]
