-- A box that is cut down along the way from a node up to the first.
use Rattle.std.proofs.Common.{◌≡◌, ℕ, ◌+◌, ◌<◌, ◌≤◌, ◌∙◌, ap, sym, refl, subst, arith, List, length, get_or, set, slice_index, slice_set, min, max, inl, inr}
use Rattle.std.proofs.lemmas.Bool.{cases_eq}
use Rattle.std.proofs.lemmas.Grind.{get_or-set_at}
use Rattle.std.proofs.lemmas.List.{get_or-set_other, length-set, ext_get_or}
use Rattle.ip_model.specs.declared.parts.Bounds.{Bounds}
use Rattle.ip_model.specs.declared.program.Program.{Program}
use Rattle.ip_model.specs.Limits.{top_of}
use Rattle.ip_model.specs.Points.{full_box_of, IsBoxOf}
use Rattle.bound_certificate.specs.Trees.{low_side, high_side}
use Rattle.bound_certificate.proofs.WalkSteps.{full_box_is_box, low_of_full}
use Rattle.search_tree.specs.Boxes.{part_below, part_above}

-- the part of a node's box that lies in `bounds` is `box`
pub record IsPart (program : Program) (node_box bounds box : Bounds) : Type 0 where
  pub lows : length bounds.low ≡ length program.columns
  pub highs : length bounds.high ≡ length program.columns
  pub within : (j : ℕ) → slice_index bounds.high j ≤ top_of program.columns j
  pub low : (j : ℕ) → max (slice_index bounds.low j) (slice_index node_box.low j) ≡ slice_index box.low j
  pub high : (j : ℕ) → min (slice_index bounds.high j) (slice_index node_box.high j) ≡ slice_index box.high j

-- at a node, with the full box
pub part_first : (program : Program) (box bounds : Bounds) → IsBoxOf program box → bounds ≡ full_box_of program → IsPart program box bounds box
part_first program box bounds is full =
    let whole = full_box_is_box program in
    subst (λ (b : Bounds). IsPart program box b box) (sym full)
    (record {
      lows = whole.lows;
      highs = whole.highs;
      within = whole.within;
      low = λ j. omega (arith, low_of_full (length program.columns) j);
      high = λ j. let most = is.within j in omega arith;
    })

-- at most `at` in a column that the node's box bounds by `at`, and its parent's by more
least_there : (xs ys : List ℕ) (column at j : ℕ) → column < length xs → column < length ys → at < get_or ys column 0
    → min (get_or (set xs column (min at (get_or xs column 0))) j 0) (get_or ys j 0) ≡ min (get_or xs j 0) (get_or (set ys column at) j 0)
least_there xs ys column at j p q less = elim (cases_eq j column) [
  | inl e ↦ omega (arith, get_or-set_at xs column j (min at (get_or xs column 0)) 0 e p, get_or-set_at ys column j at 0 e q, ap (λ (i : ℕ). get_or xs i 0) e, ap (λ (i : ℕ). get_or ys i 0) e)
  | inr e ↦ omega (arith, get_or-set_other xs column j (min at (get_or xs column 0)) 0 e, get_or-set_other ys column j at 0 e)
]

most_there : (xs ys : List ℕ) (column at j : ℕ) → column < length xs → column < length ys → get_or ys column 0 ≤ at
    → max (get_or (set xs column (max (at + 1) (get_or xs column 0))) j 0) (get_or ys j 0) ≡ max (get_or xs j 0) (get_or (set ys column (at + 1)) j 0)
most_there xs ys column at j p q less = elim (cases_eq j column) [
  | inl e ↦ omega (arith, get_or-set_at xs column j (max (at + 1) (get_or xs column 0)) 0 e p, get_or-set_at ys column j (at + 1) 0 e q, ap (λ (i : ℕ). get_or xs i 0) e, ap (λ (i : ℕ). get_or ys i 0) e)
  | inr e ↦ omega (arith, get_or-set_other xs column j (max (at + 1) (get_or xs column 0)) 0 e, get_or-set_other ys column j (at + 1) 0 e)
]

no_more : (xs : List ℕ) (column at j most : ℕ) → column < length xs → get_or xs j 0 ≤ most → get_or (set xs column (min at (get_or xs column 0))) j 0 ≤ most
no_more xs column at j most p h = elim (cases_eq j column) [
  | inl e ↦ omega (arith, get_or-set_at xs column j (min at (get_or xs column 0)) 0 e p, ap (λ (i : ℕ). get_or xs i 0) e)
  | inr e ↦ omega (arith, get_or-set_other xs column j (min at (get_or xs column 0)) 0 e)
]

-- from the low child of a split to its node
pub part_below_next : (program : Program) (parent bounds box : Bounds) (column at : ℕ) → IsBoxOf program parent → column < length program.columns → at < slice_index parent.high column
    → IsPart program (low_side parent column at) bounds box → IsPart program parent (part_below bounds column at) box
part_below_next program parent bounds box column at is there less part =
    let mine : column < length bounds.high = omega (arith, part.highs) in
    let its : column < length parent.high = omega (arith, is.highs) in
    record {
      lows = part.lows;
      highs = omega (arith, part.highs, length-set bounds.high column (min at (slice_index bounds.high column)));
      within = λ j. no_more bounds.high column at j _ mine (part.within j);
      low = part.low;
      high = λ j. least_there bounds.high parent.high column at j mine its less ∙ part.high j;
    }

-- from the high child
pub part_above_next : (program : Program) (parent bounds box : Bounds) (column at : ℕ) → IsBoxOf program parent → column < length program.columns → slice_index parent.low column ≤ at
    → IsPart program (high_side parent column at) bounds box → IsPart program parent (part_above bounds column at) box
part_above_next program parent bounds box column at is there less part =
    let mine : column < length bounds.low = omega (arith, part.lows) in
    let its : column < length parent.low = omega (arith, is.lows) in
    record {
      lows = omega (arith, part.lows, length-set bounds.low column (max (at + 1) (slice_index bounds.low column)));
      highs = part.highs;
      within = part.within;
      low = λ j. most_there bounds.low parent.low column at j mine its less ∙ part.low j;
      high = part.high;
    }

both_same : (a b : Bounds) → a.low ≡ b.low → a.high ≡ b.high → a ≡ b
both_same a b p q =
    let with_low : List ℕ → Bounds = λ xs. record { low = xs; high = a.high } in
    let with_high : List ℕ → Bounds = λ xs. record { low = b.low; high = xs } in
    ap with_low p ∙ ap with_high q

-- at the first node
pub part_last : (program : Program) (bounds box : Bounds) → IsBoxOf program box → IsPart program (full_box_of program) bounds box → bounds ≡ box
part_last program bounds box is part =
    both_same bounds box
    (ext_get_or 0 bounds.low box.low (omega (arith, part.lows, is.lows)) (λ j p. omega (arith, part.low j, low_of_full (length program.columns) j)))
    (ext_get_or 0 bounds.high box.high (omega (arith, part.highs, is.highs)) (λ j p. omega (arith, part.high j, part.within j)))
