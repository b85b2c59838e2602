-- A box whose counts are fixed is closed exactly.
use Rattle.std.proofs.Common.{◌≡◌, ◌⊎◌, ℕ, zero, suc, ◌*◌, ◌<◌, ◌≤◌, ◌^◌, ℤ, pos, negsuc, ◌+ℤ◌, ◌-ℤ◌, ◌*ℤ◌, ◌≤ℤ◌, ◌<ℤ◌, refl, sym, ap, ◌∙◌, arith, List, [], ◌∷◌, length, slice_index, All, inl, inr, mul-le-mul}
use Rattle.std.proofs.lemmas.Int.{ints, clamps}
use Rattle.std.specs.Int.{int_min}
use Rattle.ip_model.specs.declared.parts.Bounds.{Bounds}
use Rattle.ip_model.specs.declared.program.Program.{Program}
use Rattle.ip_model.specs.Limits.{cost_of, helper_at}
use Rattle.ip_model.specs.Points.{value_of, IsWholePoint, IsWholePointIn}
use Rattle.ip_model.specs.Sums.{terms_at, factor_of, total_below}
use Rattle.ip_model.proofs.RuleFacts.{program_limits}
use Rattle.bound_certificate.specs.declared.multipliers.Top.{Top}
use Rattle.bound_certificate.specs.declared.multipliers.Multipliers.{Multipliers}
use Rattle.bound_certificate.specs.Bound.{box_sum, combined_factor, least_of, reduced_cost, terms_of, weighted_total, Refutes, RowsInRange}
use Rattle.bound_certificate.proofs.Duality.{by_columns}
use Rattle.bound_certificate.proofs.Integers.{mul_assoc}
use Rattle.bound_certificate.proofs.LeafBound.{leaf_is_value, IsSettled}
use Rattle.bound_certificate.proofs.SumBelow.{sum_below-same, sum_below-scale}
use Rattle.closed_boxes.specs.Closing.{HasFixedCounts, IsClosedAt}
use Rattle.closed_boxes.specs.Settling.{IsLeastPoint, IsShortRow}
use Rattle.closed_boxes.specs.Weighing.{AreDuals}
use Rattle.closed_boxes.proofs.RowFacts.{cost_small, none_factor, top_small}
use Rattle.closed_boxes.proofs.Settlement.{off_or_on, term_in}

-- ---- the least whole point

in_box : (program : Program) (box : Bounds) (point : List ℕ) → HasFixedCounts program box → IsLeastPoint program box.low point → IsWholePointIn program box point
in_box program box point fixed is = record {
  size = is.whole.size;
  is_point = record {
    lies = record {
      above = λ j p. elim (off_or_on (helper_at program.columns j)) [
        | inl off ↦ let same = is.agrees j p off in omega (arith, same)
        | inr on ↦ let none = fixed.low j on in omega (arith, none)
      ];
      below = λ j p. elim (off_or_on (helper_at program.columns j)) [
        | inl off ↦ let same = is.agrees j p off in let one = fixed.counts j p off in omega (arith, same, one)
        | inr on ↦ let most = is.whole.is_point.lies.below j p in let top = fixed.high j on in omega (arith, most, top)
      ];
    };
    meets = is.whole.is_point.meets;
  };
}

spent_or_none : (cost combined : ℤ) (low high x : ℕ) → low ≡ 0 → combined ≤ℤ cost → (0 < x → combined ≡ cost) → IsSettled (cost -ℤ combined) low high x
spent_or_none cost combined low high zero none left spent = inr (inr (none, refl, omega (arith, ints, left)))
spent_or_none cost combined low high (suc x) none left spent = let all = spent (omega arith) in inr (inl (omega (arith, ints, all)))

settled : (program : Program) (box : Bounds) (point : List ℕ) (y : Multipliers) → HasFixedCounts program box → IsLeastPoint program box.low point → AreDuals program point y
    → (j : ℕ) → j < length program.columns → IsSettled (reduced_cost program y.tops 1 j) (slice_index box.low j) (slice_index box.high j) (slice_index point j)
settled program box point y fixed is duals j p = elim (off_or_on (helper_at program.columns j)) [
  | inl off ↦
      let same = is.agrees j p off in
      let one = fixed.counts j p off in
      inl (omega (arith, same), omega (arith, same, one))
  | inr on ↦
      let once : 1 * cost_of program.columns j ≡ cost_of program.columns j = omega arith in
      let left : combined_factor program.rows y.tops j ≤ℤ pos (1 * cost_of program.columns j) = rw once (duals.left j on) in
      spent_or_none (pos (1 * cost_of program.columns j)) (combined_factor program.rows y.tops j) _ _ _ (fixed.low j on) left (λ some. rw once (duals.spent j on some))
]

costs_small : (n : ℕ) (cost x : ℕ → ℕ) → ((j : ℕ) → j < n → cost j ≤ 10000) → ((j : ℕ) → j < n → x j ≤ 20000000) → total_below n (λ j. cost j * x j) ≤ n * 200000000000
costs_small zero cost x c h = omega arith
costs_small (suc n) cost x c h =
    let before = costs_small n cost x (λ j p. c j (omega arith)) (λ j p. h j (omega arith)) in
    let last = mul-le-mul (c n (omega arith)) (h n (omega arith)) in
    omega (arith, before, last)

value_small : (program : Program) (point : List ℕ) → IsWholePoint program point → value_of program point ≤ 2 ^ 62
value_small program point is =
    let limits = program_limits program in
    let costs = costs_small (length program.columns) (cost_of program.columns) (slice_index point) (λ j p. cost_small program j)
    (λ j p. let below = is.is_point.lies.below j p in let top = top_small program j in omega (arith, below, top)) in
    let base = limits.base_bound in
    let few = limits.few_columns in
    omega (arith, costs, base, few)

pub closed_at : (program : Program) (box : Bounds) (point : List ℕ) (value : ℕ) (y : Multipliers) → HasFixedCounts program box → IsLeastPoint program box.low point → AreDuals program point y → value ≡ value_of program point
    → IsClosedAt program box point value y
closed_at program box point value y fixed is duals same = record {
  whole = in_box program box point fixed is;
  value_is = same;
  rows = duals.rows;
  bound = leaf_is_value program box y point duals.den (λ k d p. let tight = duals.tight k d p in omega (arith, ints, tight)) (settled program box point y fixed is duals) (value_small program point is.whole) ∙ sym same;
}

-- ---- a row that the counts leave short

-- what is left of a column once the row is taken off costs of 0
alone_cost : (c : ℕ) (f : ℤ) → pos (0 * c) -ℤ (pos 1 *ℤ f +ℤ pos 0) ≡ negsuc 0 *ℤ f
alone_cost c f = omega (arith, ints)

alone_least : (e f : ℤ) (low high : ℕ) → e ≡ negsuc 0 *ℤ f → (low ≡ high) ⊎ (f ≡ pos 0) → int_min (e *ℤ pos low) (e *ℤ pos high) ≡ negsuc 0 *ℤ (f *ℤ pos low)
alone_least e f low high is (inl same) = rw (← same) (let z = ap (λ (w : ℤ). w *ℤ pos low) is ∙ mul_assoc (negsuc 0) f (pos low) in omega (arith, ints, clamps, z))
alone_least e f low high is (inr none) =
    let nothing : e ≡ pos 0 = is ∙ ap (λ (w : ℤ). negsuc 0 *ℤ w) none in
    rw (nothing, none) (omega (arith, ints, clamps))

alone_sum : (program : Program) (box : Bounds) (row : ℕ) → HasFixedCounts program box → IsShortRow program box.low row
    → box_sum (length program.columns) (reduced_cost program (record { row = row; num = 1 } ∷ []) 0) box ≡ negsuc 0 *ℤ terms_at (terms_of program.rows row) (slice_index box.low)
alone_sum program box row fixed short =
    let n = length program.columns in
    let ts = terms_of program.rows row in
    sum_below-same n _ (λ j. negsuc 0 *ℤ (factor_of ts j *ℤ pos (slice_index box.low j)))
    (λ j p. alone_least _ (factor_of ts j) (slice_index box.low j) (slice_index box.high j) (alone_cost (cost_of program.columns j) (factor_of ts j)) (fixed_or_none j p))
    ∙ sum_below-scale n (negsuc 0) (λ j. factor_of ts j *ℤ pos (slice_index box.low j))
    ∙ ap (λ z. negsuc 0 *ℤ z) (by_columns n ts (slice_index box.low) (term_in program row))
  where
    fixed_or_none : (j : ℕ) → j < length program.columns → (slice_index box.low j ≡ slice_index box.high j) ⊎ (factor_of (terms_of program.rows row) j ≡ pos 0)
    fixed_or_none j p = elim (off_or_on (helper_at program.columns j)) [
      | inl off ↦ inl (fixed.counts j p off)
      | inr on ↦ inr (none_factor program.columns (terms_of program.rows row) j short.alone on)
    ]

above_none : (base : ℕ) (least has rest : ℤ) → has <ℤ (pos 1 *ℤ least) → rest ≡ negsuc 0 *ℤ has → pos 0 <ℤ (pos (0 * base) +ℤ (pos 1 *ℤ least +ℤ pos 0) +ℤ rest)
above_none base least has rest less is = omega (arith, ints, less, is)

pub refuted_by : (program : Program) (box : Bounds) (row : ℕ) (y : Multipliers) → HasFixedCounts program box → IsShortRow program box.low row → y.tops ≡ record { row = row; num = 1 } ∷ [] → RowsInRange program y × Refutes program box y
refuted_by program box row y fixed short tops =
    let alone : List Top = record { row = row; num = 1 } ∷ [] in
    let in_range : All (λ top. top.row < length program.rows) alone = one_there (length program.rows) row short.there in
    let less = short.short 1 (slice_index box.low) (omega arith) (λ j p off. omega arith) in
    let above : pos 0 <ℤ weighted_total program box alone 0 = above_none program.base (least_of program.rows row) (terms_at (terms_of program.rows row) (slice_index box.low)) _ less (alone_sum program box row fixed short) in
    (rw tops in_range, rw tops above)
  where
    one_there : (n row : ℕ) → row < n → All (λ (top : Top). top.row < n) (record { row = row; num = 1 } ∷ [])
    one_there n row p zero d q = p
    one_there n row p (suc k) d q = absurd (omega arith)
