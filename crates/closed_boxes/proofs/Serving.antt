-- A row that is met, or whose helper is raised by what the row lacks.
use Rattle.std.proofs.Common.{◌≡◌, ◌⊎◌, ℕ, zero, suc, ◌+◌, ◌<◌, ◌≤◌, ℤ, pos, ◌+ℤ◌, ◌-ℤ◌, ◌*ℤ◌, ◌≤ℤ◌, ◌<ℤ◌, sym, ap, ◌∙◌, arith, IsTrue, List, [], ◌∷◌, length, get_or, slice_index, slice_set, inl, inr}
use Rattle.std.proofs.lemmas.Int.{ints}
use Rattle.std.proofs.lemmas.Bool.{true≢false}
use Rattle.std.proofs.lemmas.Bool.Decides.{eqb_tells}
use Rattle.std.proofs.lemmas.List.{get_or-set_same, get_or-set_other, length-set}
use Rattle.ip_model.specs.declared.parts.Column.{Column}
use Rattle.ip_model.specs.declared.parts.Term.{Term}
use Rattle.ip_model.specs.declared.program.Program.{Program}
use Rattle.ip_model.specs.Limits.{helper_at}
use Rattle.ip_model.specs.Sums.{terms_at, factor_of}
use Rattle.bound_certificate.specs.Bound.{terms_of, least_of}
use Rattle.closed_boxes.specs.Helpers.{IsHelperOf, IsAsked, KeepsCounts, ServesBefore}
use Rattle.closed_boxes.proofs.Terms.{moved}
use Rattle.closed_boxes.proofs.RowFacts.{factor_least, other_factor, top_serves, top_small}

-- what a row lacks
abbrev pub lack_of : Program → List ℕ → ℕ → ℤ
lack_of program point row = least_of program.rows row -ℤ terms_at (terms_of program.rows row) (slice_index point)

still_asked : (program : Program) (point : List ℕ) (i j : ℕ) → IsAsked program point i j → IsAsked program point (i + 1) j
still_asked program point i j is = let before = is.before in record { row = is.row; before = omega (arith, before); helper = is.helper; tight = is.tight }

pub below_or_last : (k i : ℕ) → k < i + 1 → (k < i) ⊎ (k ≡ i)
below_or_last k i h = grind arith

-- a row that lacks nothing
pub met_already : (program : Program) (i : ℕ) (point : List ℕ) → ServesBefore program i point → lack_of program point i ≤ℤ pos 0 → ServesBefore program (i + 1) point
met_already program i point so_far lack = record {
  size = so_far.size;
  within = so_far.within;
  met = λ k p. elim (below_or_last k i p) [
    | inl q ↦ so_far.met k q
    | inr e ↦ rw e (omega (arith, ints, lack))
  ];
  asked = λ j on some. still_asked program point i j (so_far.asked j on some);
}

-- ---- the helper h of row i is raised by what the row lacks, to v

-- what row k has then
raised_at : (terms : List Term) (point : List ℕ) (h v : ℕ) → h < length point
    → terms_at terms (slice_index (slice_set point h v)) +ℤ factor_of terms h *ℤ pos (slice_index point h) ≡ terms_at terms (slice_index point) +ℤ factor_of terms h *ℤ pos v
raised_at terms point h v p =
    let move = moved terms h (slice_index (slice_set point h v)) (slice_index point) (λ k d q other. get_or-set_other point h (get_or terms k d).column v 0 other) in
    let here : slice_index (slice_set point h v) h ≡ v = get_or-set_same point h v 0 p in
    rw here at move

-- a row whose factor is 0 or 1 has no less
no_less : (f old new : ℤ) (m v : ℕ) → (f ≡ pos 0) ⊎ (f ≡ pos 1) → m ≤ v → new +ℤ f *ℤ pos m ≡ old +ℤ f *ℤ pos v → old ≤ℤ new
no_less f old new m v (inl e) h move = let there = rw e at move in omega (arith, ints, there)
no_less f old new m v (inr e) h move = let there = rw e at move in omega (arith, ints, there)

-- one whose factor is 0 has the same
no_more : (f old new : ℤ) (m v : ℕ) → f ≡ pos 0 → new +ℤ f *ℤ pos m ≡ old +ℤ f *ℤ pos v → new ≡ old
no_more f old new m v e move = let there = rw e at move in omega (arith, ints, there)

-- and row i, whose factor is 1, is tight
now_tight : (f old new least : ℤ) (m v : ℕ) → f ≡ pos 1 → pos v ≡ pos m +ℤ (least -ℤ old) → new +ℤ f *ℤ pos m ≡ old +ℤ f *ℤ pos v → new ≡ least
now_tight f old new least m v e is move = let there = rw e at move in omega (arith, ints, there, is)

-- the raised number is within the top
within_top : (old least : ℤ) (m v top : ℕ) → (least +ℤ pos m) ≤ℤ (old +ℤ pos top) → pos v ≡ pos m +ℤ (least -ℤ old) → v ≤ top
within_top old least m v top serves is = omega (arith, ints, serves, is)

not_less : (m v : ℕ) (lack : ℤ) → pos 0 <ℤ lack → pos v ≡ pos m +ℤ lack → m ≤ v
not_less m v lack some is = omega (arith, ints, some, is)

pub tops_column : (columns : List Column) (h : ℕ) → IsTrue (helper_at columns h) → h < length columns
tops_column [] h on = absurd (true≢false (sym on))
tops_column (c ∷ cs) zero on = omega arith
tops_column (c ∷ cs) (suc h) on = let rest = tops_column cs h on in omega (arith, rest)

pub helper_raised : (program : Program) (i : ℕ) (point : List ℕ) (h v : ℕ) → i < length program.rows → ServesBefore program i point → IsHelperOf program.columns (terms_of program.rows i) h
    → pos 0 <ℤ lack_of program point i → pos v ≡ pos (slice_index point h) +ℤ lack_of program point i → ServesBefore program (i + 1) (slice_set point h v)
helper_raised program i point h v p so_far is some raised = record {
  size = length-set point h v ∙ so_far.size;
  within = λ j. elim (eqb_tells j h) [
    | inl e ↦ rw e.1 (rw (get_or-set_same point h v 0 there) (within_top _ _ _ _ _ (top_serves program i h (slice_index point) p so_far.within is) raised))
    | inr e ↦ rw (get_or-set_other point h j v 0 e.1) (so_far.within j)
  ];
  met = λ k q. elim (below_or_last k i q) [
    | inl before ↦
        let less = no_less _ _ _ _ _ (factor_least program k h (omega (arith, before, p)) is.helper) up (raised_at (terms_of program.rows k) point h v there) in
        omega (arith, ints, less, so_far.met k before)
    | inr e ↦ rw e (omega (arith, ints, tight))
  ];
  asked = λ j on more. elim (eqb_tells j h) [
    | inl e ↦ rw e.1 (record { row = i; before = omega arith; helper = is; tight = tight })
    | inr e ↦
        let old = so_far.asked j on (rw (get_or-set_other point h j v 0 e.1) at more) in
        let before = old.before in
        let same = no_more _ _ _ _ _ (other_factor program.columns (terms_of program.rows old.row) j h old.helper is.helper (λ b. e.1 (sym b))) (raised_at (terms_of program.rows old.row) point h v there) in
        record { row = old.row; before = omega (arith, before); helper = old.helper; tight = same ∙ old.tight }
  ];
}
  where
    there : h < length point
    there = let column = tops_column program.columns h is.helper in omega (arith, column, so_far.size)

    up : slice_index point h ≤ v
    up = not_less (slice_index point h) v (lack_of program point i) some raised

    tight : terms_at (terms_of program.rows i) (slice_index (slice_set point h v)) ≡ least_of program.rows i
    tight = now_tight _ _ _ _ _ _ is.factor raised (raised_at (terms_of program.rows i) point h v there)

pub counts_kept : (columns : List Column) (point : List ℕ) (h v : ℕ) → IsTrue (helper_at columns h) → KeepsCounts columns point (slice_set point h v)
counts_kept columns point h v on j off = get_or-set_other point h j v 0 (λ same. true≢false (sym on ∙ ap (helper_at columns) (sym same) ∙ off))

-- the raised number is at most any top
pub raised_small : (program : Program) (i : ℕ) (point : List ℕ) (h : ℕ) → i < length program.rows → ServesBefore program i point → IsHelperOf program.columns (terms_of program.rows i) h
    → (pos (slice_index point h) +ℤ lack_of program point i) ≤ℤ pos 20000000
raised_small program i point h p so_far is =
    let serves = top_serves program i h (slice_index point) p so_far.within is in
    let top = top_small program h in
    omega (arith, ints, serves, top)
