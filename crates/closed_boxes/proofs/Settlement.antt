-- Rows that are all served make the least whole point; a row that stays short keeps any point away.
use Rattle.std.proofs.Common.{◌≡◌, ◌≢◌, ◌⊎◌, ℕ, zero, suc, ◌*◌, ◌<◌, ◌≤◌, ℤ, pos, ◌+ℤ◌, ◌*ℤ◌, ◌≤ℤ◌, ◌<ℤ◌, refl, sym, ap, ◌∙◌, arith, Bool, true, false, IsTrue, if◌then◌else◌, List, [], ◌∷◌, length, replicate, take, ◌++◌, get_or, slice_index, All, inl, inr}
use Rattle.std.proofs.lemmas.Int.{ints}
use Rattle.std.proofs.Math.Nat.{mul-le-mul_left}
use Rattle.ip_model.specs.declared.parts.Line.{Line}
use Rattle.ip_model.specs.declared.program.Program.{Program}
use Rattle.ip_model.specs.Limits.{cost_of, helper_at, top_of}
use Rattle.ip_model.specs.Points.{IsWholePoint, MeetsLine}
use Rattle.ip_model.specs.Sums.{terms_at, total_below}
use Rattle.ip_model.proofs.RuleFacts.{program_limits}
use Rattle.bound_certificate.specs.Bound.{terms_of, least_of}
use Rattle.bound_certificate.proofs.LeafBound.{columns_in}
use Rattle.closed_boxes.specs.Helpers.{AgreesAtCounts, IsHelperOf, IsAsked, KeepsCounts, ServesBefore, IsShortAt}
use Rattle.closed_boxes.specs.Settling.{IsLeastPoint, IsShortRow}
use Rattle.bound_certificate.proofs.Integers.{mul-add, mul-le}
use Rattle.closed_boxes.proofs.Terms.{moved, same_at, scaled}

-- the numbers before any row is served
record IsBare (program : Program) (counts bare : List ℕ) : Type 0 where
  pub size : length bare ≡ length program.columns
  pub numbers : (j : ℕ) → slice_index bare j ≡ (if helper_at program.columns j then 0 else slice_index counts j)

bare_helper : (b : Bool) (n : ℕ) → b ≡ true → (if b then 0 else n) ≡ 0
bare_helper b n e = rw e refl

bare_count : (b : Bool) (n : ℕ) → b ≡ false → (if b then 0 else n) ≡ n
bare_count b n e = rw e refl

bare_within : (b : Bool) (n top : ℕ) → (b ≡ false → n ≤ top) → (if b then 0 else n) ≤ top
bare_within true n top h = omega arith
bare_within false n top h = h refl

pub serves_none : (program : Program) (counts bare : List ℕ) → length bare ≡ length program.columns → ((j : ℕ) → slice_index bare j ≡ (if helper_at program.columns j then 0 else slice_index counts j))
    → ((j : ℕ) → helper_at program.columns j ≡ false → slice_index counts j ≤ top_of program.columns j) → ServesBefore program 0 bare
serves_none program counts bare size numbers within = record {
  size = size;
  within = λ j. rw (numbers j) (bare_within (helper_at program.columns j) (slice_index counts j) (top_of program.columns j) (within j));
  met = λ k p. absurd (omega arith);
  asked = λ j on some. absurd (let none = numbers j ∙ bare_helper (helper_at program.columns j) (slice_index counts j) on in omega (arith, none, some));
}

-- the point keeps the counts
pub counts_of : (program : Program) (counts bare point : List ℕ) → ((j : ℕ) → slice_index bare j ≡ (if helper_at program.columns j then 0 else slice_index counts j)) → KeepsCounts program.columns bare point
    → AgreesAtCounts program counts 1 (slice_index point)
counts_of program counts bare point numbers kept j p off =
    let same = kept j off ∙ numbers j ∙ bare_count (helper_at program.columns j) (slice_index counts j) off in
    omega (arith, same)

-- ---- numbers x that are den times the point at the count columns

-- each column of a term is in the program
pub term_in : (program : Program) (k : ℕ) → All (λ t. t.column < length program.columns) (terms_of program.rows k)
term_in program k = columns_in (length program.columns) program.rows k (λ i d p l e q. (((program_limits program).rows_in i d p).terms l e q).column)

same_count : (program : Program) (counts point : List ℕ) (den : ℕ) (x : ℕ → ℕ) (j : ℕ) → AgreesAtCounts program counts den x → AgreesAtCounts program counts 1 (slice_index point) → j < length program.columns → helper_at program.columns j ≡ false
    → x j ≡ den * slice_index point j
same_count program counts point den x j agrees kept p off =
    let there = kept j p off in
    let same : slice_index point j ≡ slice_index counts j = omega (arith, there) in
    rw same (agrees j p off)

pub off_or_on : (b : Bool) → (b ≡ false) ⊎ (b ≡ true)
off_or_on false = inl refl
off_or_on true = inr refl

-- the terms of a row but its helper's
counts_same : (program : Program) (counts point : List ℕ) (den : ℕ) (x : ℕ → ℕ) (k h : ℕ) → AgreesAtCounts program counts den x → AgreesAtCounts program counts 1 (slice_index point)
    → IsHelperOf program.columns (terms_of program.rows k) h → All (λ t. t.column ≢ h → x t.column ≡ den * slice_index point t.column) (terms_of program.rows k)
counts_same program counts point den x k h agrees kept is i d p other = elim (off_or_on (helper_at program.columns (get_or (terms_of program.rows k) i d).column)) [
  | inl off ↦ same_count program counts point den x (get_or (terms_of program.rows k) i d).column agrees kept (term_in program k i d p) off
  | inr on ↦ absurd (other (is.only i d p on))
]

-- what a tight row asks, den times, is not above what x has
tight_at_most : (f old new least : ℤ) (den m n : ℕ) → f ≡ pos 1 → old ≡ pos den *ℤ least → (pos den *ℤ least) ≤ℤ new → new +ℤ f *ℤ pos (den * m) ≡ old +ℤ f *ℤ pos n → den * m ≤ n
tight_at_most f old new least den m n e is met move = let there = rw e at move in omega (arith, ints, there, is, met)

-- no point with these counts has less of a helper
asked_least : (program : Program) (counts point : List ℕ) (i j den : ℕ) (x : ℕ → ℕ) → AgreesAtCounts program counts den x → AgreesAtCounts program counts 1 (slice_index point) → IsAsked program point i j
    → ((k : ℕ) → k < i → (pos den *ℤ least_of program.rows k) ≤ℤ terms_at (terms_of program.rows k) x) → den * slice_index point j ≤ x j
asked_least program counts point i j den x agrees kept is met =
    let ts = terms_of program.rows is.row in
    let move = moved ts j x (λ c. den * slice_index point c) (counts_same program counts point den x is.row j agrees kept is.helper) in
    let old = scaled ts den (slice_index point) ∙ ap (λ z. pos den *ℤ z) is.tight in
    tight_at_most _ _ _ _ den (slice_index point j) (x j) is.helper.factor old (met is.row is.before) move

number_least : (program : Program) (counts point : List ℕ) (den : ℕ) (x : ℕ → ℕ) (j : ℕ) → ServesBefore program (length program.rows) point → AgreesAtCounts program counts den x → AgreesAtCounts program counts 1 (slice_index point)
    → ((k : ℕ) → k < length program.rows → (pos den *ℤ least_of program.rows k) ≤ℤ terms_at (terms_of program.rows k) x) → j < length program.columns → den * slice_index point j ≤ x j
number_least program counts point den x j served agrees kept met p = elim (off_or_on (helper_at program.columns j)) [
  | inl off ↦ let same = same_count program counts point den x j agrees kept p off in omega (arith, same)
  | inr on ↦ by (slice_index point j) refl on
]
  where
    by : (n : ℕ) → slice_index point j ≡ n → IsTrue (helper_at program.columns j) → den * slice_index point j ≤ x j
    by zero e on = rw e (omega arith)
    by (suc n) e on = asked_least program counts point (length program.rows) j den x agrees kept (served.asked j on (omega (arith, e))) met

-- a sum of costs of lesser numbers is less
total_least : (n den : ℕ) (cost m x : ℕ → ℕ) → ((j : ℕ) → j < n → den * m j ≤ x j) → den * total_below n (λ j. cost j * m j) ≤ total_below n (λ j. cost j * x j)
total_least zero den cost m x h = omega arith
total_least (suc n) den cost m x h =
    let before = total_least n den cost m x (λ j p. h j (omega arith)) in
    let last = mul-le-mul_left (cost n) (h n (omega arith)) in
    omega (arith, before, last)

-- each row is met, as contracts have it
row_meets : (rows : List Line) (den : ℕ) (x : ℕ → ℕ) (k : ℕ) → k < length rows → All (MeetsLine den x) rows → (pos den *ℤ least_of rows k) ≤ℤ terms_at (terms_of rows k) x
row_meets [] den x k p h = absurd (omega arith)
row_meets (line ∷ rows) den x zero p h = h 0 line (omega arith)
row_meets (line ∷ rows) den x (suc k) p h = row_meets rows den x k (omega arith) (λ i d q. h (suc i) d (omega arith))

meets_rows : (rows : List Line) (x : ℕ → ℕ) → ((k : ℕ) → k < length rows → least_of rows k ≤ℤ terms_at (terms_of rows k) x) → All (MeetsLine 1 x) rows
meets_rows [] x h k d p = absurd (omega arith)
meets_rows (line ∷ rows) x h zero d p = let here = h 0 (omega arith) in omega (arith, ints, here)
meets_rows (line ∷ rows) x h (suc k) d p = meets_rows rows x (λ i q. h (suc i) (omega arith)) k d (omega arith)

no_lows : (n j : ℕ) → slice_index (replicate n 0) j ≡ 0
no_lows zero j = refl
no_lows (suc n) zero = refl
no_lows (suc n) (suc j) = no_lows n j

whole_point : (program : Program) (point : List ℕ) → ServesBefore program (length program.rows) point → IsWholePoint program point
whole_point program point served = record {
  size = served.size;
  is_point = record {
    lies = record {
      above = λ j p. let none = no_lows (length program.columns) j in omega (arith, none);
      below = λ j p. let most = served.within j in omega (arith, most);
    };
    meets = meets_rows program.rows (slice_index point) served.met;
  };
}

pub least_point : (program : Program) (counts point : List ℕ) → ServesBefore program (length program.rows) point → AgreesAtCounts program counts 1 (slice_index point) → IsLeastPoint program counts point
least_point program counts point served kept = record {
  whole = whole_point program point served;
  agrees = kept;
  least = λ den x some is agrees.
      let total = total_least (length program.columns) den (cost_of program.columns) (slice_index point) x
      (λ j p. number_least program counts point den x j served agrees kept (λ k q. row_meets program.rows den x k q is.meets) p) in
      omega (arith, total);
  asked = served.asked;
}

-- a row without a helper has den times what it has at the counts
pub short_row : (program : Program) (counts point : List ℕ) (row : ℕ) → IsShortAt program row point → AgreesAtCounts program counts 1 (slice_index point) → IsShortRow program counts row
short_row program counts point row short kept = record {
  there = short.there;
  alone = short.alone;
  short = λ den x some agrees.
      let ts = terms_of program.rows row in
      let same = same_at ts x (λ j. den * slice_index point j) (λ i d p. same_count program counts point den x (get_or ts i d).column agrees kept (term_in program row i d p) (short.alone i d p)) in
      times_less den (terms_at ts x) (terms_at ts (slice_index point)) (least_of program.rows row) some (same ∙ scaled ts den (slice_index point)) short.less;
}
  where
    times_less : (den : ℕ) (x old least : ℤ) → 1 ≤ den → x ≡ pos den *ℤ old → old <ℤ least → x <ℤ (pos den *ℤ least)
    times_less den x old least some is less =
        let up = mul-le den (old +ℤ pos 1) least (omega (arith, ints, less)) in
        omega (arith, ints, up, mul-add (pos den) old (pos 1), is, some)

-- numbers that were written into a vector of their length are its items
pub written : (new rest : List ℕ) (len : ℕ) → length new ≡ len → take len (new ++ rest) ≡ new
written [] rest len e = rw (sym e) refl
written (x ∷ xs) rest len e = rw (sym e) (ap (λ (ys : List ℕ). x ∷ ys) (written xs rest (length xs) refl))
