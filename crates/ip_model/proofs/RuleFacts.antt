-- The rules of programs and points, read as limits, and made from them.
use Rattle.std.proofs.Common.{◌≡◌, ℕ, zero, suc, ◌+◌, ◌*◌, ◌<◌, ◌≤◌, ◌^◌, refl, sym, arith, Bool, true, false, not, ◌&&◌, ◌||◌, List, [], ◌∷◌, length, filter, pos, negsuc, ℤ, ◌+ℤ◌, ◌*ℤ◌, ◌≤ℤ◌, unsigned_abs, nat_le, nat_lt, ◌==◌, int_le, int_lt, IsTrue, if◌then◌else◌, cond, mul-le-mul, slice_index, slice_index_or, get_or, map, All, AllPairs, ◌⊎◌, inl, inr, ◌∙◌, ap, Option, Some, None}
use Rattle.std.proofs.lemmas.Int.{ints, clamps, by_lt_z}
use Rattle.std.proofs.lemmas.List.{get_or_past}
use Rattle.std.proofs.Math.Bool.{Bool-set}
use Rattle.std.proofs.lemmas.Bool.{and_parts, and_from, or_right, true≢false, eq-eqb, ne_eqb, cases_lt}
use Rattle.std.proofs.lemmas.Bool.Decides.{nat_tests, eqb_tells}
use Rattle.std.proofs.lemmas.List.Sums.{AllPass-from_list_all, list_all-from_AllPass}
use Rattle.std.proofs.lemmas.List.Kept.{AllPairs-cons}
use Rattle.std.specs.List.{list_all}
use Rattle.std.specs.Int.{int_min}
use Rattle.ip_model.specs.declared.parts.Column.{Column}
use Rattle.ip_model.specs.declared.parts.Term.{Term}
use Rattle.ip_model.specs.declared.parts.Line.{Line}
use Rattle.ip_model.specs.declared.program.Program.{Program}
use Rattle.ip_model.specs.declared.point.Point.{Point}
use Rattle.ip_model.specs.Limits.{helper_at, is_helper, top_of, ColumnInRange, TermInRange, HelpersAtTop, LineInRange, KeepsLimits}
use Rattle.ip_model.specs.Fractions.{PointInRange}
use Rattle.ip_model.specs.Sums.{terms_at}
use Rattle.ip_model.specs.Rule.{column_in_range, term_in_range, columns_rise, term_reach, terms_reach, line_in_range, program_rule, point_rule}
use Rattle.ip_model.specs.Programs.{program_from, program_if}

int_le-true : (x y : ℤ) → int_le x y ≡ true → x ≤ℤ y
int_le-true x y h = omega (arith, ints)

int_le-from : (x y : ℤ) → x ≤ℤ y → int_le x y ≡ true
int_le-from x y h = by (int_le x y) refl
  where
    by : (t : Bool) → int_le x y ≡ t → int_le x y ≡ true
    by true e = e
    by false e = absurd (omega (arith, ints))

nat_le-true : (m n : ℕ) → nat_le m n ≡ true → m ≤ n
nat_le-true m n h = grind arith

nat_lt-true : (m n : ℕ) → nat_lt m n ≡ true → m < n
nat_lt-true m n h = grind arith

nat_le-from : (m n : ℕ) → m ≤ n → nat_le m n ≡ true
nat_le-from m n h = grind arith

nat_lt-from : (m n : ℕ) → m < n → nat_lt m n ≡ true
nat_lt-from m n h = grind arith

-- what a test of each element says, and is said by
all_of : {X : Type 0} (p : X → Bool) (P : X → Type 0) → ((x : X) → p x ≡ true → P x) → (xs : List X) → list_all p xs ≡ true → All P xs
all_of p P says xs h k d q = says (get_or xs k d) (AllPass-from_list_all p xs h k d q)

all_from : {X : Type 0} (p : X → Bool) (P : X → Type 0) → ((x : X) → P x → p x ≡ true) → (xs : List X) → All P xs → list_all p xs ≡ true
all_from p P says xs h = list_all-from_AllPass p xs (λ k d q. says (get_or xs k d) (h k d q))

column_of : (c : Column) → column_in_range c ≡ true → ColumnInRange c
column_of c h = record { cost = grind (arith, nat_tests, h); top = grind (arith, nat_tests, h); helper_costs = λ p. grind (arith, nat_tests, h, p) }

column_from : (c : Column) → ColumnInRange c → column_in_range c ≡ true
column_from c is =
    and_from _ _ (and_from _ _ (nat_le-from c.cost 10000 is.cost) (nat_le-from c.top 20000000 is.top)) (implied (is_helper c.mark) (nat_le 1 c.cost) (λ p. nat_le-from 1 c.cost (is.helper_costs p)))
  where
    implied : (a b : Bool) → (a ≡ true → b ≡ true) → (not a || b) ≡ true
    implied true b f = f refl
    implied false b f = refl

implied_pair : (a p q : Bool) → (not a || p && q) ≡ true → a ≡ true → (p ≡ true) × (q ≡ true)
implied_pair a p q h e = grind arith

pair_implied : (a p q : Bool) → (a ≡ true → (p ≡ true) × (q ≡ true)) → (not a || p && q) ≡ true
pair_implied true p q f = and_from p q (f refl).0 (f refl).1
pair_implied false p q f = refl

one_between : (f : ℤ) → int_le f (pos 1) ≡ true → int_le (pos 1) f ≡ true → f ≡ pos 1
one_between f p q = omega (arith, ints, int_le-true f (pos 1) p, int_le-true (pos 1) f q)

term_of : (columns : List Column) (t : Term) → term_in_range columns t ≡ true → TermInRange columns t
term_of columns t h =
    let last = (and_parts _ _ h).1 in
    let front = (and_parts _ _ h).0 in
    let front_2 = (and_parts _ _ front).0 in
    record {
      column = nat_lt-true t.column (length columns) (and_parts _ _ front_2).0;
      above_none = nat_le-true 1 (unsigned_abs t.factor) (and_parts _ _ front_2).1;
      factor = nat_le-true (unsigned_abs t.factor) 1000 (and_parts _ _ front).1;
      helper_factor = λ p. let both = implied_pair (helper_at columns t.column) (int_le t.factor (pos 1)) (int_le (pos 1) t.factor) last p in one_between t.factor both.0 both.1;
    }

term_from : (columns : List Column) (t : Term) → TermInRange columns t → term_in_range columns t ≡ true
term_from columns t is =
    and_from _ _ (and_from _ _ (and_from _ _ (nat_lt-from t.column (length columns) is.column) (nat_le-from 1 (unsigned_abs t.factor) is.above_none)) (nat_le-from (unsigned_abs t.factor) 1000 is.factor))
    (pair_implied (helper_at columns t.column) (int_le t.factor (pos 1)) (int_le (pos 1) t.factor) (λ p. rw (is.helper_factor p) (refl, refl)))

rising_of : (ts : List Term) → columns_rise ts ≡ true → AllPairs (λ s t. s.column < t.column) ts
rising_of [] h = λ i j d lt within. absurd (omega arith)
rising_of (s ∷ ts) h =
    let parts = and_parts _ _ h in
    AllPairs-cons (λ s t. s.column < t.column) s ts (all_of (λ (t : Term). nat_lt s.column t.column) (λ (t : Term). s.column < t.column) (λ t p. nat_lt-true s.column t.column p) ts parts.0) (rising_of ts parts.1)

rising_from : (ts : List Term) → AllPairs (λ s t. s.column < t.column) ts → columns_rise ts ≡ true
rising_from [] h = refl
rising_from (s ∷ ts) h =
    and_from _ _
    (all_from (λ (t : Term). nat_lt s.column t.column) (λ (t : Term). s.column < t.column) (λ t p. nat_lt-from s.column t.column p) ts (λ k d q. h zero (suc k) d (omega arith) (omega arith)))
    (rising_from ts (λ i j d lt within. h (suc i) (suc j) d (omega arith) (omega arith)))

filter_yes : {X : Type 0} (p : X → Bool) (x : X) (xs : List X) → p x ≡ true → length (filter p (x ∷ xs)) ≡ suc (length (filter p xs))
filter_yes p x xs e = rw e refl

filter_no : {X : Type 0} (p : X → Bool) (x : X) (xs : List X) → p x ≡ false → length (filter p (x ∷ xs)) ≡ length (filter p xs)
filter_no p x xs e = rw e refl

none_of : {X : Type 0} (p : X → Bool) (xs : List X) → length (filter p xs) ≤ 0 → All (λ x. p x ≡ false) xs
none_of p [] h k d q = absurd (omega arith)
none_of p (x ∷ xs) h k d q = by (none_of p xs) (p x) refl k q
  where
    by : (length (filter p xs) ≤ 0 → All (λ x. p x ≡ false) xs) → (b : Bool) → p x ≡ b → (k : ℕ) → k < length (x ∷ xs) → p (get_or (x ∷ xs) k d) ≡ false
    by rest true e k q = absurd (let more = filter_yes p x xs e in omega (arith, more, h))
    by rest false e zero q = e
    by rest false e (suc k) q = rest (let same = filter_no p x xs e in omega (arith, same, h)) k d (omega arith)

none_from : {X : Type 0} (p : X → Bool) (xs : List X) → All (λ x. p x ≡ false) xs → length (filter p xs) ≤ 0
none_from p [] h = omega arith
none_from p (x ∷ xs) h =
    let same = filter_no p x xs (h zero x (omega arith)) in
    let rest = none_from p xs (λ k d q. h (suc k) d (omega arith)) in
    omega (arith, same, rest)

-- at most one element passes exactly where none passes after one that does
one_of : {X : Type 0} (p : X → Bool) (xs : List X) → length (filter p xs) ≤ 1 → AllPairs (λ s t. p s ≡ true → p t ≡ false) xs
one_of p [] h = λ i j d lt within. absurd (omega arith)
one_of p (x ∷ xs) h = by (one_of p xs) (p x) refl
  where
    by : (length (filter p xs) ≤ 1 → AllPairs (λ s t. p s ≡ true → p t ≡ false) xs) → (b : Bool) → p x ≡ b → AllPairs (λ s t. p s ≡ true → p t ≡ false) (x ∷ xs)
    by rest true e =
        let more = filter_yes p x xs e in
        let none = none_of p xs (omega (arith, more, h)) in
        AllPairs-cons (λ s t. p s ≡ true → p t ≡ false) x xs (λ k d q yes. none k d q) (rest (omega (arith, more, h)))
    by rest false e =
        let same = filter_no p x xs e in
        AllPairs-cons (λ s t. p s ≡ true → p t ≡ false) x xs (λ k d q yes. absurd (true≢false (sym yes ∙ e))) (rest (omega (arith, same, h)))

one_from : {X : Type 0} (p : X → Bool) (xs : List X) → AllPairs (λ s t. p s ≡ true → p t ≡ false) xs → length (filter p xs) ≤ 1
one_from p [] h = omega arith
one_from p (x ∷ xs) h = by (one_from p xs (λ i j d lt within. h (suc i) (suc j) d (omega arith) (omega arith))) (p x) refl
  where
    by : length (filter p xs) ≤ 1 → (b : Bool) → p x ≡ b → length (filter p (x ∷ xs)) ≤ 1
    by few true e =
        let none = none_from p xs (λ k d q. h zero (suc k) d (omega arith) (omega arith) e) in
        let more = filter_yes p x xs e in
        omega (arith, more, none)
    by few false e = let same = filter_no p x xs e in omega (arith, same, few)

record Passing {X : Type 0} (p : X → Bool) (xs : List X) : Type 0 where
  place : ℕ
  within : place < length xs
  passes : (d : X) → p (get_or xs place d) ≡ true

some_of : {X : Type 0} (p : X → Bool) (xs : List X) → 1 ≤ length (filter p xs) → Passing p xs
some_of p [] h = absurd (omega arith)
some_of p (x ∷ xs) h = by (some_of p xs) (p x) refl
  where
    by : (1 ≤ length (filter p xs) → Passing p xs) → (b : Bool) → p x ≡ b → Passing p (x ∷ xs)
    by rest true e = record { place = zero; within = omega arith; passes = λ d. e }
    by rest false e =
        let same = filter_no p x xs e in
        let later = rest (omega (arith, same, h)) in
        let q = later.within in
        record { place = suc later.place; within = omega (arith, q); passes = λ d. later.passes d }

mul-below : (n a b : ℕ) → a ≤ b → n * a ≤ n * b
mul-below n a b p = let same : n ≤ n = omega arith in mul-le-mul same p

count_below : (f : ℤ) (x top : ℕ) → x ≤ top → (int_min (pos 0) (f *ℤ pos top)) ≤ℤ (f *ℤ pos x)
count_below (pos n) x top p = omega (arith, ints, clamps, mul-below n x top p)
count_below (negsuc n) x top p = omega (arith, ints, clamps, mul-below (suc n) x top p)

term_below : (columns : List Column) (t : Term) (x : ℕ → ℕ) → HelpersAtTop columns x → (term_reach columns t) ≤ℤ (t.factor *ℤ pos (x t.column))
term_below columns t x at = by_test (helper_at columns t.column) refl
  where
    by_test : (b : Bool) → helper_at columns t.column ≡ b → (term_reach columns t) ≤ℤ (t.factor *ℤ pos (x t.column))
    by_test true h = rw (h, at.helpers t.column h) (omega (arith, ints))
    by_test false h = rw h (count_below t.factor (x t.column) (top_of columns t.column) (at.within t.column))

-- the reach lies at or under the sum of the terms at any numbers within the tops, the helpers being at their tops
reach_below : (columns : List Column) (ts : List Term) (x : ℕ → ℕ) → HelpersAtTop columns x → (terms_reach columns ts) ≤ℤ (terms_at ts x)
reach_below columns [] x at = omega (arith, ints)
reach_below columns (t ∷ ts) x at = omega (arith, ints, term_below columns t x at, reach_below columns ts x at)

-- the number of column j at which a term of factor f is least
abbrev least_number : List Column → ℤ → ℕ → ℕ
least_number columns f j = if helper_at columns j then top_of columns j else (if int_lt f (pos 0) then top_of columns j else 0)

-- the numbers at which the sum of the terms is least
abbrev least_at : List Column → List Term → ℕ → ℕ
least_at columns [] j = least_number columns (pos 0) j
least_at columns (t ∷ ts) j = if t.column == j then least_number columns t.factor j else least_at columns ts j

number_is : (h n : Bool) (top : ℕ) → (if h then top else (if n then top else 0)) ≤ top
number_is h n top = grind arith

number_at : (h n : Bool) (top : ℕ) → h ≡ true → (if h then top else (if n then top else 0)) ≡ top
number_at h n top e = grind arith

least_within : (columns : List Column) (ts : List Term) (j : ℕ) → least_at columns ts j ≤ top_of columns j
least_within columns [] j = number_is (helper_at columns j) (int_lt (pos 0) (pos 0)) (top_of columns j)
least_within columns (t ∷ ts) j = elim (eqb_tells t.column j) [
  | inl w ↦ rw w.0 (number_is (helper_at columns j) (int_lt t.factor (pos 0)) (top_of columns j))
  | inr w ↦ rw w.0 (least_within columns ts j)
]

least_helpers : (columns : List Column) (ts : List Term) (j : ℕ) → helper_at columns j ≡ true → least_at columns ts j ≡ top_of columns j
least_helpers columns [] j h = number_at (helper_at columns j) (int_lt (pos 0) (pos 0)) (top_of columns j) h
least_helpers columns (t ∷ ts) j h = elim (eqb_tells t.column j) [
  | inl w ↦ rw w.0 (number_at (helper_at columns j) (int_lt t.factor (pos 0)) (top_of columns j) h)
  | inr w ↦ rw w.0 (least_helpers columns ts j h)
]

least_count : (f : ℤ) (top : ℕ) → f *ℤ pos (if int_lt f (pos 0) then top else 0) ≡ int_min (pos 0) (f *ℤ pos top)
least_count (pos n) top =
    let none : (if int_lt (pos n) (pos 0) then top else 0) ≡ 0 = by_lt_z (pos n) (pos 0) (λ p. absurd (omega (arith, ints, p))) (λ p. rw (not_below n) refl) in
    rw none (omega (arith, ints, clamps))
  where
    not_below : (n : ℕ) → int_lt (pos n) (pos 0) ≡ false
    not_below n = grind arith
least_count (negsuc n) top = omega (arith, ints, clamps)

term_least : (columns : List Column) (t : Term) → t.factor *ℤ pos (least_number columns t.factor t.column) ≡ term_reach columns t
term_least columns t = by (helper_at columns t.column) refl
  where
    by : (b : Bool) → helper_at columns t.column ≡ b → t.factor *ℤ pos (least_number columns t.factor t.column) ≡ term_reach columns t
    by true h = rw h refl
    by false h = rw h (least_count t.factor (top_of columns t.column))

terms_at-same : (ts : List Term) (x y : ℕ → ℕ) → All (λ t. x t.column ≡ y t.column) ts → terms_at ts x ≡ terms_at ts y
terms_at-same [] x y h = refl
terms_at-same (t ∷ ts) x y h = rw (h zero t (omega arith), terms_at-same ts x y (λ k d q. h (suc k) d (omega arith))) refl

reach_is : (columns : List Column) (ts : List Term) → AllPairs (λ s t. s.column < t.column) ts → terms_at ts (least_at columns ts) ≡ terms_reach columns ts
reach_is columns [] rising = refl
reach_is columns (t ∷ ts) rising =
    let here : least_at columns (t ∷ ts) t.column ≡ least_number columns t.factor t.column = rw (eq-eqb t.column t.column refl) refl in
    let others : All (λ u. least_at columns (t ∷ ts) u.column ≡ least_at columns ts u.column) ts =
    λ k d q. let above : t.column < (get_or ts k d).column = rising zero (suc k) d (omega arith) (omega arith) in
    rw (ne_eqb t.column (get_or ts k d).column (omega (arith, above))) refl in
    let rest = reach_is columns ts (λ i j d lt within. rising (suc i) (suc j) d (omega arith) (omega arith)) in
    let same = terms_at-same ts (least_at columns (t ∷ ts)) (least_at columns ts) others in
    let first = term_least columns t in
    rw (here, same, rest, first) refl

either_or : (n : ℕ) (q : Bool) → (nat_le n 0 || q) ≡ true → 1 ≤ n → q ≡ true
either_or n q h p = grind arith

line_of : (columns : List Column) (line : Line) → line_in_range columns line ≡ true → LineInRange columns line
line_of columns line h =
    let last = (and_parts _ _ h).1 in
    let front = (and_parts _ _ h).0 in
    let front_2 = (and_parts _ _ front).0 in
    let front_3 = (and_parts _ _ front_2).0 in
    let helper : Term → Bool = λ t. helper_at columns t.column in
    let helpers = filter helper line.terms in
    let single = one_of helper line.terms (nat_le-true (length helpers) 1 (and_parts _ _ front).1) in
    record {
      least = nat_le-true (unsigned_abs line.least) 20000000 (and_parts _ _ front_3).0;
      terms = all_of (term_in_range columns) (TermInRange columns) (term_of columns) line.terms (and_parts _ _ front_3).1;
      rising = rising_of line.terms (and_parts _ _ front_2).1;
      one_helper = λ i j d lt within yes also. absurd (true≢false (sym also ∙ single i j d lt within yes));
      helper_serves = λ k d within yes x at.
          let some : 1 ≤ length helpers = by_le (length helpers) (λ none. true≢false (sym yes ∙ none_of helper line.terms none k d within)) in
          let meets = int_le-true line.least (terms_reach columns line.terms) (either_or (length helpers) (int_le line.least (terms_reach columns line.terms)) last some) in
          let under = reach_below columns line.terms x at in
          omega (arith, ints, meets, under);
    }
  where
    by_le : (n : ℕ) → (n ≤ 0 → ⊥) → 1 ≤ n
    by_le zero f = absurd (f (omega arith))
    by_le (suc n) f = omega arith

line_from : (columns : List Column) (line : Line) → LineInRange columns line → line_in_range columns line ≡ true
line_from columns line is =
    let helper : Term → Bool = λ t. helper_at columns t.column in
    let helpers = filter helper line.terms in
    let single = one_from helper line.terms (λ i j d lt within yes. not_both (helper (get_or line.terms j d)) (λ also.
    let up = is.rising i j d lt within in let down = is.one_helper i j d lt within yes also in absurd (omega (arith, up, down)))) in
    and_from _ _ (and_from _ _ (and_from _ _ (and_from _ _ (nat_le-from (unsigned_abs line.least) 20000000 is.least)
    (all_from (term_in_range columns) (TermInRange columns) (term_from columns) line.terms is.terms))
    (rising_from line.terms is.rising)) (nat_le-from (length helpers) 1 single))
    (least_meets (length helpers) refl)
  where
    not_both : (b : Bool) → (b ≡ true → ⊥) → b ≡ false
    not_both true f = absurd (f refl)
    not_both false f = refl

    least_meets : (n : ℕ) → length (filter (λ t. helper_at columns t.column) line.terms) ≡ n → (nat_le n 0 || int_le line.least (terms_reach columns line.terms)) ≡ true
    least_meets zero e = refl
    least_meets (suc n) e =
        let found = some_of (λ t. helper_at columns t.column) line.terms (omega (arith, e)) in
        let d : Term = record { column = 0; factor = pos 0 } in
        let meets = is.helper_serves found.place d found.within (found.passes d) (least_at columns line.terms)
        (record { within = least_within columns line.terms; helpers = least_helpers columns line.terms }) in
        or_right (nat_le (suc n) 0) (int_le line.least (terms_reach columns line.terms)) (int_le-from line.least (terms_reach columns line.terms) (rw (sym (reach_is columns line.terms is.rising)) meets))

pub limits_of : (base : ℕ) (columns : List Column) (rows : List Line) → IsTrue (program_rule base columns rows) → KeepsLimits base columns rows
limits_of base columns rows h =
    let front = (and_parts _ _ h).0 in
    let front_2 = (and_parts _ _ front).0 in
    let front_3 = (and_parts _ _ front_2).0 in
    record {
      few_columns = nat_le-true (length columns) 2048 (and_parts _ _ front_3).0;
      few_rows = nat_le-true (length rows) 2048 (and_parts _ _ front_3).1;
      base_bound = nat_le-true base 281474976710656 (and_parts _ _ front_2).1;
      columns_in = all_of column_in_range ColumnInRange column_of columns (and_parts _ _ front).1;
      rows_in = all_of (line_in_range columns) (LineInRange columns) (line_of columns) rows (and_parts _ _ h).1;
    }

pub rule_of : (base : ℕ) (columns : List Column) (rows : List Line) → KeepsLimits base columns rows → IsTrue (program_rule base columns rows)
rule_of base columns rows is =
    and_from _ _ (and_from _ _ (and_from _ _ (and_from _ _ (nat_le-from (length columns) 2048 is.few_columns) (nat_le-from (length rows) 2048 is.few_rows))
    (nat_le-from base 281474976710656 is.base_bound))
    (all_from column_in_range ColumnInRange column_from columns is.columns_in))
    (all_from (line_in_range columns) (LineInRange columns) (line_from columns) rows is.rows_in)

pub program_limits : (program : Program) → KeepsLimits program.base program.columns program.rows
program_limits program = limits_of program.base program.columns program.rows program.kept

-- the parts of a point
pub point_range_of : (den : ℕ) (whole part : List ℕ) → IsTrue (point_rule den whole part) → PointInRange den whole part
point_range_of den whole part h =
    let front = (and_parts _ _ h).0 in
    let some = nat_le-true 1 den (and_parts _ _ front).0 in
    let parts = all_of (λ n. nat_lt n den) (λ n. n < den) (λ n p. nat_lt-true n den p) part (and_parts _ _ h).1 in
    record {
      den_above_none = some;
      den_most = nat_le-true den 1152921504606846976 (and_parts _ _ front).1;
      parts = λ j. elim (cases_lt j (length part)) [ inl p ↦ parts j 0 p | inr p ↦ rw (get_or_past part j 0 p) some ];
    }

pub point_rule_of : (den : ℕ) (whole part : List ℕ) → 1 ≤ den → den ≤ 2 ^ 60 → All (λ n. n < den) part → IsTrue (point_rule den whole part)
point_rule_of den whole part some most parts =
    and_from _ _ (and_from _ _ (nat_le-from 1 den some) (nat_le-from den 1152921504606846976 most)) (all_from (λ n. nat_lt n den) (λ n. n < den) (λ n p. nat_lt-from n den p) part parts)

pub point_range : (point : Point) → PointInRange point.den point.whole point.part
point_range point = point_range_of point.den point.whole point.part point.kept

-- a program is what its parts make
program_if-is : (base : ℕ) (columns : List Column) (rows : List Line) (kept : IsTrue (program_rule base columns rows)) (b : Bool) (e : program_rule base columns rows ≡ b)
    → program_if base columns rows b e ≡ Some (record { base = base; columns = columns; rows = rows; kept = kept })
program_if-is base columns rows kept true e = ap (λ k. Some (record { base = base; columns = columns; rows = rows; kept = k })) (Bool-set _ _ e kept)
program_if-is base columns rows kept false e = absurd (true≢false (sym kept ∙ e))

pub program_from-is : (base : ℕ) (columns : List Column) (rows : List Line) (kept : IsTrue (program_rule base columns rows))
    → program_from base columns rows ≡ Some (record { base = base; columns = columns; rows = rows; kept = kept })
program_from-is base columns rows kept = program_if-is base columns rows kept (program_rule base columns rows) refl

pub program_from-parts : (program : Program) → program_from program.base program.columns program.rows ≡ Some program
program_from-parts program = program_from-is program.base program.columns program.rows program.kept

program_if-some : (base : ℕ) (columns : List Column) (rows : List Line) (b : Bool) (e : program_rule base columns rows ≡ b) (program : Program)
    → program_if base columns rows b e ≡ Some program → (program.base ≡ base) × (program.columns ≡ columns) × (program.rows ≡ rows)
program_if-some base columns rows true e program is =
    let same : record { base = base; columns = columns; rows = rows; kept = e } ≡ program = cc in
    (ap (λ (p : Program). p.base) (sym same), ap (λ (p : Program). p.columns) (sym same), ap (λ (p : Program). p.rows) (sym same))
program_if-some base columns rows false e program is = cc

-- and has the parts that it was made from
pub program_from-some : (base : ℕ) (columns : List Column) (rows : List Line) (program : Program)
    → program_from base columns rows ≡ Some program → (program.base ≡ base) × (program.columns ≡ columns) × (program.rows ≡ rows)
program_from-some base columns rows program is = program_if-some base columns rows (program_rule base columns rows) refl program is
