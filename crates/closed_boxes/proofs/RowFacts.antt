-- The helper of a row of a program, its factor, and what its top serves.
use Rattle.std.proofs.Common.{◌≡◌, ◌≢◌, ◌⊎◌, ℕ, zero, suc, ◌<◌, ◌≤◌, pos, ◌+ℤ◌, ◌≤ℤ◌, refl, sym, ap, ◌∙◌, subst, arith, Bool, true, false, IsTrue, if◌then◌else◌, List, [], ◌∷◌, length, get_or, All, AllPairs, inl, inr, Option, Some, None, IfSome}
use Rattle.std.proofs.lemmas.Int.{ints}
use Rattle.std.proofs.lemmas.Bool.{eq-eqb, ne_eqb, true≢false}
use Rattle.std.proofs.lemmas.Bool.Decides.{eqb_tells}
use Rattle.std.proofs.lemmas.List.{get_or-map}
use Rattle.ip_model.specs.declared.parts.Column.{Column}
use Rattle.ip_model.specs.declared.parts.Term.{Term}
use Rattle.ip_model.specs.declared.parts.Line.{Line}
use Rattle.ip_model.specs.declared.parts.RowKind.TheVariants.{Total}
use Rattle.ip_model.specs.declared.program.Program.{Program}
use Rattle.ip_model.specs.Limits.{cost_of, helper_at, top_of, ColumnInRange, HelpersAtTop, LineInRange, TermInRange}
use Rattle.ip_model.specs.Sums.{terms_at, factor_of}
use Rattle.ip_model.proofs.RuleFacts.{program_limits}
use Rattle.bound_certificate.specs.Bound.{terms_of, least_of}
use Rattle.closed_boxes.specs.Helpers.{HasColumn, HasNoHelper, IsHelperOf}
use Rattle.closed_boxes.proofs.Terms.{no_factor, moved}

all_cons : {X : Type 0} (P : X → Type 0) (x : X) (xs : List X) → P x → All P xs → All P (x ∷ xs)
all_cons P x xs here rest zero d q = here
all_cons P x xs here rest (suc k) d q = rest k d (omega arith)

-- the first term is the helper's
helper_first : (columns : List Column) (t : Term) (ts : List Term) → IsTrue (helper_at columns t.column) → All (TermInRange columns) (t ∷ ts) → AllPairs (λ s t. s.column < t.column) (t ∷ ts)
    → AllPairs (λ s t. IsTrue (helper_at columns s.column) → IsTrue (helper_at columns t.column) → t.column < s.column) (t ∷ ts) → IsHelperOf columns (t ∷ ts) t.column
helper_first columns t ts on in_range rising one =
    let none = no_factor ts t.column (λ k d p same. let above = rising 0 (suc k) d (omega arith) (omega arith) in omega (arith, above, same)) in
    let factor = (in_range 0 t (omega arith)).helper_factor on in
    record {
      helper = on;
      stands = record { place = 0; within = omega arith; column = λ d. refl };
      factor = rw (eq-eqb t.column t.column refl) (omega (arith, ints, factor, none));
      only = all_cons (λ (u : Term). IsTrue (helper_at columns u.column) → u.column ≡ t.column) t ts (λ also. refl)
          (λ k d p also. let above = rising 0 (suc k) d (omega arith) (omega arith) in let below = one 0 (suc k) d (omega arith) (omega arith) on also in absurd (omega (arith, above, below)));
    }

-- a later term is the helper's
helper_later : (columns : List Column) (t : Term) (ts : List Term) (h : ℕ) → helper_at columns t.column ≡ false → IsHelperOf columns ts h → IsHelperOf columns (t ∷ ts) h
helper_later columns t ts h off is =
    let other : t.column ≢ h = λ same. true≢false (sym is.helper ∙ ap (helper_at columns) (sym same) ∙ off) in
    let q = is.stands.within in
    record {
      helper = is.helper;
      stands = record { place = suc is.stands.place; within = omega (arith, q); column = is.stands.column };
      factor = rw (ne_eqb t.column h other) (omega (arith, ints, is.factor));
      only = all_cons (λ (u : Term). IsTrue (helper_at columns u.column) → u.column ≡ h) t ts (λ also. absurd (true≢false (sym also ∙ off))) is.only;
    }

helper_or_none : (columns : List Column) (ts : List Term) → All (TermInRange columns) ts → AllPairs (λ s t. s.column < t.column) ts
    → AllPairs (λ s t. IsTrue (helper_at columns s.column) → IsTrue (helper_at columns t.column) → t.column < s.column) ts → HasNoHelper columns ts ⊎ ((h : ℕ) × IsHelperOf columns ts h)
helper_or_none columns [] in_range rising one = inl (λ k d p. absurd (omega arith))
helper_or_none columns (t ∷ ts) in_range rising one =
    by (helper_or_none columns ts (λ k d p. in_range (suc k) d (omega arith)) (λ i j d p q. rising (suc i) (suc j) d (omega arith) (omega arith)) (λ i j d p q. one (suc i) (suc j) d (omega arith) (omega arith)))
    (helper_at columns t.column) refl
  where
    by : HasNoHelper columns ts ⊎ ((h : ℕ) × IsHelperOf columns ts h) → (b : Bool) → helper_at columns t.column ≡ b → HasNoHelper columns (t ∷ ts) ⊎ ((h : ℕ) × IsHelperOf columns (t ∷ ts) h)
    by rest true e = inr (t.column, helper_first columns t ts e in_range rising one)
    by (inl none) false e = inl (all_cons (λ (u : Term). helper_at columns u.column ≡ false) t ts e none)
    by (inr w) false e = inr (w.0, helper_later columns t ts w.0 e w.1)

-- another helper has off factor
pub other_factor : (columns : List Column) (ts : List Term) (h j : ℕ) → IsHelperOf columns ts h → IsTrue (helper_at columns j) → j ≢ h → factor_of ts j ≡ pos 0
other_factor columns ts h j is on other = no_factor ts j (λ k d p same. other (sym same ∙ is.only k d p (ap (helper_at columns) same ∙ on)))

pub none_factor : (columns : List Column) (ts : List Term) (j : ℕ) → HasNoHelper columns ts → IsTrue (helper_at columns j) → factor_of ts j ≡ pos 0
none_factor columns ts j none on = no_factor ts j (λ k d p same. true≢false (sym on ∙ ap (helper_at columns) (sym same) ∙ none k d p))

-- a row of the program
record RowIs (program : Program) (k : ℕ) : Type 0 where
  line : Line
  terms_is : terms_of program.rows k ≡ line.terms
  least_is : least_of program.rows k ≡ line.least
  in_range : LineInRange program.columns line

row_is : (program : Program) (k : ℕ) → k < length program.rows → RowIs program k
row_is program k p =
    let none : Line = record { terms = []; least = pos 0; kind = Total } in
    record {
      line = get_or program.rows k none;
      terms_is = get_or-map (λ (l : Line). l.terms) program.rows k none [] p;
      least_is = get_or-map (λ (l : Line). l.least) program.rows k none (pos 0) p;
      in_range = (program_limits program).rows_in k none p;
    }

pub row_helper : (program : Program) (k : ℕ) → k < length program.rows → HasNoHelper program.columns (terms_of program.rows k) ⊎ ((h : ℕ) × IsHelperOf program.columns (terms_of program.rows k) h)
row_helper program k p =
    let row = row_is program k p in
    rw row.terms_is (helper_or_none program.columns row.line.terms row.in_range.terms row.in_range.rising row.in_range.one_helper)

-- a helper that a row has is its helper
pub helper_found : (program : Program) (k h : ℕ) → k < length program.rows → IsTrue (helper_at program.columns h) → HasColumn (terms_of program.rows k) h → IsHelperOf program.columns (terms_of program.rows k) h
helper_found program k h p on stands = by (row_helper program k p)
  where
    none : Term
    none = record { column = 0; factor = pos 0 }

    by : HasNoHelper program.columns (terms_of program.rows k) ⊎ ((j : ℕ) × IsHelperOf program.columns (terms_of program.rows k) j) → IsHelperOf program.columns (terms_of program.rows k) h
    by (inl w) = absurd (true≢false (sym on ∙ ap (helper_at program.columns) (sym (stands.column none)) ∙ w stands.place none stands.within))
    by (inr w) =
        let same : h ≡ w.0 = sym (stands.column none) ∙ w.1.only stands.place none stands.within (ap (helper_at program.columns) (stands.column none) ∙ on) in
        subst (λ (j : ℕ). IsHelperOf program.columns (terms_of program.rows k) j) (sym same) w.1

-- a helper's factor in a row is 0 or 1
pub factor_least : (program : Program) (k j : ℕ) → k < length program.rows → IsTrue (helper_at program.columns j) → (factor_of (terms_of program.rows k) j ≡ pos 0) ⊎ (factor_of (terms_of program.rows k) j ≡ pos 1)
factor_least program k j p on = by (row_helper program k p)
  where
    by : HasNoHelper program.columns (terms_of program.rows k) ⊎ ((h : ℕ) × IsHelperOf program.columns (terms_of program.rows k) h) → (factor_of (terms_of program.rows k) j ≡ pos 0) ⊎ (factor_of (terms_of program.rows k) j ≡ pos 1)
    by (inl w) = inl (none_factor program.columns (terms_of program.rows k) j w on)
    by (inr w) = elim (eqb_tells j w.0) [
      | inl e ↦ inr (rw e.1 w.1.factor)
      | inr e ↦ inl (other_factor program.columns (terms_of program.rows k) w.0 j w.1 on e.1)
    ]

-- the numbers of a point, but with each helper at its top
abbrev pub with_tops : List Column → (ℕ → ℕ) → ℕ → ℕ
with_tops columns x j = if helper_at columns j then top_of columns j else x j

tops_below : (b : Bool) (top n : ℕ) → n ≤ top → (if b then top else n) ≤ top
tops_below true top n h = omega arith
tops_below false top n h = h

with_tops-at : (columns : List Column) (x : ℕ → ℕ) → ((j : ℕ) → x j ≤ top_of columns j) → HelpersAtTop columns (with_tops columns x)
with_tops-at columns x within = record {
  within = λ j. tops_below (helper_at columns j) (top_of columns j) (x j) (within j);
  helpers = λ j on. rw on refl;
}

-- the same of a helper that may be there
pub if_found : (program : Program) (k : ℕ) (found : Option ℕ) → k < length program.rows → IfSome found (λ h. IsTrue (helper_at program.columns h)) → IfSome found (HasColumn (terms_of program.rows k))
    → IfSome found (IsHelperOf program.columns (terms_of program.rows k))
if_found program k None p on stands = on
if_found program k (Some h) p on stands = helper_found program k h p on stands

-- a row's helper at its top meets the row at the counts of numbers within the tops
pub top_serves : (program : Program) (k h : ℕ) (x : ℕ → ℕ) → k < length program.rows → ((j : ℕ) → x j ≤ top_of program.columns j) → IsHelperOf program.columns (terms_of program.rows k) h
    → (least_of program.rows k +ℤ pos (x h)) ≤ℤ (terms_at (terms_of program.rows k) x +ℤ pos (top_of program.columns h))
top_serves program k h x p within is =
    let none : Term = record { column = 0; factor = pos 0 } in
    let row = row_is program k p in
    let ts = terms_of program.rows k in
    let y : ℕ → ℕ = with_tops program.columns x in
    let place = rw row.terms_is at is.stands.within in
    let found = rw row.terms_is at (is.stands.column none) in
    let met = row.in_range.helper_serves is.stands.place none place (ap (helper_at program.columns) found ∙ is.helper) y (with_tops-at program.columns x within) in
    let there : least_of program.rows k ≤ℤ terms_at ts y = rw (row.terms_is, row.least_is) met in
    let at_top : y h ≡ top_of program.columns h = rw is.helper refl in
    let move = moved ts h y x (λ j d q other. others j d q other (helper_at program.columns (get_or ts j d).column) refl) in
    omega (arith, ints, there, rw (is.factor, at_top) at move)
  where
    others : (j : ℕ) (d : Term) → j < length (terms_of program.rows k) → (get_or (terms_of program.rows k) j d).column ≢ h → (b : Bool) → helper_at program.columns (get_or (terms_of program.rows k) j d).column ≡ b
        → with_tops program.columns x (get_or (terms_of program.rows k) j d).column ≡ x (get_or (terms_of program.rows k) j d).column
    others j d q other true e = absurd (other (is.only j d q e))
    others j d q other false e = rw e refl

-- a row has one helper
pub helper_once : (columns : List Column) (ts : List Term) (h j : ℕ) → IsHelperOf columns ts h → IsHelperOf columns ts j → j ≡ h
helper_once columns ts h j is also =
    let none : Term = record { column = 0; factor = pos 0 } in
    let found = also.stands.column none in
    sym found ∙ is.only also.stands.place none also.stands.within (ap (helper_at columns) found ∙ also.helper)

top_in : (columns : List Column) (j : ℕ) → All ColumnInRange columns → top_of columns j ≤ 20000000
top_in [] j is = omega arith
top_in (c ∷ cs) zero is = (is 0 c (omega arith)).top
top_in (c ∷ cs) (suc j) is = top_in cs j (λ k d p. is (suc k) d (omega arith))

pub top_small : (program : Program) (j : ℕ) → top_of program.columns j ≤ 20000000
top_small program j = top_in program.columns j (program_limits program).columns_in

cost_in : (columns : List Column) (j : ℕ) → All ColumnInRange columns → cost_of columns j ≤ 10000
cost_in [] j is = omega arith
cost_in (c ∷ cs) zero is = (is 0 c (omega arith)).cost
cost_in (c ∷ cs) (suc j) is = cost_in cs j (λ k d p. is (suc k) d (omega arith))

pub cost_small : (program : Program) (j : ℕ) → cost_of program.columns j ≤ 10000
cost_small program j = cost_in program.columns j (program_limits program).columns_in
