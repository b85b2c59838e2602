-- The rows of the start tableau show the forms of their places.
use Rattle.std.proofs.Common.{◌≡◌, ℕ, zero, suc, ◌+◌, ◌<◌, ◌≤◌, sym, ap, subst, ◌∙◌, arith, ℤ, pos, ◌-ℤ◌, ◌*ℤ◌, List, [], length, slice_index, if◌then◌else◌, ◌==◌, inl, inr, refl, Result, Ok, Err, IfOk, All}
use Rattle.exact_fraction.specs.declared.fraction.Fraction.{Fraction}
use Rattle.exact_fraction.specs.Exact.{IsRatio}
use Rattle.exact_simplex.specs.Tableaus.{Form}
use Rattle.exact_simplex.specs.Forms.{Parts, parts_of, step, surplus, room, form_at, forms_of}
use Rattle.exact_simplex.specs.Start.{start_of}
use Rattle.exact_simplex.specs.Cells.{cell_of, row_of, number_at, Shows}
use Rattle.std.proofs.lemmas.Bool.{cases_eq, eq-eqb, ne_eqb}
use Rattle.exact_simplex.specs.Beginning.{IsWhole, IsWholeRow, ShowsForm, AreSlopes, single_form}
use Rattle.exact_simplex.specs.Kept.{AreBelow, all_cells, value_of}
use Rattle.exact_simplex.specs.declared.tableau_row.Kept.{Kept}
use Rattle.exact_simplex.proofs.KeptFacts.{below_more, cell_is, size_is}
use Rattle.exact_simplex.proofs.MergeFacts.{KeptNext}
use Rattle.exact_simplex.proofs.Least.{step_place, surplus_place, room_place}
use Rattle.ip_model.specs.declared.parts.Term.{Term}
use Rattle.ip_model.specs.declared.parts.Line.{Line}
use Rattle.ip_model.specs.declared.parts.Bounds.{Bounds}
use Rattle.ip_model.specs.declared.program.Program.{Program}
use Rattle.ip_model.specs.Sums.{sum_below, factor_of, terms_at}
use Rattle.bound_certificate.specs.Bound.{terms_of}
use Rattle.bound_certificate.proofs.Duality.{by_columns}
use Rattle.bound_certificate.proofs.Combined.{LineAt}

form_shown : (n : ℕ) (row : List Fraction) (value : ℤ) (slopes : List ℤ) (form : Form) → IsWholeRow row value slopes → AreSlopes slopes n form.slope → value ≡ form.constant → ShowsForm n row form
form_shown n row value slopes form is are same = record {
  size = is.size ∙ ap suc are.size;
  first = (is.first.0 ∙ same, is.first.1);
  others = λ k p. (let within : k < length slopes = (let e = are.size in omega arith) in ((is.others k within).0 ∙ are.at k p, (is.others k within).1));
}

pub form_when : {E : Type 0} (found : Result (List Fraction) E) (n : ℕ) (value : ℤ) (slopes : List ℤ) (form : Form) → IfOk found (λ row. IsWholeRow row value slopes) → AreSlopes slopes n form.slope → value ≡ form.constant → IfOk found (λ row. ShowsForm n row form)
form_when (Ok row) n value slopes form is are same = form_shown n row value slopes form is are same
form_when (Err e) n value slopes form is are same = is

pub at_step : {E : Type 0} (found : Result (List Fraction) E) (p : Parts) (i j : ℕ) → i ≡ suc j → j < p.columns → IfOk found (λ row. ShowsForm p.columns row (form_at p (step j))) → IfOk found (λ row. ShowsForm p.columns row (forms_of p i))
at_step found p i j is there h = subst (λ (m : ℕ). IfOk found (λ row. ShowsForm p.columns row (forms_of p m))) (sym is) (subst (λ w. IfOk found (λ row. ShowsForm p.columns row (form_at p w))) (sym (step_place p.columns p.rows j there)) h)

pub at_surplus : {E : Type 0} (found : Result (List Fraction) E) (p : Parts) (i j : ℕ) → i ≡ suc (p.columns + j) → j < p.rows → IfOk found (λ row. ShowsForm p.columns row (form_at p (surplus j))) → IfOk found (λ row. ShowsForm p.columns row (forms_of p i))
at_surplus found p i j is there h = subst (λ (m : ℕ). IfOk found (λ row. ShowsForm p.columns row (forms_of p m))) (sym is) (subst (λ w. IfOk found (λ row. ShowsForm p.columns row (form_at p w))) (sym (surplus_place p.columns p.rows j there)) h)

pub at_room : {E : Type 0} (found : Result (List Fraction) E) (p : Parts) (i j : ℕ) → i ≡ suc (p.columns + p.rows + j) → IfOk found (λ row. ShowsForm p.columns row (form_at p (room j))) → IfOk found (λ row. ShowsForm p.columns row (forms_of p i))
at_room found p i j is h = subst (λ (m : ℕ). IfOk found (λ row. ShowsForm p.columns row (forms_of p m))) (sym is) (subst (λ w. IfOk found (λ row. ShowsForm p.columns row (form_at p w))) (sym (room_place p.columns p.rows j)) h)

whole_ratio : (f : Fraction) (z : ℤ) → IsWhole f z → IsRatio f.num f.den z (pos 1)
whole_ratio f z h = ap (λ y. y *ℤ pos 1) h.0 ∙ ap (λ y. z *ℤ y) (sym h.1)

start_row : (p : Parts) (row : List Fraction) (i : ℕ) → ShowsForm p.columns row (forms_of p i) → (c : ℕ) → c ≤ p.columns → IsRatio (cell_of row c).num (cell_of row c).den (number_at (start_of p) i c) (pos 1)
start_row p row i h zero q = whole_ratio (cell_of row 0) (forms_of p i).constant h.first
start_row p row i h (suc k) q = whole_ratio (cell_of row (suc k)) ((forms_of p i).slope k) (h.others k (omega arith))

pub start_shows : (p : Parts) (cells : List (List Fraction)) (units : List ℕ) → ((i : ℕ) → i < length cells → ShowsForm p.columns (row_of cells i) (forms_of p i)) → length units ≡ p.columns → ((k : ℕ) → k < p.columns → slice_index units k ≡ suc k) → Shows p.columns cells units (start_of p)
start_shows p cells units rows size are = record {
  rows = λ i q. record { size = (rows i q).size; numbers = start_row p (row_of cells i) i (rows i q) };
  units_size = size;
  units_are = are;
}

pub surplus_when : {E : Type 0} (found : Result (List Fraction) E) (program : Program) (box : Bounds) (i : ℕ) (line : Line) (terms : List Term) (low : List ℕ) (value at_lows : ℤ) (slopes given : List ℤ) → LineAt program i line → terms ≡ line.terms → low ≡ box.low → AreSlopes slopes (length program.columns) (factor_of terms) → given ≡ slopes → at_lows ≡ terms_at terms (slice_index low) → value ≡ at_lows -ℤ line.least → IfOk found (λ row. IsWholeRow row value given) → IfOk found (λ row. ShowsForm (length program.columns) row (form_at (parts_of program box) (surplus i)))
surplus_when found program box i line terms low value at_lows slopes given line_is is_terms is_low are is_given is_sum is_value made =
    let n = length program.columns in
    let same : terms ≡ terms_of program.rows i = is_terms ∙ sym line_is.terms_is in
    let columns : All (λ t. t.column < n) terms = subst (λ ts. All (λ t. t.column < n) ts) (sym is_terms) (λ k d p. (line_is.in_range.terms k d p).column) in
    let sum : at_lows ≡ sum_below n (λ j. factor_of (terms_of program.rows i) j *ℤ pos (slice_index box.low j)) =
    is_sum ∙ ap (λ (xs : List ℕ). terms_at terms (slice_index xs)) is_low ∙ sym (by_columns n terms (slice_index box.low) columns) ∙ ap (λ ts. sum_below n (λ j. factor_of ts j *ℤ pos (slice_index box.low j))) same in
    form_when found n value given (form_at (parts_of program box) (surplus i)) made
    (subst (λ xs. AreSlopes xs n (factor_of (terms_of program.rows i))) (sym is_given) (subst (λ ts. AreSlopes slopes n (factor_of ts)) same are))
    (is_value ∙ ap (λ z. z -ℤ line.least) sum ∙ ap (λ z. sum_below n (λ j. factor_of (terms_of program.rows i) j *ℤ pos (slice_index box.low j)) -ℤ z) (sym line_is.least_is))

-- the row of a value and one factor
single_shown : (n place : ℕ) (value slope : ℤ) (one two : List Kept) (first second : Fraction) (m : ℕ) → place < n → m ≡ suc place → IsWhole first value → IsWhole second slope → KeptNext [] one 0 first → KeptNext one two m second → ShowsForm n (all_cells (suc n) two) (single_form value place slope)
single_shown n place value slope one two first second m there up is_value is_slope kept next =
    let below : AreBelow (suc n) two = below_more (suc m) (suc n) two (omega arith) next.below in
    record {
      size = size_is (suc n) two;
      first = subst (λ (f : Fraction). IsWhole f value) (sym (next.others 0 (λ e. omega arith)) ∙ cell_is (suc n) two below 0) (kept.num ∙ is_value.0, kept.den ∙ is_value.1);
      others = λ k p. subst (λ (f : Fraction). IsWhole f (if k == place then slope else pos 0)) (cell_is (suc n) two below (suc k)) (elim (cases_eq k place) [
        | inl here ↦
            (let same : m ≡ suc k = omega arith in
            let own : IsWhole (value_of two m) slope = (next.num ∙ is_slope.0, next.den ∙ is_slope.1) in
            rw (eq-eqb k place here) (subst (λ (j : ℕ). IsWhole (value_of two j) slope) same own))
        | inr other ↦ rw (ne_eqb k place other) (subst (λ (f : Fraction). IsWhole f (pos 0)) (sym (next.others (suc k) (λ e. other (omega arith)) ∙ kept.others (suc k) (λ e. omega arith))) (refl, refl))
      ]);
    }

pub single_when : (n size place : ℕ) (value slope : ℤ) (one two : List Kept) (first second : Fraction) (m : ℕ) (row : List Fraction) → row ≡ all_cells size two → size ≡ suc n → place < n → m ≡ suc place → IsWhole first value → IsWhole second slope → KeptNext [] one 0 first → KeptNext one two m second → ShowsForm n row (single_form value place slope)
single_when n size place value slope one two first second m row is_row is_size there up is_value is_slope kept next =
    subst (λ (xs : List Fraction). ShowsForm n xs (single_form value place slope)) (sym (is_row ∙ ap (λ (k : ℕ). all_cells k two) is_size)) (single_shown n place value slope one two first second m there up is_value is_slope kept next)
