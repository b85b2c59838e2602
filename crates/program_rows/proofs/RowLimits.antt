-- The three forms of rows, and the value of the movable servers as a bound.
use Rattle.std.proofs.Common.{◌≡◌, ℕ, zero, suc, ◌+◌, ◌*◌, ◌≤◌, true, false, List, [], ◌∷◌, arith, ap, sym, ◌∙◌, Some, zero-add}
use Rattle.std.specs.Prelude.{sum_by, slice_get, Option, IsTrue, ℤ, pos, neg_ℤ, unsigned_abs, ◌+ℤ◌, ◌-ℤ◌, ◌≤ℤ◌}
use mathlib.Core.Logic.{◌⊎◌, inl, inr}
use Rattle.std.proofs.lemmas.Int.{ints}
use Rattle.std.proofs.lemmas.List.Sums.{sum_by-cons}
use Rattle.ip_model.specs.declared.parts.Mark.{Mark}
use Rattle.ip_model.specs.declared.parts.Mark.TheVariants.{Count, Share, BoardExcess, Shortage, RackExcess}
use Rattle.ip_model.specs.declared.parts.Column.{Column}
use Rattle.ip_model.specs.declared.parts.RowKind.{RowKind}
use Rattle.ip_model.specs.Limits.{is_helper, helper_at, top_of, HelpersAtTop, LineInRange}
use Rattle.ip_model.specs.Sums.{terms_at}
use Rattle.program_rows.specs.Programs.{line, is_zero}
use Rattle.program_rows.proofs.ClassRows.{IsCountFactor}
use Rattle.program_rows.proofs.LineLimits.{helper_at-is, terms-all, terms-in_range, line-rising, line-one_helper, sum_at, line-at, whole_at-minus, whole_at-plus, sum_at-least, sum_at-most}

pub count-only : (u : Mark → ℕ) → IsCountFactor u → (m : Mark) → is_helper m ≡ true → u m ≡ 0
count-only u only (Count c to) h = cc
count-only u only (Share r) h = only.share r
count-only u only (BoardExcess r b) h = only.board r b
count-only u only (Shortage r e) h = only.shortage r e
count-only u only (RackExcess r k) h = only.rack r k

top-at : (columns : List Column) (i : ℕ) (c : Column) → slice_get columns i ≡ Some c → top_of columns i ≡ c.top
top-at [] i c h = cc
top-at (d ∷ ds) zero c h = let same : d ≡ c = cc in ap (λ e. e.top) same
top-at (d ∷ ds) (suc i) c h = top-at ds i c h

zero-is : (z : ℤ) → z ≡ pos 0 → is_zero z ≡ false → 1 ≤ 0
zero-is z e h = let clash : true ≡ false = sym (ap is_zero e) ∙ h in cc

no-helper : (columns : List Column) → sum_by (λ (d : Column). 0 * 1) columns ≤ 1
no-helper [] = omega arith
no-helper (c ∷ cs) = let rest = no-helper cs in omega (arith, sum_by-cons (λ (d : Column). 0 * 1) c cs, rest)

-- a row without helpers
pub plain-line : (columns : List Column) (kind : RowKind) (factor : Mark → ℤ) (least : ℤ) → ((m : Mark) → unsigned_abs (factor m) ≤ 1000)
    → ((m : Mark) → is_helper m ≡ true → factor m ≡ pos 0) → unsigned_abs least ≤ 20000000 → LineInRange columns (line columns kind factor least)
plain-line columns kind factor least bound none few = record {
  least = few;
  terms = terms-in_range columns kind factor least (record { bound = bound; helper = λ m h some. absurd (omega (arith, zero-is (factor m) (none m h) some)) });
  rising = line-rising columns kind factor least;
  one_helper = line-one_helper columns kind factor least (λ _. 0) (λ m h some. zero-is (factor m) (none m h) some) (no-helper columns);
  helper_serves = terms-all (λ t. IsTrue (helper_at columns t.column) → (x : ℕ → ℕ) → HelpersAtTop columns x → least ≤ℤ terms_at (line columns kind factor least).terms x) columns kind factor least
      (λ i c read some helper x tops. absurd (omega (arith, zero-is (factor c.mark) (none c.mark (sym (helper_at-is columns i c read) ∙ helper)) some)));
}

-- a helper's 1, and units at the counts
pub record IsHelperRow (columns : List Column) (h u : Mark → ℕ) (v : ℕ) : Type 0 where
  pub units : IsCountFactor u
  pub small : (m : Mark) → u m ≤ 1000
  pub most : (m : Mark) → h m ≤ 1
  pub counts : (c : ℕ) (to : Option ℕ) → h (Count c to) ≡ 0
  pub once : sum_by (λ d. h d.mark * 1) columns ≤ 1
  pub tops : (i : ℕ) (c : Column) → slice_get columns i ≡ Some c → 1 ≤ h c.mark → v ≤ c.top

one-by : (f g : ℕ) → f ≤ 1 → g ≡ 0 → is_zero (pos f -ℤ pos g) ≡ false → (f ≡ 1)
one-by zero g h e some = let same : is_zero (pos 0 -ℤ pos g) ≡ true = ap (λ k. is_zero (pos 0 -ℤ pos k)) e in let clash : true ≡ false = sym same ∙ some in cc
one-by (suc f) g h e some = omega arith

plus-one-by : (f g : ℕ) → f ≤ 1 → g ≡ 0 → is_zero (pos f +ℤ pos g) ≡ false → (f ≡ 1)
plus-one-by zero g h e some = let same : is_zero (pos 0 +ℤ pos g) ≡ true = ap (λ k. is_zero (pos 0 +ℤ pos k)) e in let clash : true ≡ false = sym same ∙ some in cc
plus-one-by (suc f) g h e some = omega arith

count-or : (h u : Mark → ℕ) → IsCountFactor u → ((c : ℕ) (to : Option ℕ) → h (Count c to) ≡ 0) → (m : Mark) → (h m ≡ 0) ⊎ (u m ≡ 0)
count-or h u only none (Count c to) = inl (none c to)
count-or h u only none (Share r) = inr (only.share r)
count-or h u only none (BoardExcess r b) = inr (only.board r b)
count-or h u only none (Shortage r e) = inr (only.shortage r e)
count-or h u only none (RackExcess r k) = inr (only.rack r k)

minus-size : (f g : ℕ) → f ≤ 1 → g ≤ 1000 → unsigned_abs (pos f -ℤ pos g) ≤ 1000
minus-size f g h k = omega (arith, ints)

plus-size : (f g : ℕ) → (f ≡ 0) ⊎ (g ≡ 0) → f ≤ 1 → g ≤ 1000 → unsigned_abs (pos f +ℤ pos g) ≤ 1000
plus-size f g either h k = omega (arith, ints)

-- a helper less units, at least minus a limit
pub minus-line : (columns : List Column) (kind : RowKind) (h u : Mark → ℕ) (v limit : ℕ) → IsHelperRow columns h u v → sum_by (λ c. u c.mark * c.top) columns ≤ v → limit ≤ 20000000
    → LineInRange columns (line columns kind (λ m. pos (h m) -ℤ pos (u m)) (neg_ℤ (pos limit)))
minus-line columns kind h u v limit row units few =
    let factor : Mark → ℤ = λ m. pos (h m) -ℤ pos (u m) in
    let least : ℤ = neg_ℤ (pos limit) in
    let one : (m : Mark) → is_helper m ≡ true → is_zero (factor m) ≡ false → h m ≡ 1 = λ m p some. one-by (h m) (u m) (row.most m) (count-only u row.units m p) some in
    record {
      least = omega (arith, ints);
      terms = terms-in_range columns kind factor least (record {
        bound = λ m. minus-size (h m) (u m) (row.most m) (row.small m);
        helper = λ m p some. ap (λ k. pos k -ℤ pos (u m)) (one m p some) ∙ ap (λ k. pos 1 -ℤ pos k) (count-only u row.units m p);
      });
      rising = line-rising columns kind factor least;
      one_helper = line-one_helper columns kind factor least h (λ m p some. let e = one m p some in omega (arith, e)) row.once;
      helper_serves = terms-all (λ t. IsTrue (helper_at columns t.column) → (x : ℕ → ℕ) → HelpersAtTop columns x → least ≤ℤ terms_at (line columns kind factor least).terms x) columns kind factor least
          (λ i c read some helper x at.
          let mark_helps : is_helper c.mark ≡ true = sym (helper_at-is columns i c read) ∙ helper in
          let has : 1 ≤ h c.mark = (let e = one c.mark mark_helps some in omega (arith, e)) in
          let full : x i ≡ top_of columns i = at.helpers i helper in
          let top = top-at columns i c read in
          let big = row.tops i c read has in
          let mine : x (0 + i) ≤ sum_at h x 0 columns = sum_at-least h x 0 columns i c read has in
          let same_i : x (0 + i) ≡ x i = ap x (zero-add i) in
          let less = sum_at-most u x 0 columns (λ j d r. let within = at.within j in let t = top-at columns j d r in let same_j : x (0 + j) ≡ x j = ap x (zero-add j) in omega (arith, within, t, same_j)) in
          let sum : terms_at (line columns kind factor least).terms x ≡ pos (sum_at h x 0 columns) -ℤ pos (sum_at u x 0 columns) = line-at columns kind factor least x ∙ whole_at-minus h u x 0 columns in
          let above : sum_at u x 0 columns ≤ sum_at h x 0 columns = omega (arith, full, top, big, mine, same_i, less, units) in
          omega (arith, ints, sum, above));
    }

-- a helper and units, at least a number
pub plus-line : (columns : List Column) (kind : RowKind) (h u : Mark → ℕ) (v : ℕ) → IsHelperRow columns h u v → v ≤ 20000000
    → LineInRange columns (line columns kind (λ m. pos (h m) +ℤ pos (u m)) (pos v))
plus-line columns kind h u v row few =
    let factor : Mark → ℤ = λ m. pos (h m) +ℤ pos (u m) in
    let least : ℤ = pos v in
    let one : (m : Mark) → is_helper m ≡ true → is_zero (factor m) ≡ false → h m ≡ 1 = λ m p some. plus-one-by (h m) (u m) (row.most m) (count-only u row.units m p) some in
    record {
      least = few;
      terms = terms-in_range columns kind factor least (record {
        bound = λ m. plus-size (h m) (u m) (count-or h u row.units row.counts m) (row.most m) (row.small m);
        helper = λ m p some. ap (λ k. pos k +ℤ pos (u m)) (one m p some) ∙ ap (λ k. pos 1 +ℤ pos k) (count-only u row.units m p);
      });
      rising = line-rising columns kind factor least;
      one_helper = line-one_helper columns kind factor least h (λ m p some. let e = one m p some in omega (arith, e)) row.once;
      helper_serves = terms-all (λ t. IsTrue (helper_at columns t.column) → (x : ℕ → ℕ) → HelpersAtTop columns x → least ≤ℤ terms_at (line columns kind factor least).terms x) columns kind factor least
          (λ i c read some helper x at.
          let mark_helps : is_helper c.mark ≡ true = sym (helper_at-is columns i c read) ∙ helper in
          let has : 1 ≤ h c.mark = (let e = one c.mark mark_helps some in omega (arith, e)) in
          let full : x i ≡ top_of columns i = at.helpers i helper in
          let top = top-at columns i c read in
          let big = row.tops i c read has in
          let mine : x (0 + i) ≤ sum_at h x 0 columns = sum_at-least h x 0 columns i c read has in
          let same_i : x (0 + i) ≡ x i = ap x (zero-add i) in
          let sum : terms_at (line columns kind factor least).terms x ≡ pos (sum_at h x 0 columns) +ℤ pos (sum_at u x 0 columns) = line-at columns kind factor least x ∙ whole_at-plus h u x 0 columns in
          let above : v ≤ sum_at h x 0 columns = omega (arith, full, top, big, mine, same_i) in
          omega (arith, ints, sum, above));
    }
