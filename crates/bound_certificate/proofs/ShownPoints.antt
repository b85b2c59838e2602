-- Tests of shown points, and what they say.
use Rattle.std.proofs.Common.{◌≡◌, ℕ, ◌+◌, ◌*◌, ◌<◌, ◌≤◌, refl, sym, ap, ◌∙◌, subst, arith, Bool, true, false, ◌&&◌, ◌==◌, nat_le, nat_lt, int_le, List, [], ◌∷◌, length, get_or, slice_index, All, ℤ, pos, ◌*ℤ◌, ◌≤ℤ◌, IsTrue, mul-le-mul}
use Rattle.std.specs.List.{list_all, range_with_len}
use Rattle.std.proofs.lemmas.Int.{ints}
use Rattle.std.proofs.lemmas.Bool.{and_parts, and_from, eqb-true, eq-eqb}
use Rattle.std.proofs.lemmas.List.Sums.{AllPass-from_list_all, list_all-from_AllPass}
use Rattle.std.proofs.lemmas.List.FromFn.{get_or-range_with_len, length-range_with_len}
use Rattle.ip_model.specs.declared.parts.Line.{Line}
use Rattle.ip_model.specs.declared.parts.Bounds.{Bounds}
use Rattle.ip_model.specs.declared.point.Point.{Point}
use Rattle.ip_model.specs.declared.program.Program.{Program}
use Rattle.ip_model.specs.Points.{numerator, IsPointOf, IsBoxOf, LiesIn, MeetsLine, full_box_of}
use Rattle.ip_model.specs.Limits.{top_of}
use Rattle.ip_model.specs.Sums.{terms_at}
use Rattle.bound_certificate.specs.Shown.{lies_in}
use Rattle.bound_certificate.proofs.WalkSteps.{low_of_full}

same_answer : (a b : Bool) → (a ≡ true → b ≡ true) → (b ≡ true → a ≡ true) → a ≡ b
same_answer true b f g = sym (f refl)
same_answer false true f g = g refl
same_answer false false f g = refl

nat_le-true : (m n : ℕ) → nat_le m n ≡ true → m ≤ n
nat_le-true m n h = grind arith

nat_le-from : (m n : ℕ) → m ≤ n → nat_le m n ≡ true
nat_le-from m n h = grind arith

int_le-true : (x y : ℤ) → int_le x y ≡ true → x ≤ℤ y
int_le-true x y h = omega (arith, ints)

int_le-from : (x y : ℤ) → x ≤ℤ y → int_le x y ≡ true
int_le-from x y h = by (int_le x y) refl
  where
    by : (t : Bool) → int_le x y ≡ t → int_le x y ≡ true
    by true e = e
    by false e = absurd (omega (arith, ints))

plus_none : (n : ℕ) → 0 + n ≡ n
plus_none n = omega arith

-- a test of each number below n
range_at : (test : ℕ → Bool) (n j : ℕ) → list_all test (range_with_len 0 n) ≡ true → j < n → test j ≡ true
range_at test n j h p =
    let here : get_or (range_with_len 0 n) j 0 ≡ j = get_or-range_with_len 0 n j 0 p ∙ plus_none j in
    sym (ap test here) ∙ AllPass-from_list_all test (range_with_len 0 n) h j 0 (omega (arith, p, length-range_with_len 0 n))

range_from : (test : ℕ → Bool) (n : ℕ) → ((j : ℕ) → j < n → test j ≡ true) → list_all test (range_with_len 0 n) ≡ true
range_from test n h = list_all-from_AllPass test (range_with_len 0 n) (λ k d q.
    let p : k < n = omega (arith, q, length-range_with_len 0 n) in
    ap test (get_or-range_with_len 0 n k d p ∙ plus_none k) ∙ h k p)

pub lies_in-says : (program : Program) (box : Bounds) (point : Point) → lies_in program box point ≡ true → IsPointOf program box point
lies_in-says program box point h =
    let front = (and_parts _ _ h).0 in
    let sizes = (and_parts _ _ (and_parts _ _ front).0) in
    let at : (j : ℕ) → j < length program.columns → (nat_le (point.den * slice_index box.low j) (numerator point j) && nat_le (numerator point j) (point.den * slice_index box.high j)) ≡ true =
    λ j p. range_at (λ j. nat_le (point.den * slice_index box.low j) (numerator point j) && nat_le (numerator point j) (point.den * slice_index box.high j)) (length program.columns) j (and_parts _ _ front).1 p in
    record {
      wholes = eqb-true (length point.whole) (length program.columns) sizes.0;
      parts = eqb-true (length point.part) (length program.columns) sizes.1;
      is_point = record {
        lies = record {
          above = λ j p. nat_le-true (point.den * slice_index box.low j) (numerator point j) (and_parts _ _ (at j p)).0;
          below = λ j p. nat_le-true (numerator point j) (point.den * slice_index box.high j) (and_parts _ _ (at j p)).1;
        };
        meets = λ k d q. int_le-true (pos point.den *ℤ (get_or program.rows k d).least) (terms_at (get_or program.rows k d).terms (numerator point))
            (AllPass-from_list_all (λ (line : Line). int_le (pos point.den *ℤ line.least) (terms_at line.terms (numerator point))) program.rows (and_parts _ _ h).1 k d q);
      };
    }

pub lies_in-from : (program : Program) (box : Bounds) (point : Point) → IsPointOf program box point → lies_in program box point ≡ true
lies_in-from program box point is =
    and_from _ _ (and_from _ _ (and_from _ _ (eq-eqb (length point.whole) (length program.columns) is.wholes) (eq-eqb (length point.part) (length program.columns) is.parts))
    (range_from (λ j. nat_le (point.den * slice_index box.low j) (numerator point j) && nat_le (numerator point j) (point.den * slice_index box.high j)) (length program.columns)
    (λ j p. and_from _ _ (nat_le-from (point.den * slice_index box.low j) (numerator point j) (is.is_point.lies.above j p)) (nat_le-from (numerator point j) (point.den * slice_index box.high j) (is.is_point.lies.below j p)))))
    (list_all-from_AllPass (λ (line : Line). int_le (pos point.den *ℤ line.least) (terms_at line.terms (numerator point))) program.rows
    (λ k d q. int_le-from (pos point.den *ℤ (get_or program.rows k d).least) (terms_at (get_or program.rows k d).terms (numerator point)) (is.is_point.meets k d q)))

-- what a test that says whether a point lies in a box answers
pub lies_in-is : (program : Program) (box : Bounds) (point : Point) (answer : Bool) → (answer ≡ true → IsPointOf program box point) → (IsPointOf program box point → answer ≡ true) → answer ≡ lies_in program box point
lies_in-is program box point answer f g =
    same_answer answer (lies_in program box point) (λ e. lies_in-from program box point (f e)) (λ e. g (lies_in-says program box point e))

none_below : (d n : ℕ) → d * 0 ≤ n
none_below d n = omega arith

-- a point of a box lies in the full box
pub in_full_box : (program : Program) (box : Bounds) (point : Point) → IsBoxOf program box → IsPointOf program box point → LiesIn program (full_box_of program) point.den (numerator point)
in_full_box program box point is lies = record {
  above = λ j p. rw (low_of_full (length program.columns) j) (none_below point.den (numerator point j));
  below = λ j p. let high = lies.is_point.lies.below j p in let same : point.den ≤ point.den = omega arith in let most = mul-le-mul same (is.within j) in omega (arith, high, most);
}

and_same : (a b : Bool) → a ≡ true → b ≡ (a && b)
and_same true b e = refl
and_same false b e = cc

pub shows-true : (lies rest : Bool) (all : Bool) → all ≡ (lies && rest) → lies ≡ true → rest ≡ all
shows-true lies rest all is e = and_same lies rest e ∙ sym is

pub shows-false : (lies rest : Bool) (all : Bool) → all ≡ (lies && rest) → lies ≡ false → false ≡ all
shows-false true rest all is e = cc
shows-false false rest all is e = sym is
