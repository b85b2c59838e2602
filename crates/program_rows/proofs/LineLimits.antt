-- A row of the program keeps the limits of rows, where its factors do.
use Rattle.std.proofs.Common.{◌≡◌, ℕ, zero, suc, ◌+◌, ◌*◌, ◌<◌, ◌≤◌, Bool, true, false, cond, List, [], ◌∷◌, length, get_or, arith, ap, sym, ◌∙◌, refl, Some, All, AllPairs, subst}
use Rattle.std.specs.Prelude.{sum_by, map, filter, not, slice_get, IsTrue, ℤ, pos, negsuc, unsigned_abs, ◌+ℤ◌, ◌-ℤ◌, ◌*ℤ◌}
use Rattle.std.specs.List.{enumerate_from}
use Rattle.std.proofs.lemmas.Int.{ints}
use borrow.Author.Differences.{up, down}
use Rattle.std.proofs.Math.IntN.{+ℤ_idl, zero-*ℤ}
use Rattle.std.proofs.Math.Nat.{mul-le-mul_left, mul-le-mul_right}
use Rattle.std.proofs.lemmas.List.Sums.{sum_by-cons}
use Rattle.std.proofs.lemmas.List.Elements.{All-nil, All-cons}
use Rattle.std.proofs.lemmas.Bool.{eqb-true}
use Rattle.ip_model.specs.declared.parts.Mark.{Mark}
use Rattle.ip_model.specs.declared.parts.Column.{Column}
use Rattle.ip_model.specs.declared.parts.Term.{Term}
use Rattle.ip_model.specs.declared.parts.RowKind.{RowKind}
use Rattle.ip_model.specs.Limits.{is_helper, helper_at, TermInRange}
use Rattle.ip_model.specs.Sums.{terms_at}
use Rattle.program_rows.specs.Programs.{line, is_zero}
use Rattle.program_rows.proofs.Lists.{All-map_to, All-filter_to, All-enumerate_to}

pub read-within : {X : Type 0} (xs : List X) (i : ℕ) (x : X) → slice_get xs i ≡ Some x → i < length xs
read-within [] i x h = cc
read-within (y ∷ ys) zero x h = omega arith
read-within (y ∷ ys) (suc i) x h = let rest = read-within ys i x h in omega (arith, rest)

pub helper_at-is : (columns : List Column) (i : ℕ) (c : Column) → slice_get columns i ≡ Some c → helper_at columns i ≡ is_helper c.mark
helper_at-is [] i c h = cc
helper_at-is (d ∷ ds) zero c h = let same : d ≡ c = cc in ap (λ e. is_helper e.mark) same
helper_at-is (d ∷ ds) (suc i) c h = helper_at-is ds i c h

not-true : (b : Bool) → not b ≡ true → b ≡ false
not-true true h = cc
not-true false h = refl

nonzero-size : (z : ℤ) → is_zero z ≡ false → 1 ≤ unsigned_abs z
nonzero-size (pos zero) h = cc
nonzero-size (pos (suc n)) h = omega arith
nonzero-size (negsuc n) h = omega arith

-- what holds of each term that a column with a factor other than 0 has
pub terms-all : (P : Term → Type 0) (columns : List Column) (kind : RowKind) (factor : Mark → ℤ) (least : ℤ)
    → ((i : ℕ) (c : Column) → slice_get columns i ≡ Some c → is_zero (factor c.mark) ≡ false → P (record { column = i; factor = factor c.mark }))
    → All P (line columns kind factor least).terms
terms-all P columns kind factor least h =
    All-filter_to P (λ t. not (is_zero t.factor)) (map (λ c. record { column = c.0; factor = factor c.1.mark }) (enumerate_from 0 columns))
    (All-map_to (λ t. not (is_zero t.factor) ≡ true → P t) (λ c. record { column = c.0; factor = factor c.1.mark }) (enumerate_from 0 columns)
    (All-enumerate_to (λ e. not (is_zero (factor e.1.mark)) ≡ true → P (record { column = e.0; factor = factor e.1.mark })) columns
    (λ i c read some. h i c read (not-true (is_zero (factor c.mark)) some))))

-- factors of at most 1,000, and 1 at helpers
pub record FactorFits (factor : Mark → ℤ) : Type 0 where
  pub bound : (m : Mark) → unsigned_abs (factor m) ≤ 1000
  pub helper : (m : Mark) → is_helper m ≡ true → is_zero (factor m) ≡ false → factor m ≡ pos 1

pub terms-in_range : (columns : List Column) (kind : RowKind) (factor : Mark → ℤ) (least : ℤ) → FactorFits factor → All (TermInRange columns) (line columns kind factor least).terms
terms-in_range columns kind factor least fit =
    terms-all (TermInRange columns) columns kind factor least (λ i c read some. record {
      column = read-within columns i c read;
      above_none = nonzero-size (factor c.mark) some;
      factor = fit.bound c.mark;
      helper_factor = λ helper. fit.helper c.mark (sym (helper_at-is columns i c read) ∙ helper) some;
    })

pairs-cons : {X : Type 0} (R : X → X → Type 0) (x : X) (xs : List X) → All (R x) xs → AllPairs R xs → AllPairs R (x ∷ xs)
pairs-cons R x xs a p i zero d less within = absurd (omega arith)
pairs-cons R x xs a p zero (suc j) d less within = a j d (omega arith)
pairs-cons R x xs a p (suc i) (suc j) d less within = p i j d (omega arith) (omega arith)

abbrev Below : Term → Term → Type 0
Below s t = s.column < t.column

above-from : (factor : Mark → ℤ) (n : ℕ) (cs : List Column)
    → All (λ (t : Term). n ≤ t.column) (filter (λ t. not (is_zero t.factor)) (map (λ c. record { column = c.0; factor = factor c.1.mark }) (enumerate_from n cs)))
above-from factor n [] = All-nil (λ (t : Term). n ≤ t.column)
above-from factor n (c ∷ cs) =
    let rest = filter (λ t. not (is_zero t.factor)) (map (λ d. record { column = d.0; factor = factor d.1.mark }) (enumerate_from (n + 1) cs)) in
    let t : Term = record { column = n; factor = factor c.mark } in
    let later : All (λ (s : Term). n ≤ s.column) rest = λ k d inside. let more = above-from factor (n + 1) cs k d inside in omega (arith, more) in
    let step : (b : Bool) → All (λ (s : Term). n ≤ s.column) (cond b (t ∷ rest) rest) =
    λ b. elim b as (λ v. All (λ (s : Term). n ≤ s.column) (cond v (t ∷ rest) rest)) [ true ↦ All-cons (λ (s : Term). n ≤ s.column) t rest (omega arith) later | false ↦ later ] in
    step (not (is_zero (factor c.mark)))

rising-from : (factor : Mark → ℤ) (n : ℕ) (cs : List Column)
    → AllPairs Below (filter (λ t. not (is_zero t.factor)) (map (λ c. record { column = c.0; factor = factor c.1.mark }) (enumerate_from n cs)))
rising-from factor n [] = λ i j d less within. absurd (omega arith)
rising-from factor n (c ∷ cs) =
    let rest = filter (λ t. not (is_zero t.factor)) (map (λ d. record { column = d.0; factor = factor d.1.mark }) (enumerate_from (n + 1) cs)) in
    let t : Term = record { column = n; factor = factor c.mark } in
    let later : AllPairs Below rest = rising-from factor (n + 1) cs in
    let above : All (Below t) rest = λ k d inside. let more = above-from factor (n + 1) cs k d inside in omega (arith, more) in
    let step : (b : Bool) → AllPairs Below (cond b (t ∷ rest) rest) =
    λ b. elim b as (λ v. AllPairs Below (cond v (t ∷ rest) rest)) [ true ↦ pairs-cons Below t rest above later | false ↦ later ] in
    step (not (is_zero (factor c.mark)))

pub line-rising : (columns : List Column) (kind : RowKind) (factor : Mark → ℤ) (least : ℤ) → AllPairs Below (line columns kind factor least).terms
line-rising columns kind factor least = rising-from factor 0 columns

-- a factor of which at most one column has 1
at-least : (h : Mark → ℕ) (cs : List Column) (j : ℕ) (c : Column) → slice_get cs j ≡ Some c → h c.mark ≤ sum_by (λ d. h d.mark * 1) cs
at-least h [] j c e = cc
at-least h (d ∷ ds) zero c e =
    let same : d ≡ c = cc in
    let at : h d.mark ≡ h c.mark = ap (λ x. h x.mark) same in
    omega (arith, sum_by-cons (λ x. h x.mark * 1) d ds, at)
at-least h (d ∷ ds) (suc j) c e = omega (arith, sum_by-cons (λ x. h x.mark * 1) d ds, at-least h ds j c e)

same-index : (h : Mark → ℕ) (cs : List Column) → sum_by (λ d. h d.mark * 1) cs ≤ 1 → (i j : ℕ) (c d : Column) → slice_get cs i ≡ Some c → slice_get cs j ≡ Some d
    → 1 ≤ h c.mark → 1 ≤ h d.mark → i ≡ j
same-index h [] once i j c d e f p q = cc
same-index h (x ∷ xs) once zero zero c d e f p q = refl
same-index h (x ∷ xs) once zero (suc j) c d e f p q =
    let same : x ≡ c = cc in
    let at : h x.mark ≡ h c.mark = ap (λ y. h y.mark) same in
    absurd (omega (arith, sum_by-cons (λ y. h y.mark * 1) x xs, at, at-least h xs j d f, once, p, q))
same-index h (x ∷ xs) once (suc i) zero c d e f p q =
    let same : x ≡ d = cc in
    let at : h x.mark ≡ h d.mark = ap (λ y. h y.mark) same in
    absurd (omega (arith, sum_by-cons (λ y. h y.mark * 1) x xs, at, at-least h xs i c e, once, p, q))
same-index h (x ∷ xs) once (suc i) (suc j) c d e f p q =
    let split = sum_by-cons (λ y. h y.mark * 1) x xs in
    let fewer : sum_by (λ y. h y.mark * 1) xs ≤ 1 = omega (arith, split, once) in
    ap suc (same-index h xs fewer i j c d e f p q)

pub record HasHelper (columns : List Column) (h : Mark → ℕ) (t : Term) : Type 0 where
  pub at : Column
  pub read : slice_get columns t.column ≡ Some at
  pub counts : 1 ≤ h at.mark

pub line-one_helper : (columns : List Column) (kind : RowKind) (factor : Mark → ℤ) (least : ℤ) (h : Mark → ℕ)
    → ((m : Mark) → is_helper m ≡ true → is_zero (factor m) ≡ false → 1 ≤ h m) → sum_by (λ d. h d.mark * 1) columns ≤ 1
    → AllPairs (λ s t. IsTrue (helper_at columns s.column) → IsTrue (helper_at columns t.column) → t.column < s.column) (line columns kind factor least).terms
line-one_helper columns kind factor least h some once i j d less within p q =
    let terms = (line columns kind factor least).terms in
    let all : All (λ t. IsTrue (helper_at columns t.column) → HasHelper columns h t) terms =
    terms-all (λ t. IsTrue (helper_at columns t.column) → HasHelper columns h t) columns kind factor least
    (λ k c read nonzero helper. record { at = c; read = read; counts = some c.mark (sym (helper_at-is columns k c read) ∙ helper) nonzero }) in
    let before : i < length terms = omega (arith, less, within) in
    let first = all i d before p in
    let second = all j d within q in
    let same = same-index h columns once (get_or terms i d).column (get_or terms j d).column first.at second.at first.read second.read first.counts second.counts in
    let rising = line-rising columns kind factor least i j d less within in
    absurd (omega (arith, same, rising))

-- ---- a row at numbers of the columns by their place

abbrev pub sum_at : (Mark → ℕ) → (ℕ → ℕ) → ℕ → List Column → ℕ
sum_at f x n [] = 0
sum_at f x n (c ∷ cs) = f c.mark * x n + sum_at f x (n + 1) cs

abbrev pub whole_at : (Mark → ℤ) → (ℕ → ℕ) → ℕ → List Column → ℤ
whole_at factor x n [] = pos 0
whole_at factor x n (c ∷ cs) = (factor c.mark *ℤ pos (x n)) +ℤ whole_at factor x (n + 1) cs

is_zero-true : (z : ℤ) → is_zero z ≡ true → z ≡ pos 0
is_zero-true (pos n) h = ap pos (eqb-true n 0 h)
is_zero-true (negsuc n) h = cc

one_at : (factor : ℤ) (n : ℕ) (x : ℕ → ℕ) (ts : List Term) (rest : ℤ) (none : Bool) → is_zero factor ≡ none → terms_at ts x ≡ rest
    → terms_at (cond (not none) ((record { column = n; factor = factor }) ∷ ts) ts) x ≡ (factor *ℤ pos (x n)) +ℤ rest
one_at factor n x ts rest true z r =
    r ∙ sym (ap (λ f. (f *ℤ pos (x n)) +ℤ rest) (is_zero-true factor z) ∙ ap (λ p. p +ℤ rest) (zero-*ℤ (pos (x n))) ∙ +ℤ_idl rest)
one_at factor n x ts rest false z r = ap (λ q. (factor *ℤ pos (x n)) +ℤ q) r

at-from : (factor : Mark → ℤ) (x : ℕ → ℕ) (n : ℕ) (cs : List Column)
    → terms_at (filter (λ t. not (is_zero t.factor)) (map (λ c. record { column = c.0; factor = factor c.1.mark }) (enumerate_from n cs))) x ≡ whole_at factor x n cs
at-from factor x n [] = refl
at-from factor x n (c ∷ cs) =
    one_at (factor c.mark) n x (filter (λ t. not (is_zero t.factor)) (map (λ d. record { column = d.0; factor = factor d.1.mark }) (enumerate_from (n + 1) cs)))
    (whole_at factor x (n + 1) cs) (is_zero (factor c.mark)) refl (at-from factor x (n + 1) cs)

pub line-at : (columns : List Column) (kind : RowKind) (factor : Mark → ℤ) (least : ℤ) (x : ℕ → ℕ) → terms_at (line columns kind factor least).terms x ≡ whole_at factor x 0 columns
line-at columns kind factor least x = at-from factor x 0 columns

minus-step : (f g n : ℕ) (s t : ℕ) → ((pos f -ℤ pos g) *ℤ pos n) +ℤ (pos s -ℤ pos t) ≡ pos (f * n + s) -ℤ pos (g * n + t)
minus-step f g n s t =
    let z : ℤ = pos f -ℤ pos g in
    let parts : up z + g ≡ f + down z = omega (arith, ints) in
    omega (arith, ints, ap (λ k. k * n) parts)

plus-step : (f g n : ℕ) (s t : ℕ) → ((pos f +ℤ pos g) *ℤ pos n) +ℤ (pos s +ℤ pos t) ≡ pos (f * n + s) +ℤ pos (g * n + t)
plus-step f g n s t = omega (arith, ints)

pub whole_at-minus : (h u : Mark → ℕ) (x : ℕ → ℕ) (n : ℕ) (cs : List Column)
    → whole_at (λ m. pos (h m) -ℤ pos (u m)) x n cs ≡ pos (sum_at h x n cs) -ℤ pos (sum_at u x n cs)
whole_at-minus h u x n [] = refl
whole_at-minus h u x n (c ∷ cs) =
    ap (λ z. ((pos (h c.mark) -ℤ pos (u c.mark)) *ℤ pos (x n)) +ℤ z) (whole_at-minus h u x (n + 1) cs)
    ∙ minus-step (h c.mark) (u c.mark) (x n) (sum_at h x (n + 1) cs) (sum_at u x (n + 1) cs)

pub whole_at-plus : (h u : Mark → ℕ) (x : ℕ → ℕ) (n : ℕ) (cs : List Column)
    → whole_at (λ m. pos (h m) +ℤ pos (u m)) x n cs ≡ pos (sum_at h x n cs) +ℤ pos (sum_at u x n cs)
whole_at-plus h u x n [] = refl
whole_at-plus h u x n (c ∷ cs) =
    ap (λ z. ((pos (h c.mark) +ℤ pos (u c.mark)) *ℤ pos (x n)) +ℤ z) (whole_at-plus h u x (n + 1) cs)
    ∙ plus-step (h c.mark) (u c.mark) (x n) (sum_at h x (n + 1) cs) (sum_at u x (n + 1) cs)

-- at the one column that h picks
pub sum_at-least : (h : Mark → ℕ) (x : ℕ → ℕ) (n : ℕ) (cs : List Column) (i : ℕ) (c : Column) → slice_get cs i ≡ Some c → 1 ≤ h c.mark → x (n + i) ≤ sum_at h x n cs
sum_at-least h x n [] i c e p = cc
sum_at-least h x n (d ∷ ds) zero c e p =
    let same : d ≡ c = cc in
    let here : n + 0 ≡ n = omega arith in
    let big : 1 * x n ≤ h d.mark * x n = mul-le-mul_right (x n) (let at : h d.mark ≡ h c.mark = ap (λ y. h y.mark) same in omega (arith, at, p)) in
    let at_n : x (n + 0) ≡ x n = ap x here in
    omega (arith, big, at_n)
sum_at-least h x n (d ∷ ds) (suc i) c e p =
    let next : n + suc i ≡ n + 1 + i = omega arith in
    let at_n : x (n + suc i) ≡ x (n + 1 + i) = ap x next in
    let rest = sum_at-least h x (n + 1) ds i c e p in
    omega (arith, rest, at_n)

-- within the tops
pub sum_at-most : (u : Mark → ℕ) (x : ℕ → ℕ) (n : ℕ) (cs : List Column) → ((i : ℕ) (c : Column) → slice_get cs i ≡ Some c → x (n + i) ≤ c.top)
    → sum_at u x n cs ≤ sum_by (λ c. u c.mark * c.top) cs
sum_at-most u x n [] within = omega arith
sum_at-most u x n (c ∷ cs) within =
    let here : n + 0 ≡ n = omega arith in
    let at_n : x (n + 0) ≡ x n = ap x here in
    let top = within 0 c refl in
    let less : x n ≤ c.top = omega (arith, top, at_n) in
    let big : u c.mark * x n ≤ u c.mark * c.top = mul-le-mul_left (u c.mark) less in
    let rest = sum_at-most u x (n + 1) cs (λ i d e. let next : n + 1 + i ≡ n + suc i = omega arith in subst (λ k. x k ≤ d.top) (sym next) (within (suc i) d e)) in
    omega (arith, sum_by-cons (λ d. u d.mark * d.top) c cs, big, rest)
