-- A point of the program of a phase gives each column the number of its mark.
use Rattle.std.proofs.Common.{◌≡◌, ℕ, zero, suc, ◌+◌, ◌*◌, ◌≤◌, Bool, true, false, cond, List, [], ◌∷◌, length, arith, ap, sym, ◌∙◌, refl, Some, All}
use Rattle.std.specs.Prelude.{sum_by, map, slice_get, slice_index, ◌==◌, ◌&&◌}
use Rattle.std.proofs.lemmas.List.Sums.{sum_by-cons}
use Rattle.std.proofs.lemmas.Bool.{eq-eqb}
use Rattle.plan_model.specs.declared.cases.Case.{Case}
use Rattle.plan_model.specs.declared.cases.Assignment.{Assignment}
use Rattle.plan_model.specs.declared.cases.Grouping.{Grouping}
use Rattle.ip_model.specs.declared.parts.Mark.{Mark}
use Rattle.ip_model.specs.declared.parts.Mark.TheVariants.{Count, Share, BoardExcess, Shortage, RackExcess}
use Rattle.ip_model.specs.declared.parts.Column.{Column}
use Rattle.ip_model.specs.Limits.{is_helper}
use Rattle.program_rows.specs.Members.{members_with}
use Rattle.program_rows.specs.Settings.{Setting, phase_classes}
use Rattle.program_rows.specs.Programs.{at_share, at_board_excess, at_shortage, at_rack_excess}
use Rattle.program_rows.specs.Phases.{IsPhase}
use Rattle.program_rows.proofs.PhaseRows.{columns_of, point_in}
use Rattle.class_expand.specs.Lifting.{Expands, mark_at}
use Rattle.program_rows.proofs.PhaseSums.{start-of}
use Rattle.program_rows.proofs.Lists.{all-at}
use Rattle.program_rows.proofs.Parts.{columns-all}
use Rattle.program_rows.proofs.Once.{rack-once, share-once, board-once, short-once}

-- 1 at one helper
abbrev pub at_mark : Mark → Mark → ℕ
at_mark (Count class to) m = 0
at_mark (Share r) m = at_share r m
at_mark (BoardExcess r board) m = at_board_excess r board m
at_mark (Shortage r entry) m = at_shortage r entry m
at_mark (RackExcess r rack) m = at_rack_excess r rack m

one-if : (b : Bool) → b ≡ true → ◌≡◌ {A = ℕ} (cond b 1 0) 1
one-if true e = refl
one-if false e = cc

both-same : (q n : ℕ) → (q == q && n == n) ≡ true
both-same q n = ap (λ b. b && (n == n)) (eq-eqb q q refl) ∙ eq-eqb n n refl

at_mark-itself : (m : Mark) → is_helper m ≡ true → at_mark m m ≡ 1
at_mark-itself (Count class to) h = cc
at_mark-itself (Share r) h = one-if (r == r) (eq-eqb r r refl)
at_mark-itself (BoardExcess r board) h = one-if (r == r && board == board) (both-same r board)
at_mark-itself (Shortage r entry) h = one-if (r == r && entry == entry) (both-same r entry)
at_mark-itself (RackExcess r rack) h = one-if (r == r && rack == rack) (both-same r rack)

-- the sum of a factor times the numbers of a point
abbrev pub found : (Mark → ℕ) → List Column → List ℕ → ℕ
found factor [] xs = 0
found factor (c ∷ cs) [] = 0
found factor (c ∷ cs) (x ∷ xs) = factor c.mark * x + found factor cs xs

abbrev total : (Mark → ℕ) → List Column → ℕ
total factor cs = sum_by (λ c. factor c.mark * 1) cs

found-none : (factor : Mark → ℕ) (cs : List Column) (xs : List ℕ) → total factor cs ≡ 0 → found factor cs xs ≡ 0
found-none factor [] xs none = refl
found-none factor (c ∷ cs) [] none = refl
found-none factor (c ∷ cs) (x ∷ xs) none =
    let split = sum_by-cons (λ d. factor d.mark * 1) c cs in
    let here : factor c.mark ≡ 0 = omega (arith, split, none) in
    let rest : total factor cs ≡ 0 = omega (arith, split, none) in
    let later = found-none factor cs xs rest in
    let at : factor c.mark * x ≡ 0 * x = ap (λ k. k * x) here in
    omega (arith, at, later)

pub at-least : (factor : Mark → ℕ) (cs : List Column) (j : ℕ) (c : Column) → slice_get cs j ≡ Some c → factor c.mark ≤ total factor cs
at-least factor [] j c h = cc
at-least factor (d ∷ ds) zero c h =
    let same : d ≡ c = cc in
    let at : factor d.mark ≡ factor c.mark = ap (λ e. factor e.mark) same in
    omega (arith, sum_by-cons (λ e. factor e.mark * 1) d ds, at)
at-least factor (d ∷ ds) (suc j) c h = omega (arith, sum_by-cons (λ e. factor e.mark * 1) d ds, at-least factor ds j c h)

-- the number of the one column that the factor picks
pub found-one : (factor : Mark → ℕ) (cs : List Column) (xs : List ℕ) (j : ℕ) (c : Column) → length xs ≡ length cs → slice_get cs j ≡ Some c → factor c.mark ≡ 1 → total factor cs ≡ 1
    → found factor cs xs ≡ slice_index xs j
found-one factor [] xs j c same h one once = cc
found-one factor (d ∷ ds) [] j c same h one once = cc
found-one factor (d ∷ ds) (x ∷ xs) zero c same h one once =
    let at : d ≡ c = cc in
    let here : factor d.mark ≡ 1 = ap (λ e. factor e.mark) at ∙ one in
    let rest : total factor ds ≡ 0 = omega (arith, sum_by-cons (λ e. factor e.mark * 1) d ds, here, once) in
    let later = found-none factor ds xs rest in
    let mine : factor d.mark * x ≡ 1 * x = ap (λ k. k * x) here in
    let sum : factor d.mark * x + found factor ds xs ≡ x = omega (arith, mine, later) in
    sum
found-one factor (d ∷ ds) (x ∷ xs) (suc j) c same h one once =
    let fewer : length xs ≡ length ds = cc in
    let some = at-least factor ds j c h in
    let split = sum_by-cons (λ e. factor e.mark * 1) d ds in
    let here : factor d.mark ≡ 0 = omega (arith, split, some, one, once) in
    let rest : total factor ds ≡ 1 = omega (arith, split, some, one, once) in
    let later = found-one factor ds xs j c fewer h one rest in
    let mine : factor d.mark * x ≡ 0 * x = ap (λ k. k * x) here in
    let sum : factor d.mark * x + found factor ds xs ≡ slice_index xs j = omega (arith, mine, later) in
    sum

mark_at-of : (cs : List Column) (j : ℕ) (c : Column) → slice_get cs j ≡ Some c → mark_at cs j ≡ Some c.mark
mark_at-of [] j c h = cc
mark_at-of (d ∷ ds) zero c h = let same : d ≡ c = cc in ap (λ e. Some e.mark) same
mark_at-of (d ∷ ds) (suc j) c h = mark_at-of ds j c h

-- a list of numbers that are each the one of a column's mark
by-mark : (number : Mark → ℕ) (cs : List Column) (xs : List ℕ) → length xs ≡ length cs → ((j : ℕ) (c : Column) → slice_get cs j ≡ Some c → slice_index xs j ≡ number c.mark)
    → xs ≡ map (λ c. number c.mark) cs
by-mark number [] [] same h = refl
by-mark number [] (x ∷ xs) same h = cc
by-mark number (c ∷ cs) [] same h = cc
by-mark number (c ∷ cs) (x ∷ xs) same h =
    let fewer : length xs ≡ length cs = cc in
    let first : x ≡ number c.mark = h 0 c refl in
    let rest : xs ≡ map (λ d. number d.mark) cs = by-mark number cs xs fewer (λ j d r. h (suc j) d r) in
    ap (λ y. y ∷ xs) first ∙ ap (λ ys. number c.mark ∷ ys) rest

module _ (case : Case) (setting : Setting) (phase : IsPhase case setting) (how : Grouping) (point : List ℕ) (a : Assignment) where
  -- the members of a class that get it, and what the point gives a helper
  abbrev pub number_in : Mark → ℕ
  number_in (Count class to) = members_with a to (slice_get (phase_classes case setting how) class)
  number_in (Share r) = found (at_mark (Share r)) (columns_of case setting how) point
  number_in (BoardExcess r board) = found (at_mark (BoardExcess r board)) (columns_of case setting how) point
  number_in (Shortage r entry) = found (at_mark (Shortage r entry)) (columns_of case setting how) point
  number_in (RackExcess r rack) = found (at_mark (RackExcess r rack)) (columns_of case setting how) point

  number_in-helper : (m : Mark) → is_helper m ≡ true → number_in m ≡ found (at_mark m) (columns_of case setting how) point
  number_in-helper (Count class to) h = cc
  number_in-helper (Share r) h = refl
  number_in-helper (BoardExcess r board) h = refl
  number_in-helper (Shortage r entry) h = refl
  number_in-helper (RackExcess r rack) h = refl

  count-at : Expands case setting how point a → (j : ℕ) (m : Mark) → mark_at (columns_of case setting how) j ≡ Some m → is_helper m ≡ false → slice_index point j ≡ number_in m
  count-at expands j (Count class to) read h = expands.counts j class to read
  count-at expands j (Share r) read h = cc
  count-at expands j (BoardExcess r board) read h = cc
  count-at expands j (Shortage r entry) read h = cc
  count-at expands j (RackExcess r rack) read h = cc

  abbrev StandsOnce : Column → Type 0
  StandsOnce c = is_helper c.mark ≡ true → total (at_mark c.mark) (columns_of case setting how) ≡ 1

  helpers-once : All StandsOnce (columns_of case setting how)
  helpers-once = columns-all case setting StandsOnce how (record {
    counts = λ c class to read h. cc;
    helpers = λ r within. record {
      share = λ has h. share-once case setting (start-of case setting phase) how (λ _. 1) r within has;
      board = λ board there weight touched h. board-once case setting (start-of case setting phase) how (λ _. 1) r board within there weight touched;
      rack = λ rack there weight touched h. rack-once case setting (start-of case setting phase) how (λ _. 1) r rack within there weight touched;
      short = λ entry goal short h. short-once case setting (start-of case setting phase) how (λ _. 1) r entry goal within short;
    };
  })

  number-at : (size : length point ≡ length (columns_of case setting how)) → Expands case setting how point a
      → (j : ℕ) (c : Column) → slice_get (columns_of case setting how) j ≡ Some c → (b : Bool) → is_helper c.mark ≡ b → slice_index point j ≡ number_in c.mark
  number-at size expands j c read true h =
      let cs = columns_of case setting how in
      sym (number_in-helper c.mark h
      ∙ found-one (at_mark c.mark) cs point j c size read (at_mark-itself c.mark h) (all-at StandsOnce cs helpers-once j c read h))
  number-at size expands j c read false h = count-at expands j c.mark (mark_at-of (columns_of case setting how) j c read) h

  pub point-is : length point ≡ length (columns_of case setting how) → Expands case setting how point a → point ≡ point_in case setting how number_in
  point-is size expands = by-mark number_in (columns_of case setting how) point size (λ j c read. number-at size expands j c read (is_helper c.mark) refl)
