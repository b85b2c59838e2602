-- What the multipliers take together, row by row, and how large it is.
use Rattle.std.proofs.Common.{◌≡◌, ℕ, zero, suc, ◌+◌, ◌<◌, ◌≤◌, refl, sym, ap, ◌∙◌, arith, List, [], ◌∷◌, length, get_or, drop, pos, ◌+ℤ◌, ◌*ℤ◌, unsigned_abs, add-one, inl, inr, All, AllPairs, subst}
use Rattle.std.proofs.lemmas.Int.{ints}
use Rattle.std.proofs.lemmas.Bool.{ne_eqb}
use Rattle.std.proofs.lemmas.Bool.Decides.{eqb_tells}
use Rattle.std.proofs.lemmas.List.{get_or-map}
use Rattle.std.proofs.Math.Seq.{drop-cons}
use Rattle.ip_model.specs.declared.parts.Term.{Term}
use Rattle.ip_model.specs.declared.parts.Line.{Line}
use Rattle.ip_model.specs.declared.program.Program.{Program}
use Rattle.ip_model.specs.Limits.{LineInRange}
use Rattle.ip_model.specs.Sums.{factor_of}
use Rattle.bound_certificate.specs.declared.multipliers.Top.{Top}
use Rattle.bound_certificate.specs.Bound.{terms_of, least_of, combined_factor, combined_least}
use Rattle.bound_certificate.proofs.Wide.{unsigned_abs-add}
use Rattle.ip_model.proofs.RuleFacts.{program_limits}

terms_at_row : (rows : List Line) (i : ℕ) (line : Line) → i < length rows → line ≡ get_or rows i line → terms_of rows i ≡ line.terms
terms_at_row rows i line p is = get_or-map (λ (l : Line). l.terms) rows i line [] p ∙ ap (λ (l : Line). l.terms) (sym is)

pub least_at_row : (rows : List Line) (i : ℕ) (line : Line) → i < length rows → line ≡ get_or rows i line → least_of rows i ≡ line.least
least_at_row rows i line p is = get_or-map (λ (l : Line). l.least) rows i line (pos 0) p ∙ ap (λ (l : Line). l.least) (sym is)

-- a column below those of all terms has factor 0
no_factor : (ts : List Term) (j : ℕ) → All (λ t. j < t.column) ts → factor_of ts j ≡ pos 0
no_factor [] j h = refl
no_factor (t ∷ ts) j h =
    let other = ne_eqb t.column j (λ e. let first = h 0 t (omega arith) in omega arith) in
    rw other (omega (arith, ints, no_factor ts j (λ k d p. h (suc k) d (omega arith))))

-- a column stands in at most one term of a row
pub factor_small : (ts : List Term) (j m : ℕ) → AllPairs (λ s t. s.column < t.column) ts → All (λ t. unsigned_abs t.factor ≤ m) ts → unsigned_abs (factor_of ts j) ≤ m
factor_small [] j m rising small = omega arith
factor_small (t ∷ ts) j m rising small =
    let rest = factor_small ts j m (λ i k d p q. rising (suc i) (suc k) d (omega arith) (omega arith)) (λ k d p. small (suc k) d (omega arith)) in
    elim (eqb_tells t.column j) [
      | inl w ↦
          let none = no_factor ts j (λ k d p. let later = rising 0 (suc k) d (omega arith) (omega arith) in omega (arith, later, w.1)) in
          let first = small 0 t (omega arith) in
          rw (w.0, none) (omega (arith, first, unsigned_abs-add t.factor (pos 0)))
      | inr w ↦ rw w.0 (omega (arith, rest, unsigned_abs-add (pos 0) (factor_of ts j)))
    ]

pub combined_factor-drop : (rows : List Line) (tops : List Top) (i : ℕ) (d : Top) (j : ℕ) → i < length tops → combined_factor rows (drop i tops) j ≡ pos (get_or tops i d).num *ℤ factor_of (terms_of rows (get_or tops i d).row) j +ℤ combined_factor rows (drop (i + 1) tops) j
combined_factor-drop rows tops i d j p = rw (add-one, drop-cons tops i d p) refl

pub combined_least-drop : (rows : List Line) (tops : List Top) (i : ℕ) (d : Top) → i < length tops → combined_least rows (drop i tops) ≡ pos (get_or tops i d).num *ℤ least_of rows (get_or tops i d).row +ℤ combined_least rows (drop (i + 1) tops)
combined_least-drop rows tops i d p = rw (add-one, drop-cons tops i d p) refl

-- numbers that rise are each at least their place
rising_at : {X : Type 0} (f : X → ℕ) (xs : List X) (i : ℕ) (d : X) → AllPairs (λ s t. f s < f t) xs → i < length xs → i ≤ f (get_or xs i d)
rising_at f xs zero d rising p = omega arith
rising_at f xs (suc i) d rising p =
    let before = rising_at f xs i d rising (omega arith) in
    let step = rising i (suc i) d (omega arith) p in
    omega (arith, before, step)

-- so there are at most n below n
pub rising_few : {X : Type 0} (f : X → ℕ) (xs : List X) (n : ℕ) → AllPairs (λ s t. f s < f t) xs → All (λ t. f t < n) xs → length xs ≤ n
rising_few f [] n rising below = omega arith
rising_few f (x ∷ xs) n rising below =
    let last = rising_at f (x ∷ xs) (length xs) x rising (omega arith) in
    let end = below (length xs) x (omega arith) in
    omega (arith, last, end)

-- a row of the program, as the code reads it
pub record LineAt (program : Program) (row : ℕ) (line : Line) : Type 0 where
  pub terms_is : terms_of program.rows row ≡ line.terms
  pub least_is : least_of program.rows row ≡ line.least
  pub in_range : LineInRange program.columns line
  pub few : length line.terms ≤ 2048
  pub factors : (j : ℕ) → unsigned_abs (factor_of line.terms j) ≤ 1000

pub line_at : (program : Program) (rows : List Line) (row : ℕ) (line : Line) → rows ≡ program.rows → row < length program.rows → line ≡ get_or rows row line → LineAt program row line
line_at program rows row line same p is =
    let here : line ≡ get_or program.rows row line = rw same at is in
    let in_range = subst (LineInRange program.columns) (sym here) ((program_limits program).rows_in row line p) in
    let count = rising_few (λ (t : Term). t.column) line.terms (length program.columns) in_range.rising (λ k d q. (in_range.terms k d q).column) in
    record {
      terms_is = terms_at_row program.rows row line p here;
      least_is = least_at_row program.rows row line p here;
      in_range = in_range;
      few = omega (arith, count, (program_limits program).few_columns);
      factors = λ j. factor_small line.terms j 1000 in_range.rising (λ k d q. (in_range.terms k d q).factor);
    }
