-- What handing members out leaves.
use Rattle.std.proofs.Common.{◌≡◌, ◌≢◌, ℕ, zero, suc, ◌+◌, ◌-◌, ◌<◌, ◌≤◌, Bool, true, false, cond, List, [], ◌∷◌, ◌++◌, All, length, get_or, set, take, drop, replicate, arith, ap, sym, ◌∙◌, refl, Some, None, subst}
use Rattle.std.specs.Prelude.{fold, map, sum_by, ◌==◌, slice_get, Option}
use Rattle.std.proofs.lemmas.List.{append-nil, append_assoc, length-set, length-append, length-replicate, length-take-le, length-drop, take-take, drop-take, take-append-drop, take_all, get_or-set_same, get_or-set_other, take_more, replicate_more}
use Rattle.std.proofs.lemmas.List.Elements.{All-nil, All-cons, All-head, All-tail}
use Rattle.std.proofs.lemmas.List.Sums.{sum_by-cons}
use Rattle.std.proofs.lemmas.Bool.{eq-eqb}
use Rattle.std.proofs.lemmas.Bool.Decides.{nat_tests}
use Rattle.ip_model.specs.declared.parts.Column.{Column}
use Rattle.symmetry_classes.specs.declared.groups.Class.{Class}
use Rattle.class_expand.specs.Dealing.{put_all, given_by, goes_to, dealt, deal}

pub length-put_all : (of : List (Option ℕ)) (ms : List ℕ) (tos : List (Option ℕ)) → length (put_all of ms tos) ≡ length of
length-put_all of [] tos = refl
length-put_all of (m ∷ ms) [] = refl
length-put_all of (m ∷ ms) (to ∷ tos) = length-put_all (set of m to) ms tos ∙ length-set of m to

pub put_all-append : (of : List (Option ℕ)) (xs ys : List ℕ) (ts us : List (Option ℕ)) → length xs ≡ length ts
    → put_all of (xs ++ ys) (ts ++ us) ≡ put_all (put_all of xs ts) ys us
put_all-append of [] ys [] us e = refl
put_all-append of [] ys (t ∷ ts) us e = cc
put_all-append of (x ∷ xs) ys [] us e = cc
put_all-append of (x ∷ xs) ys (t ∷ ts) us e = let rest : length xs ≡ length ts = cc in put_all-append (set of x t) xs ys ts us rest

-- one more column
pub dealt-more : (class : ℕ) (cs : List Column) (ns : List ℕ) (j : ℕ) (d : Column) → j < length cs → j < length ns
    → dealt class (take (j + 1) cs) (take (j + 1) ns)
    ≡ dealt class (take j cs) (take j ns) ++ replicate (given_by class (get_or cs j d).mark (get_or ns j 0)) (goes_to (get_or cs j d).mark)
dealt-more class [] ns j d p q = absurd (omega arith)
dealt-more class (c ∷ cs) [] j d p q = absurd (omega arith)
dealt-more class (c ∷ cs) (n ∷ ns) zero d p q = append-nil (replicate (given_by class c.mark n) (goes_to c.mark))
dealt-more class (c ∷ cs) (n ∷ ns) (suc j) d p q =
    let next : suc j + 1 ≡ suc (j + 1) = omega arith in
    let here = replicate (given_by class c.mark n) (goes_to c.mark) in
    ap (λ k. dealt class (take k (c ∷ cs)) (take k (n ∷ ns))) next
    ∙ ap (λ ts. here ++ ts) (dealt-more class cs ns j d (omega arith) (omega arith))
    ∙ sym (append_assoc here (dealt class (take j cs) (take j ns)) (replicate (given_by class (get_or cs j d).mark (get_or ns j 0)) (goes_to (get_or cs j d).mark)))

pub dealt-most : (class : ℕ) (cs : List Column) (ns : List ℕ) (j : ℕ) → length (dealt class (take j cs) (take j ns)) ≤ length (dealt class cs ns)
dealt-most class [] ns zero = omega arith
dealt-most class [] ns (suc j) = omega arith
dealt-most class (c ∷ cs) [] zero = omega arith
dealt-most class (c ∷ cs) [] (suc j) = omega arith
dealt-most class (c ∷ cs) (n ∷ ns) zero = omega arith
dealt-most class (c ∷ cs) (n ∷ ns) (suc j) =
    let here = replicate (given_by class c.mark n) (goes_to c.mark) in
    let rest = dealt-most class cs ns j in
    omega (arith, rest, length-append here (dealt class (take j cs) (take j ns)), length-append here (dealt class cs ns))

-- how often a server stands in a list
abbrev pub times : ℕ → List ℕ → ℕ
times s ms = sum_by (λ m. cond (m == s) 1 0) ms

one-not : (b : Bool) (n k : ℕ) → cond b 1 0 + n ≡ 0 → b ≡ false
one-not true n k e = absurd (omega (arith, e))
one-not false n k e = refl

pub put-keeps : (of : List (Option ℕ)) (ms : List ℕ) (tos : List (Option ℕ)) (s : ℕ) → times s ms ≡ 0 → get_or (put_all of ms tos) s None ≡ get_or of s None
put-keeps of [] tos s none = refl
put-keeps of (m ∷ ms) [] s none = refl
put-keeps of (m ∷ ms) (to ∷ tos) s none =
    let split = sum_by-cons (λ k. cond (k == s) 1 0) m ms in
    let differs : (m == s) ≡ false = one-not (m == s) (times s ms) 0 (omega (arith, split, none)) in
    let other : s ≢ m = grind (arith, nat_tests, differs) in
    let rest : times s ms ≡ 0 = omega (arith, split, none) in
    put-keeps (set of m to) ms tos s rest ∙ get_or-set_other of m s to None other

itself : (m : ℕ) → ◌≡◌ {A = ℕ} (cond (m == m) 1 0) 1
itself m = ap (λ b. cond b 1 0) (eq-eqb m m refl)

pub put-found : (of : List (Option ℕ)) (ms : List ℕ) (tos : List (Option ℕ)) → ((s : ℕ) → times s ms ≤ 1) → All (λ m. m < length of) ms → length tos ≡ length ms
    → map (λ m. get_or (put_all of ms tos) m None) ms ≡ tos
put-found of [] [] once within e = refl
put-found of [] (to ∷ tos) once within e = cc
put-found of (m ∷ ms) [] once within e = cc
put-found of (m ∷ ms) (to ∷ tos) once within e =
    let split = sum_by-cons (λ k. cond (k == m) 1 0) m ms in
    let most = once m in
    let none : times m ms ≡ 0 = omega (arith, split, most, itself m) in
    let here : m < length of = All-head (λ k. k < length of) m ms within in
    let later : All (λ k. k < length (set of m to)) ms = subst (λ (n : ℕ). All (λ k. k < n) ms) (sym (length-set of m to)) (All-tail (λ k. k < length of) m ms within) in
    let fewer : length tos ≡ length ms = cc in
    let rest : (s : ℕ) → times s ms ≤ 1 = λ s. let more = sum_by-cons (λ k. cond (k == s) 1 0) m ms in let all = once s in omega (arith, more, all) in
    ap (λ t. t ∷ map (λ k. get_or (put_all (set of m to) ms tos) k None) ms) (put-keeps (set of m to) ms tos m none ∙ get_or-set_same of m to None here)
    ∙ ap (λ ts. to ∷ ts) (put-found (set of m to) ms tos rest later fewer)

-- how often a server stands in the classes
abbrev pub stands : ℕ → List (ℕ × Class) → ℕ
stands s es = sum_by (λ e. times s e.1.members) es

module _ (columns : List Column) (point : List ℕ) where
  pub length-deals : (of : List (Option ℕ)) (es : List (ℕ × Class)) → length (fold (deal columns point) of es) ≡ length of
  length-deals of [] = refl
  length-deals of (e ∷ es) = length-deals (deal columns point of e) es ∙ length-put_all of e.1.members (dealt e.0 columns point)

  pub deals-keep : (of : List (Option ℕ)) (es : List (ℕ × Class)) (s : ℕ) → stands s es ≡ 0 → get_or (fold (deal columns point) of es) s None ≡ get_or of s None
  deals-keep of [] s none = refl
  deals-keep of (e ∷ es) s none =
      let split = sum_by-cons (λ x. times s x.1.members) e es in
      let first : times s e.1.members ≡ 0 = omega (arith, split, none) in
      let rest : stands s es ≡ 0 = omega (arith, split, none) in
      deals-keep (deal columns point of e) es s rest ∙ put-keeps of e.1.members (dealt e.0 columns point) s first

  -- where the members of a class are
  abbrev pub placed : List (Option ℕ) → ℕ × Class → List (Option ℕ)
  placed of e = map (λ m. get_or of m None) e.1.members

  member-times : (ms : List ℕ) (k d : ℕ) → k < length ms → 1 ≤ times (get_or ms k d) ms
  member-times [] k d inside = absurd (omega arith)
  member-times (m ∷ ms) zero d inside = omega (arith, sum_by-cons (λ x. cond (x == m) 1 0) m ms, itself m)
  member-times (m ∷ ms) (suc k) d inside =
      let rest = member-times ms k d (omega arith) in
      omega (arith, sum_by-cons (λ x. cond (x == get_or ms k d) 1 0) m ms, rest)

  map-same : (f g : ℕ → Option ℕ) (ms : List ℕ) → All (λ m. f m ≡ g m) ms → map f ms ≡ map g ms
  map-same f g [] a = refl
  map-same f g (m ∷ ms) a =
      ap (λ t. t ∷ map f ms) (All-head (λ k. f k ≡ g k) m ms a) ∙ ap (λ ts. g m ∷ ts) (map-same f g ms (All-tail (λ k. f k ≡ g k) m ms a))

  pub record Deals (servers : ℕ) (e : ℕ × Class) : Type 0 where
    pub within : All (λ m. m < servers) e.1.members
    pub whole : length (dealt e.0 columns point) ≡ length e.1.members

  -- each member is where the point says, where no server stands twice
  pub deals-found : (of : List (Option ℕ)) (es : List (ℕ × Class)) → ((s : ℕ) → stands s es ≤ 1) → All (Deals (length of)) es
      → All (λ e. placed (fold (deal columns point) of es) e ≡ dealt e.0 columns point) es
  deals-found of [] once all = All-nil (λ e. placed of e ≡ dealt e.0 columns point)
  deals-found of (e ∷ es) once all =
      let after = deal columns point of e in
      let final = fold (deal columns point) after es in
      let here = All-head (Deals (length of)) e es all in
      let members = e.1.members in
      let apart : (s : ℕ) → times s members + stands s es ≤ 1 = λ s. let split = sum_by-cons (λ x. times s x.1.members) e es in let most = once s in omega (arith, split, most) in
      let first : placed final e ≡ dealt e.0 columns point =
      map-same (λ m. get_or final m None) (λ m. get_or after m None) members
      (λ k d inside. let m = get_or members k d in
      let some = member-times members k d inside in
      let most = apart m in
      let none : stands m es ≡ 0 = omega (arith, some, most) in
      deals-keep after es m none)
      ∙ put-found of members (dealt e.0 columns point) (λ s. let most = apart s in omega (arith, most)) here.within here.whole in
      let later : All (Deals (length after)) es = subst (λ (n : ℕ). All (Deals n) es) (sym (length-put_all of members (dealt e.0 columns point))) (All-tail (Deals (length of)) e es all) in
      All-cons (λ x. placed final x ≡ dealt x.0 columns point) e es first
      (deals-found after es (λ s. let most = apart s in omega (arith, most)) later)

-- ---- the steps of the loops

pub give-step : (init now new : List (Option ℕ)) (ms : List ℕ) (i : ℕ) (to : Option ℕ) → i < length ms → now ≡ put_all init (take i ms) (replicate i to)
    → new ≡ set now (get_or ms i 0) to → new ≡ put_all init (take (i + 1) ms) (replicate (i + 1) to)
give-step init now new ms i to within e n =
    let some : i ≤ length ms = omega arith in
    let same : length (take i ms) ≡ length (replicate i to) = omega (arith, length-take-le i ms some, length-replicate i to) in
    n ∙ ap (λ of. set of (get_or ms i 0) to) e
    ∙ sym (put_all-append init (take i ms) (get_or ms i 0 ∷ []) (replicate i to) (to ∷ []) same)
    ∙ ap (λ xs. put_all init xs (replicate i to ++ to ∷ [])) (sym (take_more ms i 0 within))
    ∙ ap (λ ts. put_all init (take (i + 1) ms) ts) (replicate_more i to)

take-both : {X : Type 0} (n m : ℕ) (xs : List X) → take n xs ++ take m (drop n xs) ≡ take (n + m) xs
take-both n m xs =
    let less : n ≤ n + m = omega arith in
    ap (λ ys. ys ++ take m (drop n xs)) (sym (take-take n (n + m) xs less))
    ∙ ap (λ ys. take n (take (n + m) xs) ++ ys) (sym (drop-take n m xs))
    ∙ take-append-drop n (take (n + m) xs)

pub room : (class : ℕ) (cs : List Column) (ns : List ℕ) (j : ℕ) (d : Column) (next count m : ℕ) → j < length cs → j < length ns
    → next ≡ length (dealt class (take j cs) (take j ns)) → count ≡ given_by class (get_or cs j d).mark (get_or ns j 0) → length (dealt class cs ns) ≤ m → next + count ≤ m
room class cs ns j d next count m p q e g h =
    let before = dealt class (take j cs) (take j ns) in
    let step = replicate (given_by class (get_or cs j d).mark (get_or ns j 0)) (goes_to (get_or cs j d).mark) in
    let more = ap length (dealt-more class cs ns j d p q) in
    let most = dealt-most class cs ns (j + 1) in
    omega (arith, more, most, length-append before step, length-replicate (given_by class (get_or cs j d).mark (get_or ns j 0)) (goes_to (get_or cs j d).mark), e, g, h)

pub deal-step : (init now new : List (Option ℕ)) (ms : List ℕ) (next count : ℕ) (before : List (Option ℕ)) (to : Option ℕ) → next + count ≤ length ms → next ≡ length before
    → now ≡ put_all init (take next ms) before
    → new ≡ put_all now (take (next + count - next) (drop next ms)) (replicate (length (take (next + count - next) (drop next ms))) to)
    → new ≡ put_all init (take (next + count) ms) (before ++ replicate count to)
deal-step init now new ms next count before to fits e o n =
    let size : next + count - next ≡ count = omega arith in
    let part = take count (drop next ms) in
    let whole = length-drop next ms in
    let left : count ≤ length (drop next ms) = omega (arith, whole) in
    let long : length part ≡ count = length-take-le count (drop next ms) left in
    let some : next ≤ length ms = omega arith in
    let same : length (take next ms) ≡ length before = omega (arith, length-take-le next ms some, e) in
    n ∙ ap (λ k. put_all now (take k (drop next ms)) (replicate (length (take k (drop next ms))) to)) size
    ∙ ap (λ k. put_all now part (replicate k to)) long
    ∙ ap (λ of. put_all of part (replicate count to)) o
    ∙ sym (put_all-append init (take next ms) part before (replicate count to) same)
    ∙ ap (λ xs. put_all init xs (before ++ replicate count to)) (take-both next count ms)

pub put_all-short : (of : List (Option ℕ)) (ms : List ℕ) (ts : List (Option ℕ)) (n : ℕ) → length ts ≤ n → put_all of (take n ms) ts ≡ put_all of ms ts
put_all-short of [] ts zero h = refl
put_all-short of [] ts (suc n) h = refl
put_all-short of (m ∷ ms) [] zero h = refl
put_all-short of (m ∷ ms) [] (suc n) h = refl
put_all-short of (m ∷ ms) (t ∷ ts) zero h = absurd (omega (arith, h))
put_all-short of (m ∷ ms) (t ∷ ts) (suc n) h = put_all-short (set of m t) ms ts n (omega (arith, h))

pub dealt-all : (class : ℕ) (cs : List Column) (ns : List ℕ) (j : ℕ) → length cs ≤ j → length ns ≡ length cs → dealt class (take j cs) (take j ns) ≡ dealt class cs ns
dealt-all class cs ns j past same =
    ap (λ xs. dealt class xs (take j ns)) (take_all j cs past) ∙ ap (dealt class cs) (take_all j ns (omega (arith, past, same)))

pub get-some : {X : Type 0} (xs : List X) (i : ℕ) (d : X) → i < length xs → slice_get xs i ≡ Some (get_or xs i d)
get-some [] i d h = absurd (omega arith)
get-some (x ∷ xs) zero d h = refl
get-some (x ∷ xs) (suc i) d h = get-some xs i d (omega arith)
