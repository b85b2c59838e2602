-- The bindings of a sample are those of the servers of its region.
use Rattle.std.proofs.Common.{◌≡◌, ◌≤◌, ◌<◌, refl, sym, ap, ap₂, ◌∙◌, subst, ℕ, zero, suc, ◌+◌, ◌*◌, Bool, true, false, cond, ◌&&◌, ◌||◌, List, [], ◌∷◌, ◌++◌, length, Option, Some, None, option_and_then, option_map, arith, append-nil}
use Rattle.std.specs.Prelude.{not, map, flat_map, nat_lt, codes, slice_get, unwrap_or, is_some, is_none, Ok}
use Rattle.std.specs.List.{range_with_len, list_all, list_any, position_or_len}
use Rattle.std.specs.Str.{bytes_eq}
use Rattle.std.proofs.lemmas.Bool.Decides.{nat_tests}
use Rattle.ras_table.specs.Names.{number_of}
use Rattle.ras_table.specs.Rows.{row_of}
use Rattle.ras_table.specs.Records.{records_of}
use Rattle.ras_table.specs.declared.rows.Cell.TheVariants as cell
use Rattle.ras_table.proofs.NamesLemmas.{number-there, bytes-flip, same-bytes}
use Rattle.ras_inventory.specs.declared.line.Line.{Line}
use Rattle.ras_inventory.specs.declared.bound.Bound.{Bound}
use Rattle.ras_inventory.specs.Regions.{server_of}
use Rattle.ras_inventory.specs.RegionRule.{server_names}
use Rattle.ras_inventory.specs.Bounds.{heads, kinds, broken_rule, stands_twice, checked, bound_in, bound_at, bounds_from, bounds_of, and_then, line_for, binding_in, binding_for, free, bindings_of}
use Rattle.region_gen.specs.Files.{bindings_line, bindings_text, region_lines}
use Rattle.sample_case.specs.Lines.{line_text, are_names}
use Rattle.sample_case.specs.Samples.{name_of, sample_line, sample_lines, sample_region, is_held, binding_of, sample_bindings}
use Rattle.sample_case.proofs.Names.{is_again}
use Rattle.sample_case.proofs.Texts.{lines-by-server}
use Rattle.sample_case.proofs.Texts as texts
use Rattle.sample_case.proofs.Inventory.{any-map, is-new, name-named, records-read}
use native.Mathlib.Decide.{dec_lt}

-- ---- tests over numbers in a row

any-none : (p : ℕ → Bool) (a n : ℕ) → ((i : ℕ) → a ≤ i → i < a + n → p i ≡ false) → list_any p (range_with_len a n) ≡ false
any-none p a zero none = refl
any-none p a (suc n) none = ap₂ (λ b c. b || c) (none a (omega arith) (omega arith)) (any-none p (a + 1) n (λ i h k. none i (omega (arith, h)) (omega (arith, k))))

or-left : (a b : Bool) → (a || b) ≡ false → a ≡ false
or-left true b e = cc
or-left false b e = refl

or-right : (a b : Bool) → (a || b) ≡ false → b ≡ false
or-right true b e = cc
or-right false b e = e

none-of : (p : ℕ → Bool) (a n i : ℕ) → a ≤ i → i < a + n → list_any p (range_with_len a n) ≡ false → p i ≡ false
none-of p a zero i least below none = absurd (omega (arith, least, below))
none-of p a (suc n) i least below none =
    elim (dec_lt a i) [
      | yes above ↦ none-of p (a + 1) n i (omega (arith, above)) (omega (arith, below)) (or-right _ _ none)
      | no first ↦ let same : a ≡ i = omega (arith, least, first) in subst (λ j. p j ≡ false) same (or-left _ _ none)
    ]

any-of : (p : ℕ → Bool) (a n i : ℕ) → a ≤ i → i < a + n → p i ≡ true → list_any p (range_with_len a n) ≡ true
any-of p a zero i least below is = absurd (omega (arith, least, below))
any-of p a (suc n) i least below is =
    elim (dec_lt a i) [
      | yes above ↦ later (p a) (any-of p (a + 1) n i (omega (arith, above)) (omega (arith, below)) is)
      | no first ↦ let same : i ≡ a = omega (arith, least, first) in ap (λ b. b || list_any p (range_with_len (a + 1) n)) (subst (λ j. p j ≡ true) same is)
    ]
  where
    later : (b : Bool) {c : Bool} → c ≡ true → (b || c) ≡ true
    later true e = refl
    later false e = e

-- ---- servers have different names

apart-before : (i k : ℕ) → i < k → k < 160 → bytes_eq (name_of i) (name_of k) ≡ false
apart-before i k before few = none-of (is_again k) 0 k i (omega arith) (omega (arith, before)) (is-new k few)

apart-after : (i k : ℕ) → i < k → k < 160 → bytes_eq (name_of k) (name_of i) ≡ false
apart-after i k before few = bytes-flip (name_of k) (name_of i) ∙ apart-before i k before few

-- ---- the lines that hold servers

bound_of : ℕ → Bound
bound_of k = record { server = name_of k; holder = Some (codes "web"); busy = false; up = true }

bound_fields : ℕ → List (List ℕ)
bound_fields k = name_of k ∷ codes "web" ∷ codes "0" ∷ codes "1" ∷ []

held_bounds : ℕ → List ℕ → List Bound
held_bounds number = flat_map (λ k. cond (is_held number k) (bound_of k ∷ []) [])

held_rows : ℕ → List ℕ → List (List (List ℕ))
held_rows number = flat_map (λ k. cond (is_held number k) (bound_fields k ∷ []) [])

bindings-rows : (number : ℕ) (xs : List ℕ) → flat_map (texts.line_at bindings_line number) xs ≡ flat_map line_text (held_rows number xs)
unfolding held_rows bound_fields
bindings-rows number [] = refl
bindings-rows number (x ∷ xs) = by (is_held number x) (bindings-rows number xs)
  where
    by : (b : Bool) → flat_map (texts.line_at bindings_line number) xs ≡ flat_map line_text (held_rows number xs)
        → cond b (name_of x ++ codes ",web,0,1\n") [] ++ flat_map (texts.line_at bindings_line number) xs ≡ flat_map line_text (cond b (bound_fields x ∷ []) [] ++ held_rows number xs)
    by true e = ap (λ rest. (name_of x ++ codes ",web,0,1\n") ++ rest) e
    by false e = e

fields-named : (k : ℕ) → k < 160 → are_names (bound_fields k) ≡ true
unfolding bound_fields
fields-named k few = rw (name-named k few) refl

rows-named : (number a n : ℕ) → a + n ≤ 160 → list_all are_names (held_rows number (range_with_len a n)) ≡ true
unfolding held_rows
rows-named number a zero few = refl
rows-named number a (suc n) few = by (is_held number a) (fields-named a (omega (arith, few))) (rows-named number (a + 1) n (omega (arith, few)))
  where
    by : (b : Bool) → are_names (bound_fields a) ≡ true → list_all are_names (held_rows number (range_with_len (a + 1) n)) ≡ true
        → list_all are_names (cond b (bound_fields a ∷ []) [] ++ held_rows number (range_with_len (a + 1) n)) ≡ true
    by true e f = ap₂ (λ c d. c && d) e f
    by false e f = f

bindings-records : (number size : ℕ) → size ≤ 40 → records_of (bindings_text number size) ≡ heads ∷ held_rows number (range_with_len 0 (4 * size))
bindings-records number size few =
    records-read (bindings_text number size) (heads ∷ held_rows number (range_with_len 0 (4 * size))) (codes "ver,reservation,busy,up\n" ++ region_lines bindings_line number size)
    refl
    (ap (λ xs. codes "server,reservation,busy,up\n" ++ xs) (lines-by-server bindings_line number size ∙ bindings-rows number (range_with_len 0 (4 * size))))
    (rows-named number 0 (4 * size) (omega (arith, few)))

-- ---- the rules

module _ (number : ℕ) where
  held-none : (test : Bound → Bool) (xs : List ℕ) → list_any (λ k. test (bound_of k)) xs ≡ false → list_any test (held_bounds number xs) ≡ false
  unfolding held_bounds
  held-none test [] none = refl
  held-none test (x ∷ xs) none = by (is_held number x) (or-left _ _ none) (held-none test xs (or-right _ _ none))
    where
      by : (b : Bool) → test (bound_of x) ≡ false → list_any test (held_bounds number xs) ≡ false → list_any test (cond b (bound_of x ∷ []) [] ++ held_bounds number xs) ≡ false
      by true e f = ap₂ (λ c d. c || d) e f
      by false e f = f

  held-more : (a n : ℕ) → held_bounds number (range_with_len a (suc n)) ≡ held_bounds number (range_with_len a n) ++ cond (is_held number (a + n)) (bound_of (a + n) ∷ []) []
  unfolding held_bounds
  held-more a zero =
      let here : a ≡ a + 0 = omega arith in
      append-nil (cond (is_held number a) (bound_of a ∷ []) []) ∙ ap (λ k. cond (is_held number k) (bound_of k ∷ []) []) here
  held-more a (suc n) =
      let last : a + 1 + n ≡ a + suc n = omega arith in
      by (is_held number a) (held_bounds number (range_with_len (a + 1) (suc n))) (held_bounds number (range_with_len (a + 1) n)) (cond (is_held number (a + suc n)) (bound_of (a + suc n) ∷ []) [])
      (held-more (a + 1) n ∙ ap (λ k. held_bounds number (range_with_len (a + 1) n) ++ cond (is_held number k) (bound_of k ∷ []) []) last)
    where
      by : (b : Bool) (xs ys zs : List Bound) → xs ≡ ys ++ zs → cond b (bound_of a ∷ []) [] ++ xs ≡ (cond b (bound_of a ∷ []) [] ++ ys) ++ zs
      by true xs ys zs e = ap (λ l. bound_of a ∷ l) e
      by false xs ys zs e = e

  held-next : (a : ℕ) → held_bounds number (range_with_len 0 a) ++ cond (is_held number a) (bound_of a ∷ []) [] ≡ held_bounds number (range_with_len 0 (a + 1))
  held-next a =
      let here : a ≡ 0 + a = omega arith in
      let next : suc a ≡ a + 1 = omega arith in
      ap (λ k. held_bounds number (range_with_len 0 a) ++ cond (is_held number k) (bound_of k ∷ []) []) here ∙ sym (held-more 0 a) ∙ ap (λ k. held_bounds number (range_with_len 0 k)) next

  row-of : (k : ℕ) → k < 160 → row_of kinds (bound_fields k) ≡ Ok (cell.Name (name_of k) ∷ cell.Name (codes "web") ∷ cell.Flag false ∷ cell.Flag true ∷ [])
  unfolding bound_fields
  row-of k few = rw (name-named k few) refl

  module _ (servers : List (List ℕ)) (count : ℕ) (few : count ≤ 160) (named : servers ≡ map name_of (range_with_len 0 count)) where
    is-known : (k : ℕ) → k < count → is_none (number_of servers (name_of k)) ≡ false
    is-known k below =
        by (number_of servers (name_of k))
        (number-there (name_of k) servers ∙ ap (list_any (bytes_eq (name_of k))) named ∙ any-map (bytes_eq (name_of k)) name_of (range_with_len 0 count)
        ∙ any-of (λ i. bytes_eq (name_of k) (name_of i)) 0 count k (omega arith) (omega (arith, below)) (same-bytes (name_of k) (name_of k) refl))
      where
        by : (o : Option ℕ) → is_some o ≡ true → is_none o ≡ false
        by None e = cc
        by (Some n) e = refl

    bound-at : (k m : ℕ) → k < count → bound_at servers m (held_bounds number (range_with_len 0 k)) (bound_fields k) ≡ Ok (bound_of k)
    unfolding bound_of
    bound-at k m below =
        let small : k < 160 = omega (arith, few, below) in
        let known = is-known k below in
        let fresh : stands_twice (held_bounds number (range_with_len 0 k)) (bound_of k) ≡ false =
        held-none (λ (b : Bound). bytes_eq b.server (name_of k)) (range_with_len 0 k) (is-new k small) in
        let none : broken_rule servers (held_bounds number (range_with_len 0 k)) (bound_of k) ≡ None = rw (known, fresh) refl in
        ap (bound_in servers m (held_bounds number (range_with_len 0 k))) (row-of k small) ∙ ap (checked m (bound_of k)) none

    bounds-from : (a n m : ℕ) → a + n ≤ count
        → bounds_from servers m (held_bounds number (range_with_len 0 a)) (held_rows number (range_with_len a n)) ≡ Ok (held_bounds number (range_with_len 0 (a + n)))
    unfolding held_rows
    bounds-from a zero m within = let all : a ≡ a + 0 = omega arith in ap (λ k. Ok (held_bounds number (range_with_len 0 k))) all
    bounds-from a (suc n) m within =
        let ends : a + 1 + n ≡ a + suc n = omega arith in
        by (is_held number a) (bound-at a m (omega (arith, within))) (held-next a)
        (λ m. bounds-from (a + 1) n m (omega (arith, within)) ∙ ap (λ k. Ok (held_bounds number (range_with_len 0 k))) ends)
      where
        by : (b : Bool) → bound_at servers m (held_bounds number (range_with_len 0 a)) (bound_fields a) ≡ Ok (bound_of a)
            → held_bounds number (range_with_len 0 a) ++ cond b (bound_of a ∷ []) [] ≡ held_bounds number (range_with_len 0 (a + 1))
            → ((m : ℕ) → bounds_from servers m (held_bounds number (range_with_len 0 (a + 1))) (held_rows number (range_with_len (a + 1) n)) ≡ Ok (held_bounds number (range_with_len 0 (a + suc n))))
            → bounds_from servers m (held_bounds number (range_with_len 0 a)) (cond b (bound_fields a ∷ []) [] ++ held_rows number (range_with_len (a + 1) n)) ≡ Ok (held_bounds number (range_with_len 0 (a + suc n)))
        by true e f rest =
            ap (λ r. and_then r (λ bound. bounds_from servers (m + 1) (held_bounds number (range_with_len 0 a) ++ bound ∷ []) (held_rows number (range_with_len (a + 1) n)))) e
            ∙ ap (λ (bs : List Bound). bounds_from servers (m + 1) bs (held_rows number (range_with_len (a + 1) n))) f ∙ rest (m + 1)
        by false e f rest =
            ap (λ (bs : List Bound). bounds_from servers m bs (held_rows number (range_with_len (a + 1) n))) (sym (append-nil (held_bounds number (range_with_len 0 a))) ∙ f) ∙ rest m

-- ---- the line that names a server

zero-below : (b : ℕ) → nat_lt 0 (suc b) ≡ true
zero-below b = grind (arith, nat_tests)

next-below : (a b : ℕ) → nat_lt (1 + a) (suc b) ≡ nat_lt a b
next-below a b = grind (arith, nat_tests)

-- the place among one more, where the first is the one or is not
place-first : (bound : Bound) (bounds : List Bound) (first : Bool) (place count : ℕ)
    → option_and_then (λ n. slice_get (bound ∷ bounds) n) (cond (nat_lt (cond (not first) (1 + place) 0) (suc count)) (Some (cond (not first) (1 + place) 0)) None)
    ≡ cond first (Some bound) (option_and_then (λ n. slice_get bounds n) (cond (nat_lt place count) (Some place) None))
place-first bound bounds true place count = rw (zero-below count) refl
place-first bound bounds false place count = rw (next-below place count) (by (nat_lt place count))
  where
    by : (b : Bool) → option_and_then (λ n. slice_get (bound ∷ bounds) n) (cond b (Some (1 + place)) None) ≡ option_and_then (λ n. slice_get bounds n) (cond b (Some place) None)
    by true = let next : 1 + place ≡ suc place = omega arith in ap (slice_get (bound ∷ bounds)) next
    by false = refl

line-first : (bound : Bound) (bounds : List Bound) (q : List ℕ) → line_for (bound ∷ bounds) q ≡ cond (bytes_eq q bound.server) (Some bound) (line_for bounds q)
line-first bound bounds q =
    place-first bound bounds (bytes_eq q bound.server) (position_or_len (bytes_eq q) (map (λ (b : Bound). b.server) bounds)) (length (map (λ (b : Bound). b.server) bounds))

no-line : (bounds : List Bound) (q : List ℕ) → list_any (λ (b : Bound). bytes_eq q b.server) bounds ≡ false → line_for bounds q ≡ None
no-line [] q none = refl
no-line (b ∷ bs) q none = line-first b bs q ∙ ap₂ (λ t o. cond t (Some b) o) (or-left _ _ none) (no-line bs q (or-right _ _ none))

module _ (number k : ℕ) (few : k < 160) where
  -- a server that is not held has no line, nor has one that stands before
  past : (a n : ℕ) → k < a → a + n ≤ 160 → line_for (held_bounds number (range_with_len a n)) (name_of k) ≡ None
  unfolding bound_of
  past a n above within =
      no-line (held_bounds number (range_with_len a n)) (name_of k)
      (held-none number (λ (b : Bound). bytes_eq (name_of k) b.server) (range_with_len a n)
      (any-none (λ i. bytes_eq (name_of k) (name_of i)) a n (λ i h j. apart-before k i (omega (arith, above, h)) (omega (arith, j, within)))))

  line-of : (a n : ℕ) → a ≤ k → k < a + n → a + n ≤ 160 → line_for (held_bounds number (range_with_len a n)) (name_of k) ≡ cond (is_held number k) (Some (bound_of k)) None
  unfolding held_bounds bound_of
  line-of a zero least below within = absurd (omega (arith, least, below))
  line-of a (suc n) least below within =
      elim (dec_lt a k) [
        | yes above ↦ later (is_held number a) (apart-after a k above few) (line-of (a + 1) n (omega (arith, above)) (omega (arith, below)) (omega (arith, within)))
        | no first ↦ let same : k ≡ a = omega (arith, least, first) in
            subst (λ j. line_for (cond (is_held number j) (bound_of j ∷ []) [] ++ held_bounds number (range_with_len (a + 1) n)) (name_of k) ≡ cond (is_held number k) (Some (bound_of k)) None) same
            (here (is_held number k) (past (a + 1) n (omega (arith, same)) (omega (arith, within))))
      ]
    where
      later : (b : Bool) {o : Option Bound} → bytes_eq (name_of k) (name_of a) ≡ false → line_for (held_bounds number (range_with_len (a + 1) n)) (name_of k) ≡ o
          → line_for (cond b (bound_of a ∷ []) [] ++ held_bounds number (range_with_len (a + 1) n)) (name_of k) ≡ o
      later true apart e = line-first (bound_of a) (held_bounds number (range_with_len (a + 1) n)) (name_of k) ∙ ap₂ (λ t o. cond t (Some (bound_of a)) o) apart e
      later false apart e = e

      here : (b : Bool) → line_for (held_bounds number (range_with_len (a + 1) n)) (name_of k) ≡ None
          → line_for (cond b (bound_of k ∷ []) [] ++ held_bounds number (range_with_len (a + 1) n)) (name_of k) ≡ cond b (Some (bound_of k)) None
      here true e =
          line-first (bound_of k) (held_bounds number (range_with_len (a + 1) n)) (name_of k)
          ∙ ap (λ t. cond t (Some (bound_of k)) (line_for (held_bounds number (range_with_len (a + 1) n)) (name_of k))) (same-bytes (name_of k) (name_of k) refl)
      here false e = e

  binding-of : (count : ℕ) → k < count → count ≤ 160 → binding_for (held_bounds number (range_with_len 0 count)) (name_of k) ≡ binding_of (is_held number k)
  unfolding bound_of
  binding-of count below within =
      ap (λ o. unwrap_or (option_map binding_in o) free) (line-of 0 count (omega arith) (omega (arith, below)) (omega (arith, within))) ∙ by (is_held number k)
    where
      by : (b : Bool) → unwrap_or (option_map binding_in (cond b (Some (bound_of k)) None)) free ≡ binding_of b
      by true = refl
      by false = refl

-- ---- the bindings

names-of : (lines : List Line) (number : ℕ) (xs : List ℕ) → server_names (map (server_of lines) (map (sample_line number) xs)) ≡ map name_of xs
names-of lines number [] = refl
names-of lines number (x ∷ xs) = ap (λ rest. name_of x ∷ rest) (names-of lines number xs)

bindings-of : (number count a n : ℕ) → a + n ≤ count → count ≤ 160
    → map (binding_for (held_bounds number (range_with_len 0 count))) (map name_of (range_with_len a n)) ≡ map (λ k. binding_of (is_held number k)) (range_with_len a n)
bindings-of number count a zero within few = refl
bindings-of number count a (suc n) within few =
    ap₂ (λ b bs. b ∷ bs) (binding-of number a (omega (arith, within, few)) count (omega (arith, within)) few) (bindings-of number count (a + 1) n (omega (arith, within)) few)

pub bindings-valid : (number size : ℕ) → size ≤ 40 → bindings_of (server_names (sample_region number size).servers) (bindings_text number size) ≡ Ok (sample_bindings number size)
unfolding held_bounds
bindings-valid number size few =
    let count = 4 * size in
    let small : 4 * size ≤ 160 = omega (arith, few) in
    let servers = server_names (sample_region number size).servers in
    let named : servers ≡ map name_of (range_with_len 0 (4 * size)) = names-of (sample_lines number size) number (range_with_len 0 (4 * size)) in
    let all : 0 + 4 * size ≡ 4 * size = omega arith in
    ap (λ rs. and_then (bounds_of servers rs) (λ bounds. Ok (map (binding_for bounds) servers))) (bindings-records number size few)
    ∙ ap (λ r. and_then r (λ bounds. Ok (map (binding_for bounds) servers)))
    (bounds-from number servers count small named 0 (4 * size) 2 (omega arith) ∙ ap (λ k. Ok (held_bounds number (range_with_len 0 k))) all)
    ∙ ap (λ names. Ok (map (binding_for (held_bounds number (range_with_len 0 count))) names)) named
    ∙ ap (λ bs. Ok bs) (bindings-of number (4 * size) 0 (4 * size) (omega arith) small)
