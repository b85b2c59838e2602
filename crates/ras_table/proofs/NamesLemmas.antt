-- What a map in order finds is the number of a name.
use Rattle.std.proofs.Common.{ℕ, ◌+◌, ◌<◌, ◌≡◌, ◌∙◌, sym, ap, refl, Bool, true, false, cond, not, List, [], ◌∷◌, ◌++◌, map, length, Option, Some, None, position, nat_lt, nat_eq, arith, Vec, ◌≤◌, suc, is_some, get_or, unwrap_or, ◌||◌, ◌&&◌, if◌then◌else◌, length-append}
use Rattle.std.specs.List.{position_or_len}
use Rattle.std.specs.Str.{bytes_eq}
use Rattle.std.specs.declared.alloc.Global.{Global}
use Rattle.std.proofs.lemmas.List.{length-map, map-append}
use Rattle.std.proofs.lemmas.List.Sums.{prefix_len-le-length}
use Rattle.std.proofs.lemmas.List.Folds.{position_or_len_push}
use Rattle.std.proofs.lemmas.Bool.{ltb-false, lt-ltb}
use Rattle.std.proofs.lemmas.Cmp.{nat_list_eq_equiv}
use Rattle.indexmap.specs.IndexMap.{insert_entry}
use Rattle.std.specs.Cmp.Lexicographic.{pointwise}
use Rattle.std.specs.List.{list_any}
use Rattle.std.specs.Cmp.Lexicographic.{bytes_decides}
use Rattle.std.proofs.lemmas.Bool.Decides.{nat_tests}
use Rattle.std.proofs.lemmas.List.Folds.{list_any-append}
use Rattle.std.proofs.lemmas.List.Quantifiers.{position-Some}
use Rattle.ras_table.specs.Names.{number_of, names_differ}
use Rattle.ras_table.specs.Numbered.{names_of, KeysAreNames}

position_or_len-map : {X Y : Type 0} (p : Y → Bool) (f : X → Y) (xs : List X) → position_or_len p (map f xs) ≡ position_or_len (λ x. p (f x)) xs
position_or_len-map p f [] = refl
position_or_len-map p f (x ∷ xs) = ap (λ n. cond (not (p (f x))) (1 + n) 0) (position_or_len-map p f xs)

placed : (n m a b : ℕ) → n ≡ m → a ≡ b → ◌≡◌ {A = Option ℕ} (cond (nat_lt n a) (Some n) None) (cond (nat_lt m b) (Some m) None)
placed n m a b p q = rw (p, q) refl

-- the number of a name among the names of things is the place of the first thing of that name
pub number_of-map : {X : Type 0} (name : X → List ℕ) (q : List ℕ) (xs : List X) → number_of (map name xs) q ≡ position (λ x. bytes_eq q (name x)) xs
number_of-map name q xs =
    placed (position_or_len (bytes_eq q) (map name xs)) (position_or_len (λ x. bytes_eq q (name x)) xs) (length (map name xs)) (length xs)
    (position_or_len-map (bytes_eq q) name xs) (length-map xs name)

-- the place of a key is the number of its name
pub found-in-names : (q : List ℕ) (es : List (Vec ℕ Global × List ℕ)) → KeysAreNames es
    → position (λ (k : Vec ℕ Global). bytes_eq q k.items) (map (λ e. e.0) es) ≡ number_of (names_of es) q
found-in-names q es keys =
    placed (position_or_len (λ (k : Vec ℕ Global). bytes_eq q k.items) (map (λ e. e.0) es)) (position_or_len (bytes_eq q) (names_of es)) (length (map (λ e. e.0) es)) (length (names_of es))
    (position_or_len-map (λ (k : Vec ℕ Global). bytes_eq q k.items) (λ e. e.0) es ∙ sym (position_or_len-map (bytes_eq q) (λ e. e.0.items) es) ∙ ap (position_or_len (bytes_eq q)) keys)
    (length-map es (λ e. e.0) ∙ sym (length-map es (λ e. e.1)))

-- a place below the length, or none
beyond : (n m : ℕ) → ◌≡◌ {A = Option ℕ} (cond (nat_lt n m) (Some n) None) None → m ≤ n
beyond n m none = by (nat_lt n m) refl none
  where
    by : (b : Bool) → nat_lt n m ≡ b → ◌≡◌ {A = Option ℕ} (cond b (Some n) None) None → m ≤ n
    by true e h = absurd cc
    by false e h = ltb-false n m e

-- where no name is these bytes, the place is the end
pub at_end : (q : List ℕ) (names : List (List ℕ)) → number_of names q ≡ None → position_or_len (bytes_eq q) names ≡ length names
at_end q names none =
    let below = beyond (position_or_len (bytes_eq q) names) (length names) none in
    let within = prefix_len-le-length (λ x. not (bytes_eq q x)) names in
    omega (arith, below, within)

-- a name that is not among names is given the next number
pub number_of-push : (q : List ℕ) (names : List (List ℕ)) → number_of names q ≡ None → number_of (names ++ q ∷ []) q ≡ Some (length names)
number_of-push q names none =
    let e = at_end q names none in
    let r : bytes_eq q q ≡ true = nat_list_eq_equiv.refl q in
    let same : nat_eq (length names) (length names) ≡ true = grind arith in
    let p = position_or_len_push (bytes_eq q) names q in
    let last : position_or_len (bytes_eq q) (names ++ q ∷ []) ≡ length names = (p ∙ rw (e, same, r) (omega arith)) in
    let longer : length (names ++ q ∷ []) ≡ length names + 1 = length-append names (q ∷ []) in
    rw (last, longer, lt-ltb (length names) (length names + 1) (omega arith)) refl

-- what the map keeps once a new name is put in
pub appended : (k : Vec ℕ Global) (v : List ℕ) (es : List (Vec ℕ Global × List ℕ)) → position_or_len (bytes_eq k.items) (map (λ e. e.0.items) es) ≡ length es
    → insert_entry (λ a b. bytes_eq a.items b.items) es k v ≡ es ++ (k, v) ∷ []
appended k v [] h = refl
appended k v (e ∷ es) h = by (bytes_eq k.items e.0.items) h (appended k v es)
  where
    by : (b : Bool) → cond (not b) (1 + position_or_len (bytes_eq k.items) (map (λ e. e.0.items) es)) 0 ≡ suc (length es)
        → (position_or_len (bytes_eq k.items) (map (λ e. e.0.items) es) ≡ length es → insert_entry (λ a b. bytes_eq a.items b.items) es k v ≡ es ++ (k, v) ∷ [])
        → (if b then (e.0, v) ∷ es else e ∷ insert_entry (λ a b. bytes_eq a.items b.items) es k v) ≡ e ∷ (es ++ (k, v) ∷ [])
    by true g rest = absurd (omega (arith, g))
    by false g rest = ap (λ l. e ∷ l) (rest (omega (arith, g)))

-- the map keeps its rule, and the names have the new one at their end
pub names_of-appended : (k : Vec ℕ Global) (v : List ℕ) (es : List (Vec ℕ Global × List ℕ)) → k.items ≡ v → KeysAreNames es → number_of (names_of es) v ≡ None
    → (insert_entry (λ a b. bytes_eq a.items b.items) es k v ≡ es ++ (k, v) ∷ [])
names_of-appended k v es same keys none =
    appended k v es (ap (λ q. position_or_len (bytes_eq q) (map (λ e. e.0.items) es)) same ∙ ap (position_or_len (bytes_eq v)) keys ∙ at_end v (names_of es) none ∙ length-map es (λ e. e.1))

pub keys-appended : (k : Vec ℕ Global) (v : List ℕ) (es : List (Vec ℕ Global × List ℕ)) → k.items ≡ v → KeysAreNames es → KeysAreNames (es ++ (k, v) ∷ [])
keys-appended k v es same keys =
    map-append (λ e. e.0.items) es ((k, v) ∷ []) ∙ rw (keys, same) refl ∙ sym (map-append (λ e. e.1) es ((k, v) ∷ []))

-- bytes are equal exactly where the test says so
pub bytes-same : (a b : List ℕ) → bytes_eq a b ≡ true → a ≡ b
bytes-same a b e = (bytes_decides a b).0 e

pub same-bytes : (a b : List ℕ) → a ≡ b → bytes_eq a b ≡ true
same-bytes a b e = (bytes_decides a b).1 e

pub bytes-flip : (a b : List ℕ) → bytes_eq a b ≡ bytes_eq b a
bytes-flip a b = by (bytes_eq a b) refl (bytes_eq b a) refl
  where
    by : (x : Bool) → bytes_eq a b ≡ x → (y : Bool) → bytes_eq b a ≡ y → x ≡ y
    by true x true y = refl
    by false x false y = refl
    by true x false y = absurd (let same = same-bytes b a (sym (bytes-same a b x)) in cc)
    by false x true y = absurd (let same = same-bytes a b (sym (bytes-same b a y)) in cc)

zero-below : (b : ℕ) → nat_lt 0 (suc b) ≡ true
zero-below b = grind (arith, nat_tests)

next-below : (a b : ℕ) → nat_lt (1 + a) (suc b) ≡ nat_lt a b
next-below a b = grind (arith, nat_tests)

pub position-there : {X : Type 0} (p : X → Bool) (xs : List X) → nat_lt (position_or_len p xs) (length xs) ≡ list_any p xs
position-there p [] = refl
position-there p (x ∷ xs) = by (p x) (position-there p xs)
  where
    by : (b : Bool) → nat_lt (position_or_len p xs) (length xs) ≡ list_any p xs → nat_lt (cond (not b) (1 + position_or_len p xs) 0) (suc (length xs)) ≡ (b || list_any p xs)
    by true rest = zero-below (length xs)
    by false rest = next-below (position_or_len p xs) (length xs) ∙ rest

some-chosen : (b : Bool) (n : ℕ) → is_some (cond {A = Option ℕ} b (Some n) None) ≡ b
some-chosen true n = refl
some-chosen false n = refl

-- a name has a number exactly where it is among the names
pub number-there : (q : List ℕ) (names : List (List ℕ)) → is_some (number_of names q) ≡ list_any (bytes_eq q) names
number-there q names = some-chosen (nat_lt (position_or_len (bytes_eq q) names) (length names)) (position_or_len (bytes_eq q) names) ∙ position-there (bytes_eq q) names

-- whether a name is among the names of things, by either order of the test
pub any-name : {X : Type 0} (f : X → List ℕ) (q : List ℕ) (xs : List X) → list_any (bytes_eq q) (map f xs) ≡ list_any (λ x. bytes_eq (f x) q) xs
any-name f q [] = refl
any-name f q (x ∷ xs) = ap (λ b. b || list_any (bytes_eq q) (map f xs)) (bytes-flip q (f x)) ∙ ap (λ b. bytes_eq (f x) q || b) (any-name f q xs)

-- names that differ, and one more that is not among them
pub names_differ-push : (names : List (List ℕ)) (q : List ℕ) → names_differ names ≡ true → list_any (bytes_eq q) names ≡ false → names_differ (names ++ q ∷ []) ≡ true
names_differ-push [] q h new = refl
names_differ-push (n ∷ ns) q h new =
    rw (list_any-append (bytes_eq n) ns (q ∷ []), bytes-flip n q) (by (list_any (bytes_eq n) ns) (names_differ ns) (bytes_eq q n) (list_any (bytes_eq q) ns) (names_differ (ns ++ q ∷ [])) h new (names_differ-push ns q))
  where
    by : (a b c d e : Bool) → (not a && b) ≡ true → (c || d) ≡ false → (b ≡ true → d ≡ false → e ≡ true) → (not (a || (c || false)) && e) ≡ true
    by false true false false e h n rest = rest refl refl
    by false true true d e h n rest = absurd cc
    by false true false true e h n rest = absurd cc
    by false false c d e h n rest = absurd cc
    by true b c d e h n rest = absurd cc

-- the number of a name among names is that of an equal name, and below their count
pub number-is : (q : List ℕ) (names : List (List ℕ)) → list_any (bytes_eq q) names ≡ true → number_of names q ≡ Some (unwrap_or (number_of names q) 0)
number-is q names there = by (number_of names q) (number-there q names ∙ there)
  where
    by : (o : Option ℕ) → is_some o ≡ true → o ≡ Some (unwrap_or o 0)
    by None e = absurd cc
    by (Some n) e = refl

pub number-below : (q : List ℕ) (names : List (List ℕ)) → list_any (bytes_eq q) names ≡ true → unwrap_or (number_of names q) 0 < length names
number-below q names there = (position-Some (bytes_eq q) names (unwrap_or (number_of names q) 0) [] (number-is q names there)).0

-- names of one number are one name
pub number-tells : (a b : List ℕ) (names : List (List ℕ)) → list_any (bytes_eq a) names ≡ true → list_any (bytes_eq b) names ≡ true
    → unwrap_or (number_of names a) 0 ≡ unwrap_or (number_of names b) 0 → a ≡ b
number-tells a b names at bt same =
    let one = bytes-same a _ (position-Some (bytes_eq a) names (unwrap_or (number_of names a) 0) [] (number-is a names at)).1 in
    let two = bytes-same b _ (position-Some (bytes_eq b) names (unwrap_or (number_of names b) 0) [] (number-is b names bt)).1 in
    one ∙ ap (λ n. get_or names n []) same ∙ sym two
