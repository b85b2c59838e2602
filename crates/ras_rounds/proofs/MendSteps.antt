-- What the loops of a mend have made, one step on.
use Rattle.std.proofs.Common.{◌≡◌, ℕ, zero, suc, ◌+◌, ◌<◌, Bool, true, false, cond, List, [], ◌∷◌, ◌++◌, length, get_or, map, take, set, arith, ap, sym, ◌∙◌, refl, append-nil}
use Rattle.std.specs.Prelude.{filter, zip, Result, Ok, Err, is_ok}
use Rattle.std.proofs.lemmas.List.{take_more, map-append, length-set}
use Rattle.plan_model.specs.declared.cases.Place.{Place}
use Rattle.plan_model.specs.Units.{no_place}
use Rattle.symmetry_classes.specs.declared.groups.Class.{Class as Group}
use Rattle.symmetry_classes.proofs.FirstOfEach.{filter-push}
use Rattle.ras_rounds.specs.Rounds.{differs}
use Rattle.ras_rounds.specs.Mends.{clear, cleared}

-- the second of each pair that differs
abbrev pub joining : List (Place × Place) → List Place
joining pairs = map (λ e. e.1) (filter (λ e. differs e.0 e.1) pairs)

zip-more : (xs ys : List Place) (i : ℕ) → i < length xs → i < length ys
    → take (suc i) (zip xs ys) ≡ take i (zip xs ys) ++ (get_or xs i no_place, get_or ys i no_place) ∷ []
zip-more [] ys i h k = absurd (omega (arith, h))
zip-more (x ∷ xs) [] i h k = absurd (omega (arith, k))
zip-more (x ∷ xs) (y ∷ ys) zero h k = refl
zip-more (x ∷ xs) (y ∷ ys) (suc i) h k = ap (λ zs. (x, y) ∷ zs) (zip-more xs ys i (omega (arith, h)) (omega (arith, k)))

zipped : (xs ys : List Place) (i : ℕ) → i < length xs → i < length ys
    → take (i + 1) (zip xs ys) ≡ take i (zip xs ys) ++ (get_or xs i no_place, get_or ys i no_place) ∷ []
zipped xs ys i h k = let next : i + 1 ≡ suc i = omega arith in ap (λ n. take n (zip xs ys)) next ∙ zip-more xs ys i h k

pub flags-more : (xs ys : List Place) (i : ℕ) → i < length xs → i < length ys
    → map (λ (e : Place × Place). differs e.0 e.1) (take (i + 1) (zip xs ys))
    ≡ map (λ (e : Place × Place). differs e.0 e.1) (take i (zip xs ys)) ++ differs (get_or xs i no_place) (get_or ys i no_place) ∷ []
flags-more xs ys i h k =
    ap (map (λ (e : Place × Place). differs e.0 e.1)) (zipped xs ys i h k)
    ∙ map-append (λ (e : Place × Place). differs e.0 e.1) (take i (zip xs ys)) ((get_or xs i no_place, get_or ys i no_place) ∷ [])

joining-push : (b : Bool) (pairs : List (Place × Place)) (p q : Place) → differs p q ≡ b → joining (pairs ++ (p, q) ∷ []) ≡ joining pairs ++ cond b (q ∷ []) []
joining-push b pairs p q e =
    ap (map (λ (e : Place × Place). e.1)) (filter-push (λ (e : Place × Place). differs e.0 e.1) pairs (p, q) ∙ ap (λ v. filter (λ (e : Place × Place). differs e.0 e.1) pairs ++ cond v ((p, q) ∷ []) []) e)
    ∙ map-append (λ (e : Place × Place). e.1) (filter (λ (e : Place × Place). differs e.0 e.1) pairs) (cond b ((p, q) ∷ []) [])
    ∙ ap (λ zs. joining pairs ++ zs) (by b)
  where
    by : (v : Bool) → map (λ (e : Place × Place). e.1) (cond v ((p, q) ∷ []) []) ≡ cond v (q ∷ []) []
    by true = refl
    by false = refl

pub joining-yes : (xs ys : List Place) (i : ℕ) → i < length xs → i < length ys → differs (get_or xs i no_place) (get_or ys i no_place) ≡ true
    → joining (take (i + 1) (zip xs ys)) ≡ joining (take i (zip xs ys)) ++ get_or ys i no_place ∷ []
joining-yes xs ys i h k e = ap joining (zipped xs ys i h k) ∙ joining-push true (take i (zip xs ys)) (get_or xs i no_place) (get_or ys i no_place) e

pub joining-no : (xs ys : List Place) (i : ℕ) → i < length xs → i < length ys → differs (get_or xs i no_place) (get_or ys i no_place) ≡ false
    → joining (take (i + 1) (zip xs ys)) ≡ joining (take i (zip xs ys))
joining-no xs ys i h k e =
    ap joining (zipped xs ys i h k) ∙ joining-push false (take i (zip xs ys)) (get_or xs i no_place) (get_or ys i no_place) e
    ∙ append-nil (joining (take i (zip xs ys)))

pub same-read : {X : Type 0} (xs : List X) (i : ℕ) (x y : X) → i < length xs → x ≡ get_or xs i x → y ≡ get_or xs i y → x ≡ y
same-read [] i x y h p q = absurd (omega (arith, h))
same-read (z ∷ xs) zero x y h p q = p ∙ sym q
same-read (z ∷ xs) (suc i) x y h p q = same-read xs i x y (omega (arith, h)) p q

clear-push : (members : List ℕ) (m : ℕ) (flags : List Bool) → clear (members ++ m ∷ []) flags ≡ set (clear members flags) m false
clear-push [] m flags = refl
clear-push (x ∷ members) m flags = clear-push members m (set flags x false)

pub clear-more : (members : List ℕ) (i d : ℕ) (flags : List Bool) → i < length members
    → clear (take (i + 1) members) flags ≡ set (clear (take i members) flags) (get_or members i d) false
clear-more members i d flags within = ap (λ ms. clear ms flags) (take_more members i d within) ∙ clear-push (take i members) (get_or members i d) flags

cleared-push : (touched : Group → Bool) (classes : List Group) (class : Group) (flags : List Bool)
    → cleared touched (classes ++ class ∷ []) flags ≡ cond (touched class) (cleared touched classes flags) (clear class.members (cleared touched classes flags))
cleared-push touched [] class flags = refl
cleared-push touched (c ∷ classes) class flags = cleared-push touched classes class (cond (touched c) flags (clear c.members flags))

cleared-at : (v : Bool) (touched : Group → Bool) (classes : List Group) (i : ℕ) (class : Group) (flags : List Bool) → i < length classes
    → class ≡ get_or classes i class → touched class ≡ v
    → cleared touched (take (i + 1) classes) flags ≡ cond v (cleared touched (take i classes) flags) (clear class.members (cleared touched (take i classes) flags))
cleared-at v touched classes i class flags within read e =
    ap (λ cs. cleared touched cs flags) (take_more classes i class within ∙ ap (λ g. take i classes ++ g ∷ []) (sym read))
    ∙ cleared-push touched (take i classes) class flags
    ∙ ap (λ b. cond b (cleared touched (take i classes) flags) (clear class.members (cleared touched (take i classes) flags))) e

pub cleared-kept : (touched : Group → Bool) (classes : List Group) (i : ℕ) (class : Group) (flags : List Bool) → i < length classes
    → class ≡ get_or classes i class → touched class ≡ false
    → cleared touched (take (i + 1) classes) flags ≡ clear class.members (cleared touched (take i classes) flags)
cleared-kept touched classes i class flags within read e = cleared-at false touched classes i class flags within read e

pub cleared-left : (touched : Group → Bool) (classes : List Group) (i : ℕ) (class : Group) (flags : List Bool) → i < length classes
    → class ≡ get_or classes i class → touched class ≡ true
    → cleared touched (take (i + 1) classes) flags ≡ cleared touched (take i classes) flags
cleared-left touched classes i class flags within read e = cleared-at true touched classes i class flags within read e

clear-length : (members : List ℕ) (flags : List Bool) → length (clear members flags) ≡ length flags
clear-length [] flags = refl
clear-length (m ∷ members) flags = clear-length members (set flags m false) ∙ length-set flags m false

pub cleared-length : (touched : Group → Bool) (classes : List Group) (flags : List Bool) → length (cleared touched classes flags) ≡ length flags
cleared-length touched [] flags = refl
cleared-length touched (class ∷ classes) flags = cleared-length touched classes (cond (touched class) flags (clear class.members flags)) ∙ by (touched class)
  where
    by : (b : Bool) → length (cond b flags (clear class.members flags)) ≡ length flags
    by true = refl
    by false = clear-length class.members flags

pub appended : {X T E : Type 0} (r : Result T E) (b : Bool) (new xs ys : List X) → b ≡ is_ok r → b ≡ true → new ≡ cond (is_ok r) (xs ++ ys) xs → new ≡ xs ++ ys
appended (Ok x) b new xs ys e holds h = h
appended (Err x) b new xs ys e holds h = cc
