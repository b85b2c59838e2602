-- Files that are read one after another.
use Rattle.std.proofs.Common.{ℕ, ◌+◌, ◌*◌, ◌^◌, Bool, ◌&&◌, zero, suc, All, is_err, is_ok, ◌≡◌, ◌∙◌, ◌≤◌, ◌<◌, sym, ap, ap₂, refl, subst, true, false, nat_le, if◌then◌else◌, List, [], ◌∷◌, ◌++◌, length, map, take, get_or, Option, Some, None, IsSome, Result, Ok, Err, Vec, Global, arith, inl, inr}
use Rattle.std.specs.List.{list_all}
use Rattle.std.proofs.lemmas.Bool.{le-leb, leb-true}
use Rattle.std.proofs.lemmas.List.Folds.{list_all_at}
use Rattle.std.proofs.lemmas.List.{map-append, take_more}
use Rattle.std.proofs.lemmas.List.Elements.{All-append, All-cons, All-nil}
use Rattle.ras_outside.specs.Causes.{Rose}
use Rattle.ras_outside.specs.Held.{Files, file_at, ReadsFile, ReadsTold}
use Rattle.ras_outside.specs.declared.shelf.ShelfFault.{ShelfFault}
use Rattle.ras_outside.specs.declared.shelf.ShelfFault.TheVariants as fault
use Rattle.ras_cli.specs.Asked.{AllHeld, BreaksHeld, HasTexts, IsLonger, LongerHeld, SomeLonger, texts_of, with_text, within}
use Rattle.ras_cli.specs.Named.{has_limit, limited}
use Rattle.ras_cli.specs.declared.files.Named.{Named}

-- ---- one more text

with-some : (o : Option (List ℕ)) (p : Option (List (List ℕ))) (ts : List (List ℕ)) → with_text o p ≡ Some ts
    → (t : List ℕ) × (o ≡ Some t) × ((us : List (List ℕ)) × (p ≡ Some us) × (t ∷ us ≡ ts))
with-some None p ts h = absurd cc
with-some (Some t) None ts h = absurd cc
with-some (Some t) (Some us) ts h = (t, refl, (us, refl, cc))

texts-more : (files : Files) (names : List (List ℕ × ℕ)) (n : List ℕ × ℕ) (ts : List (List ℕ)) (t : List ℕ) → texts_of files names ≡ Some ts → within (file_at files n.0) n.1 ≡ Some t
    → texts_of files (names ++ n ∷ []) ≡ Some (ts ++ t ∷ [])
texts-more files [] n ts t h w =
    let none : [] ≡ ts = cc in
    ap (λ o. with_text o (Some [])) w ∙ ap (λ us. Some (us ++ t ∷ [])) none
texts-more files (m ∷ names) n ts t h w =
    let parts = with-some (within (file_at files m.0) m.1) (texts_of files names) ts h in
    let rest = texts-more files names n parts.2.0 t parts.2.1 w in
    ap₂ with_text parts.1 rest ∙ ap (λ us. Some (us ++ t ∷ [])) parts.2.2

-- a file that was read is held, and within its limit
read-within : (o : Option (List ℕ)) (most broke broke' : ℕ) (found : Vec ℕ Global) → ReadsFile most broke broke' o (Ok found) → length found.items ≤ most → within o most ≡ Some found.items
read-within None most broke broke' found h fits = absurd h
read-within (Some bytes) most broke broke' found h fits =
    let small : length bytes ≤ most = subst (λ (b : List ℕ). length b ≤ most) h fits in
    ap (λ b. if b then Some bytes else None) (le-leb (length bytes) most small) ∙ ap Some (sym h)

pub has-texts-more : (held : Option Files) (names : List (List ℕ × ℕ)) (n : List ℕ × ℕ) (ts : List (List ℕ)) (broke broke' : ℕ) (found : Vec ℕ Global) → HasTexts held names ts
    → ReadsTold n.1 broke broke' n.0 held (Ok found) → length found.items ≤ n.1 → HasTexts held (names ++ n ∷ []) (ts ++ found.items ∷ [])
has-texts-more None names n ts broke broke' found h told fits = tt
has-texts-more (Some files) names n ts broke broke' found h told fits =
    texts-more files names n ts found.items h (read-within (file_at files n.0) n.1 broke broke' found told fits)

-- ---- a read that gave nothing

held-at : (files : Files) (named : List Named) (i : ℕ) (d : Named) → i < length named → AllHeld files (map limited named) → IsSome (file_at files (get_or named i d).name.now)
held-at files [] i d h all = absurd (omega arith)
held-at files (n ∷ named) zero d h all = all.0
held-at files (n ∷ named) (suc i) d h all = held-at files named i d (omega arith) all.1

longer-at : (files : Files) (named : List Named) (i : ℕ) (d : Named) → i < length named → IsLonger (file_at files (get_or named i d).name.now) (get_or named i d).most
    → SomeLonger files (map limited named)
longer-at files [] i d h long = absurd (omega arith)
longer-at files (n ∷ named) zero d h long = inl long
longer-at files (n ∷ named) (suc i) d h long = inr (longer-at files named i d (omega arith) long)

-- a read that failed, where the file is held
failed-held : (o : Option (List ℕ)) (most broke broke' : ℕ) → ReadsFile most broke broke' o (Err fault.Failed) → IsSome o → Rose broke broke'
failed-held None most broke broke' h some = absurd cc
failed-held (Some bytes) most broke broke' h some = h

breaks-at : (held : Option Files) (named : List Named) (i : ℕ) (d : Named) (first broke broke' : ℕ) → i < length named → first ≤ broke
    → ReadsTold (get_or named i d).most broke broke' (get_or named i d).name.now held (Err fault.Failed) → BreaksHeld held (map limited named) first broke'
breaks-at None named i d first broke broke' h later told = tt
breaks-at (Some files) named i d first broke broke' h later told =
    λ all.
    let rose = failed-held (file_at files (get_or named i d).name.now) (get_or named i d).most broke broke' told (held-at files named i d h all) in
    omega arith

-- a read that was too long
long-held : (o : Option (List ℕ)) (most broke broke' : ℕ) → ReadsFile most broke broke' o (Err fault.Long) → IsLonger o most
long-held None most broke broke' h = h
long-held (Some bytes) most broke broke' h = h

long-at : (held : Option Files) (named : List Named) (i : ℕ) (d : Named) (broke broke' : ℕ) → i < length named
    → ReadsTold (get_or named i d).most broke broke' (get_or named i d).name.now held (Err fault.Long) → LongerHeld held (map limited named)
long-at None named i d broke broke' h told = tt
long-at (Some files) named i d broke broke' h told =
    longer-at files named i d h (long-held (file_at files (get_or named i d).name.now) (get_or named i d).most broke broke' told)

-- ---- by the answer of a read

pub if-failed : (e : ShelfFault) (held : Option Files) (named : List Named) (i : ℕ) (d : Named) (first broke broke' : ℕ) → i < length named → first ≤ broke
    → ReadsTold (get_or named i d).most broke broke' (get_or named i d).name.now held (Err e) → e ≡ fault.Failed → BreaksHeld held (map limited named) first broke'
if-failed e held named i d first broke broke' h later told failed =
    breaks-at held named i d first broke broke' h later (subst (λ (x : ShelfFault). ReadsTold (get_or named i d).most broke broke' (get_or named i d).name.now held (Err x)) failed told)

pub if-long : (e : ShelfFault) (held : Option Files) (named : List Named) (i : ℕ) (d : Named) (broke broke' : ℕ) → i < length named
    → ReadsTold (get_or named i d).most broke broke' (get_or named i d).name.now held (Err e) → e ≡ fault.Long → LongerHeld held (map limited named)
if-long e held named i d broke broke' h told long =
    long-at held named i d broke broke' h (subst (λ (x : ShelfFault). ReadsTold (get_or named i d).most broke broke' (get_or named i d).name.now held (Err x)) long told)

-- ---- one more file

pub push-ok : {T E X : Type 0} (r : Result T E) (new more old : X) → false ≡ is_err r → new ≡ (if is_ok r then more else old) → new ≡ more
push-ok (Ok x) new more old e h = h
push-ok (Err x) new more old e h = absurd cc

pub all-more : {X : Type 0} (P : X → Type 0) (xs new : List X) (x : X) → new ≡ xs ++ x ∷ [] → All P xs → P x → All P new
all-more {X = X} P xs new x e all p = subst (λ (l : List X). All P l) (sym e) (All-append P xs (x ∷ []) all (All-cons P x [] p (All-nil P)))

-- the texts of the files that were read so far, by the files so far
pub texts-so-far : (held held' : Option Files) (named : List Named) (i : ℕ) (d : Named) (files new : List (Vec ℕ Global)) (broke broke' : ℕ) (found : Vec ℕ Global) → i < length named
    → new ≡ files ++ found ∷ [] → held' ≡ held → HasTexts held (map limited (take i named)) (map (λ f. f.items) files)
    → ReadsTold (get_or named i d).most broke broke' (get_or named i d).name.now held' (Ok found) → length found.items ≤ (get_or named i d).most
    → HasTexts held (map limited (take (i + 1) named)) (map (λ f. f.items) new)
texts-so-far held held' named i d files new broke broke' found h e same texts told fits =
    let there = subst (λ (o : Option Files). ReadsTold (get_or named i d).most broke broke' (get_or named i d).name.now o (Ok found)) same told in
    let more = has-texts-more held (map limited (take i named)) (limited (get_or named i d)) (map (λ f. f.items) files) broke broke' found texts there fits in
    let names : map limited (take (i + 1) named) ≡ map limited (take i named) ++ limited (get_or named i d) ∷ [] = ap (map limited) (take_more named i d h) ∙ map-append limited (take i named) (get_or named i d ∷ []) in
    let bytes : map (λ f. f.items) new ≡ map (λ f. f.items) files ++ found.items ∷ [] = ap (map (λ f. f.items)) e ∙ map-append (λ f. f.items) files (found ∷ []) in
    subst (λ (l : List (List ℕ × ℕ)). HasTexts held l (map (λ f. f.items) new)) (sym names) (subst (λ (l : List (List ℕ)). HasTexts held (map limited (take i named) ++ limited (get_or named i d) ∷ []) l) (sym bytes) more)

-- what fits a named file's limit is at most 64 MiB
or-all : (one all : Bool) → (one ≡ false → all ≡ false) → all ≡ true → one ≡ true
or-all true all f t = refl
or-all false all f t = absurd (cc (f refl))

second : (a b : Bool) → a && b ≡ true → b ≡ true
second true b h = h
second false b h = absurd cc

pub within-most : (named : List Named) (i : ℕ) (d : Named) (n : ℕ) → i < length named → list_all has_limit named ≡ true → n ≤ (get_or named i d).most → n ≤ 64 * 2 ^ 20
within-most named i d n h all fits =
    let most = (get_or named i d).most in
    let limited_here = or-all (has_limit (get_or named i d)) (list_all has_limit named) (list_all_at has_limit named i d h) all in
    omega (arith, leb-true most 67108864 (second (nat_le 16777216 most) (nat_le most 67108864) limited_here))

-- a list of which nothing is mapped
pub none-mapped : {X Y : Type 0} (f : X → Y) (xs : List X) → map f xs ≡ [] → xs ≡ []
none-mapped f [] e = refl
none-mapped f (x ∷ xs) e = absurd cc
