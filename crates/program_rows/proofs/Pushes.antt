-- Lists that grow by an element at the end.
use Rattle.std.proofs.Common.{◌≡◌, ℕ, zero, suc, ◌+◌, ◌<◌, ◌≤◌, Bool, true, false, cond, List, [], ◌∷◌, ◌++◌, length, get_or, take, arith, ap, sym, ◌∙◌, refl}
use Rattle.std.specs.Prelude.{filter, map}
use Rattle.std.specs.List.{enumerate_from, range_with_len}
use Rattle.std.proofs.lemmas.List.{append-nil, map-append, map_push, take_more, length-take-le}
use Rattle.std.proofs.lemmas.List.Elements.{filter-append}
use Rattle.std.proofs.lemmas.List.FromFn.{length-map-range_with_len, length-enumerate_from}
use Rattle.symmetry_classes.specs.Groups.{flagged_servers}
use Rattle.plan_model.proofs.NumberLemmas.{range_more}

-- one more element, at the end of a list that is known
pub pushed : {X : Type 0} {new old before after : List X} {x y : X} → new ≡ old ++ x ∷ [] → old ≡ before → x ≡ y → after ≡ before ++ y ∷ [] → new ≡ after
pushed {before = before} {x = x} n o e a = n ∙ ap (λ zs. zs ++ x ∷ []) o ∙ ap (λ z. before ++ z ∷ []) e ∙ sym a

pub enumerate_push : {X : Type 0} (n : ℕ) (xs : List X) (x : X) → enumerate_from n (xs ++ x ∷ []) ≡ enumerate_from n xs ++ (n + length xs, x) ∷ []
enumerate_push n [] x = ap (λ k. (k, x) ∷ []) (let none : n ≡ n + 0 = omega arith in none)
enumerate_push n (y ∷ ys) x =
    let next : n + 1 + length ys ≡ n + suc (length ys) = omega arith in
    ap (λ zs. (n, y) ∷ zs) (enumerate_push (n + 1) ys x ∙ ap (λ k. enumerate_from (n + 1) ys ++ (k, x) ∷ []) next)

filter-one : {X : Type 0} (p : X → Bool) (x : X) (b : Bool) → p x ≡ b → filter p (x ∷ []) ≡ cond b (x ∷ []) []
filter-one p x true e = ap (λ b. cond b (x ∷ []) []) e
filter-one p x false e = ap (λ b. cond b (x ∷ []) []) e

-- one more flag
pub flagged_push : (bs : List Bool) (b : Bool) → flagged_servers (bs ++ b ∷ []) ≡ flagged_servers bs ++ cond b (length bs ∷ []) []
flagged_push bs b =
    let numbered = enumerate_from 0 bs in
    let names : List (ℕ × Bool) → List ℕ = map (λ e. e.0) in
    let flag : ℕ × Bool → Bool = λ e. e.1 in
    let count : 0 + length bs ≡ length bs = omega arith in
    let step : (v : Bool) → names (cond v ((length bs, v) ∷ []) []) ≡ cond v (length bs ∷ []) [] =
    λ v. elim v as (λ u. names (cond u ((length bs, u) ∷ []) []) ≡ cond u (length bs ∷ []) []) [ true ↦ refl | false ↦ refl ] in
    ap (λ es. names (filter flag es)) (enumerate_push 0 bs b)
    ∙ ap names (filter-append flag numbered ((0 + length bs, b) ∷ []))
    ∙ map-append (λ e. e.0) (filter flag numbered) (filter flag ((0 + length bs, b) ∷ []))
    ∙ ap (λ k. flagged_servers bs ++ names (cond b ((k, b) ∷ []) [])) count
    ∙ ap (λ zs. flagged_servers bs ++ zs) (step b)

-- the flagged numbers, where the flags are a test of the numbers
pub flagged-range : (p : ℕ → Bool) (n : ℕ) → flagged_servers (map p (range_with_len 0 n)) ≡ filter p (range_with_len 0 n)
flagged-range p zero = refl
flagged-range p (suc n) =
    let next : suc n ≡ n + 1 = omega arith in
    let numbers = range_with_len 0 n in
    ap (λ k. flagged_servers (map p (range_with_len 0 k))) next
    ∙ ap (λ ns. flagged_servers (map p ns)) (range_more n)
    ∙ ap flagged_servers (map_push p numbers n)
    ∙ flagged_push (map p numbers) (p n)
    ∙ ap (λ k. flagged_servers (map p numbers) ++ cond (p n) (k ∷ []) []) (length-map-range_with_len p 0 n)
    ∙ ap (λ zs. zs ++ cond (p n) (n ∷ []) []) (flagged-range p n)
    ∙ ap (λ zs. filter p numbers ++ zs) (sym (filter-one p n (p n) refl))
    ∙ sym (filter-append p numbers (n ∷ []))
    ∙ ap (filter p) (sym (range_more n))
    ∙ ap (λ k. filter p (range_with_len 0 k)) (sym next)

flagged-more : (bs : List Bool) (i : ℕ) → i < length bs → flagged_servers (take (i + 1) bs) ≡ flagged_servers (take i bs) ++ cond (get_or bs i false) (i ∷ []) []
flagged-more bs i within =
    let some : i ≤ length bs = omega arith in
    ap flagged_servers (take_more bs i false within)
    ∙ flagged_push (take i bs) (get_or bs i false)
    ∙ ap (λ k. flagged_servers (take i bs) ++ cond (get_or bs i false) (k ∷ []) []) (length-take-le i bs some)

pub flagged-more_set : (bs : List Bool) (i : ℕ) → i < length bs → get_or bs i false ≡ true → flagged_servers (take (i + 1) bs) ≡ flagged_servers (take i bs) ++ i ∷ []
flagged-more_set bs i within e = flagged-more bs i within ∙ ap (λ b. flagged_servers (take i bs) ++ cond b (i ∷ []) []) e

pub flagged-more_clear : (bs : List Bool) (i : ℕ) → i < length bs → get_or bs i false ≡ false → flagged_servers (take (i + 1) bs) ≡ flagged_servers (take i bs)
flagged-more_clear bs i within e = flagged-more bs i within ∙ ap (λ b. flagged_servers (take i bs) ++ cond b (i ∷ []) []) e ∙ append-nil (flagged_servers (take i bs))

length-map_is : {X Y : Type 0} (f : X → Y) (xs : List X) → length (map f xs) ≡ length xs
length-map_is f [] = refl
length-map_is f (x ∷ xs) = ap suc (length-map_is f xs)

pub length-filter : {X : Type 0} (p : X → Bool) (xs : List X) → length (filter p xs) ≤ length xs
length-filter p [] = omega arith
length-filter p (x ∷ xs) =
    let rest = length-filter p xs in
    let step : (b : Bool) → length (cond b (x ∷ filter p xs) (filter p xs)) ≤ suc (length xs) =
    λ b. elim b as (λ v. length (cond v (x ∷ filter p xs) (filter p xs)) ≤ suc (length xs)) [ true ↦ omega (arith, rest) | false ↦ omega (arith, rest) ] in
    step (p x)

pub length-flagged : (bs : List Bool) → length (flagged_servers bs) ≤ length bs
length-flagged bs =
    let numbered = enumerate_from 0 bs in
    let flag : ℕ × Bool → Bool = λ e. e.1 in
    let name : ℕ × Bool → ℕ = λ e. e.0 in
    let named = length-map_is name (filter flag numbered) in
    let few = length-filter flag numbered in
    omega (arith, named, few, length-enumerate_from 0 bs)
