-- One step of a loop that maps and filters a list.
use Rattle.std.proofs.Common.{◌≡◌, ℕ, ◌+◌, ◌<◌, ◌≤◌, Bool, true, false, cond, List, [], ◌∷◌, ◌++◌, length, get_or, take, arith, ap, sym, ◌∙◌, Some, None}
use Rattle.std.specs.Prelude.{filter, map, flat_map}
use Rattle.std.specs.List.{enumerate_from}
use Rattle.std.proofs.lemmas.List.{append-nil, append_assoc, map-append, take_more, take_all, length-take-le, length-append, length-map}
use Rattle.std.proofs.lemmas.List.Concat.{flat_map-append}
use Rattle.std.proofs.lemmas.List.Elements.{filter_more, filter-append}
use Rattle.std.specs.Prelude.{nat_lt, Option}
use Rattle.plan_model.specs.declared.cases.Case.{Case}
use Rattle.plan_model.specs.Units.{value_for}
use Rattle.symmetry_classes.specs.declared.groups.Class.{Class}
use Rattle.program_rows.specs.Programs.{count_column}
use Rattle.program_rows.specs.Reach.{columns_of_class}
use Rattle.program_rows.proofs.Pushes.{enumerate_push}

-- an element that passes
pub passes-more : {X Y : Type 0} (g : X → Y) (p : X → Bool) (xs : List X) (i : ℕ) (d : X) → i < length xs → p (get_or xs i d) ≡ true
    → map g (filter p (take (i + 1) xs)) ≡ map g (filter p (take i xs)) ++ g (get_or xs i d) ∷ []
passes-more g p xs i d within e =
    ap (map g) (filter_more p xs i d within ∙ ap (λ b. filter p (take i xs) ++ cond b (get_or xs i d ∷ []) []) e)
    ∙ map-append g (filter p (take i xs)) (get_or xs i d ∷ [])

-- one that does not
pub fails-more : {X Y : Type 0} (g : X → Y) (p : X → Bool) (xs : List X) (i : ℕ) (d : X) → i < length xs → p (get_or xs i d) ≡ false
    → map g (filter p (take (i + 1) xs)) ≡ map g (filter p (take i xs))
fails-more g p xs i d within e =
    ap (map g) (filter_more p xs i d within ∙ ap (λ b. filter p (take i xs) ++ cond b (get_or xs i d ∷ []) []) e ∙ append-nil (filter p (take i xs)))

pub map-more : {X Y : Type 0} (g : X → Y) (xs : List X) (i : ℕ) (d : X) → i < length xs → map g (take (i + 1) xs) ≡ map g (take i xs) ++ g (get_or xs i d) ∷ []
map-more g xs i d within = ap (map g) (take_more xs i d within) ∙ map-append g (take i xs) (get_or xs i d ∷ [])

pub flat-more : {X Y : Type 0} (f : X → List Y) (xs : List X) (i : ℕ) (d : X) → i < length xs → flat_map f (take (i + 1) xs) ≡ flat_map f (take i xs) ++ f (get_or xs i d)
flat-more f xs i d within =
    ap (flat_map f) (take_more xs i d within) ∙ flat_map-append f (take i xs) (get_or xs i d ∷ [])
    ∙ ap (λ ys. flat_map f (take i xs) ++ ys) (append-nil (f (get_or xs i d)))

-- the same over numbered elements
pub enumerate-more : {X : Type 0} (xs : List X) (i : ℕ) (d : X) → i < length xs → enumerate_from 0 (take (i + 1) xs) ≡ enumerate_from 0 (take i xs) ++ (i, get_or xs i d) ∷ []
enumerate-more xs i d within =
    let some : i ≤ length xs = omega arith in
    let count : 0 + length (take i xs) ≡ i = omega (arith, length-take-le i xs some) in
    ap (enumerate_from 0) (take_more xs i d within) ∙ enumerate_push 0 (take i xs) (get_or xs i d)
    ∙ ap (λ k. enumerate_from 0 (take i xs) ++ (k, get_or xs i d) ∷ []) count

pub numbered-more : {X Y : Type 0} (f : ℕ × X → List Y) (xs : List X) (i : ℕ) (d : X) → i < length xs
    → flat_map f (enumerate_from 0 (take (i + 1) xs)) ≡ flat_map f (enumerate_from 0 (take i xs)) ++ f (i, get_or xs i d)
numbered-more f xs i d within =
    ap (flat_map f) (enumerate-more xs i d within) ∙ flat_map-append f (enumerate_from 0 (take i xs)) ((i, get_or xs i d) ∷ [])
    ∙ ap (λ ys. flat_map f (enumerate_from 0 (take i xs)) ++ ys) (append-nil (f (i, get_or xs i d)))

-- the end of a loop
pub at-end : {X Y : Type 0} (f : List X → Y) (xs : List X) (n : ℕ) → length xs ≤ n → f (take n xs) ≡ f xs
at-end f xs n past = ap f (take_all n xs past)

-- what was there before, and a step after what a loop has added so far
pub appended : {X : Type 0} (now before added step : List X) {new after : List X} → new ≡ now ++ step → now ≡ before ++ added → after ≡ added ++ step → new ≡ before ++ after
appended now before added step n o a =
    n ∙ ap (λ xs. xs ++ step) o ∙ append_assoc before added step ∙ ap (λ xs. before ++ xs) (sym a)

filter-one : {X : Type 0} (p : X → Bool) (x : X) (b : Bool) → p x ≡ b → filter p (x ∷ []) ≡ cond b (x ∷ []) []
filter-one p x true e = ap (λ b. cond b (x ∷ []) []) e
filter-one p x false e = ap (λ b. cond b (x ∷ []) []) e

pub numbered-filter : {X : Type 0} (p : ℕ × X → Bool) (xs : List X) (i : ℕ) (d : X) (b : Bool) → i < length xs → p (i, get_or xs i d) ≡ b
    → filter p (enumerate_from 0 (take (i + 1) xs)) ≡ filter p (enumerate_from 0 (take i xs)) ++ cond b ((i, get_or xs i d) ∷ []) []
numbered-filter p xs i d b within e =
    ap (filter p) (enumerate-more xs i d within) ∙ filter-append p (enumerate_from 0 (take i xs)) ((i, get_or xs i d) ∷ [])
    ∙ ap (λ ys. filter p (enumerate_from 0 (take i xs)) ++ ys) (filter-one p (i, get_or xs i d) b e)

-- a numbered element that passes
pub numbered-passes : {X Y : Type 0} (g : ℕ × X → Y) (p : ℕ × X → Bool) (xs : List X) (i : ℕ) (d : X) → i < length xs → p (i, get_or xs i d) ≡ true
    → map g (filter p (enumerate_from 0 (take (i + 1) xs))) ≡ map g (filter p (enumerate_from 0 (take i xs))) ++ g (i, get_or xs i d) ∷ []
numbered-passes g p xs i d within e =
    ap (map g) (numbered-filter p xs i d true within e) ∙ map-append g (filter p (enumerate_from 0 (take i xs))) ((i, get_or xs i d) ∷ [])

-- and one that does not
pub numbered-fails : {X Y : Type 0} (g : ℕ × X → Y) (p : ℕ × X → Bool) (xs : List X) (i : ℕ) (d : X) → i < length xs → p (i, get_or xs i d) ≡ false
    → map g (filter p (enumerate_from 0 (take (i + 1) xs))) ≡ map g (filter p (enumerate_from 0 (take i xs)))
numbered-fails g p xs i d within e =
    ap (map g) (numbered-filter p xs i d false within e ∙ append-nil (filter p (enumerate_from 0 (take i xs))))

-- a class has a column for each destination, and one for none
pub length-class_columns : (case : Case) (active : List ℕ) (c : ℕ × Class)
    → length (columns_of_class case active c) ≡ length (filter (λ r. nat_lt 0 (value_for case r c.1.kind)) active) + 1
length-class_columns case active c =
    let some = filter (λ r. nat_lt 0 (value_for case r c.1.kind)) active in
    let named : List (Option ℕ) = map (λ r. Some r) some in
    let first = length-map (named ++ None ∷ []) (count_column case c) in
    let second = length-append named (None ∷ []) in
    let third = length-map {B = Option ℕ} some (λ r. Some r) in
    omega (arith, first, second, third)
