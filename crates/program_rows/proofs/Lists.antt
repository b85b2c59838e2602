-- What holds of each element of a list that is made of others.
use Rattle.std.proofs.Common.{◌≡◌, ℕ, ◌+◌, ◌<◌, ◌≤◌, Bool, true, false, cond, List, [], ◌∷◌, ◌++◌, length, arith, ap, sym, ◌∙◌, refl, Some, All, zero-add, subst, zero, suc}
use Rattle.std.specs.Prelude.{filter, map, flat_map, slice_get}
use Rattle.std.specs.List.{enumerate_from, range_with_len}
use Rattle.std.proofs.lemmas.List.{append_assoc, length_push}
use Rattle.std.proofs.lemmas.List.Elements.{All-nil, All-cons, All-head, All-tail, All-append, All-from_get_or, All-get_or}
use Rattle.std.proofs.lemmas.List.FromFn.{length-range_with_len, get_or-range_with_len}
use Rattle.plan_model.specs.Costs.{greatest}
use Rattle.program_rows.proofs.ListSums.{slice_get_at}

pub All-map_to : {X Y : Type 0} (P : Y → Type 0) (h : X → Y) (xs : List X) → All (λ x. P (h x)) xs → All P (map h xs)
All-map_to P h [] a = All-nil P
All-map_to P h (x ∷ xs) a = All-cons P (h x) (map h xs) (All-head (λ y. P (h y)) x xs a) (All-map_to P h xs (All-tail (λ y. P (h y)) x xs a))

pub All-map_from : {X Y : Type 0} (P : Y → Type 0) (h : X → Y) (xs : List X) → All P (map h xs) → All (λ x. P (h x)) xs
All-map_from P h [] a = All-nil (λ y. P (h y))
All-map_from P h (x ∷ xs) a = All-cons (λ y. P (h y)) x xs (All-head P (h x) (map h xs) a) (All-map_from P h xs (All-tail P (h x) (map h xs) a))

pub All-append_from : {X : Type 0} (P : X → Type 0) (xs ys : List X) → All P (xs ++ ys) → All P xs × All P ys
All-append_from P [] ys a = (All-nil P, a)
All-append_from P (x ∷ xs) ys a =
    let rest = All-append_from P xs ys (All-tail P x (xs ++ ys) a) in
    (All-cons P x xs (All-head P x (xs ++ ys) a) rest.0, rest.1)

pub All-flat_map_to : {X Y : Type 0} (P : Y → Type 0) (h : X → List Y) (xs : List X) → All (λ x. All P (h x)) xs → All P (flat_map h xs)
All-flat_map_to P h [] a = All-nil P
All-flat_map_to P h (x ∷ xs) a =
    All-append P (h x) (flat_map h xs) (All-head (λ y. All P (h y)) x xs a) (All-flat_map_to P h xs (All-tail (λ y. All P (h y)) x xs a))

pub All-flat_map_from : {X Y : Type 0} (P : Y → Type 0) (h : X → List Y) (xs : List X) → All P (flat_map h xs) → All (λ x. All P (h x)) xs
All-flat_map_from P h [] a = All-nil (λ y. All P (h y))
All-flat_map_from P h (x ∷ xs) a =
    let parts = All-append_from P (h x) (flat_map h xs) a in
    All-cons (λ y. All P (h y)) x xs parts.0 (All-flat_map_from P h xs parts.1)

filter-one_to : {X : Type 0} (P : X → Type 0) (b : Bool) (x : X) (xs : List X) → (b ≡ true → P x) → All P xs → All P (cond b (x ∷ xs) xs)
filter-one_to P true x xs h a = All-cons P x xs (h refl) a
filter-one_to P false x xs h a = a

filter-one_from : {X : Type 0} (P : X → Type 0) (b : Bool) (x : X) (xs : List X) → All P (cond b (x ∷ xs) xs) → (b ≡ true → P x) × All P xs
filter-one_from P true x xs a = (λ _. All-head P x xs a, All-tail P x xs a)
filter-one_from P false x xs a = (λ e. cc, a)

pub All-filter_to : {X : Type 0} (P : X → Type 0) (p : X → Bool) (xs : List X) → All (λ x. p x ≡ true → P x) xs → All P (filter p xs)
All-filter_to P p [] a = All-nil P
All-filter_to P p (x ∷ xs) a =
    filter-one_to P (p x) x (filter p xs) (All-head (λ y. p y ≡ true → P y) x xs a) (All-filter_to P p xs (All-tail (λ y. p y ≡ true → P y) x xs a))

pub All-filter_from : {X : Type 0} (P : X → Type 0) (p : X → Bool) (xs : List X) → All P (filter p xs) → All (λ x. p x ≡ true → P x) xs
All-filter_from P p [] a = All-nil (λ y. p y ≡ true → P y)
All-filter_from P p (x ∷ xs) a =
    let parts = filter-one_from P (p x) x (filter p xs) a in
    All-cons (λ y. p y ≡ true → P y) x xs parts.0 (All-filter_from P p xs parts.1)

-- a list that is there where a test holds
pub All-if_to : {X : Type 0} (P : X → Type 0) (b : Bool) (xs : List X) → (b ≡ true → All P xs) → All P (cond b xs [])
All-if_to P true xs h = h refl
All-if_to P false xs h = All-nil P

pub All-if_from : {X : Type 0} (P : X → Type 0) (b : Bool) (xs : List X) → All P (cond b xs []) → b ≡ true → All P xs
All-if_from P true xs a e = a
All-if_from P false xs a e = cc

pub All-range_to : (P : ℕ → Type 0) (n : ℕ) → ((r : ℕ) → r < n → P r) → All P (range_with_len 0 n)
All-range_to P n h =
    All-from_get_or P (range_with_len 0 n) 0
    (λ i inside. let within : i < n = omega (arith, length-range_with_len 0 n) in
    subst P (sym (get_or-range_with_len 0 n i 0 within ∙ zero-add i)) (h i within))

pub All-range_from : (P : ℕ → Type 0) (n : ℕ) → All P (range_with_len 0 n) → (r : ℕ) → r < n → P r
All-range_from P n a r within =
    let inside : r < length (range_with_len 0 n) = omega (arith, length-range_with_len 0 n) in
    subst P (get_or-range_with_len 0 n r 0 within ∙ zero-add r) (All-get_or P (range_with_len 0 n) r 0 inside a)

enumerate-all : {X : Type 0} (P : ℕ × X → Type 0) (all before ys : List X) (n : ℕ) → before ++ ys ≡ all → length before ≡ n
    → ((i : ℕ) (x : X) → slice_get all i ≡ Some x → P (i, x)) → All P (enumerate_from n ys)
enumerate-all P all before [] n e l h = All-nil P
enumerate-all P all before (y ∷ ys) n e l h =
    let read : slice_get all n ≡ Some y = ap (λ zs. slice_get zs n) (sym e) ∙ slice_get_at before y ys n l in
    All-cons P (n, y) (enumerate_from (n + 1) ys) (h n y read)
    (enumerate-all P all (before ++ y ∷ []) ys (n + 1) (append_assoc before (y ∷ []) ys ∙ e) (length_push before y ∙ ap (λ k. k + 1) l) h)

pub All-enumerate_to : {X : Type 0} (P : ℕ × X → Type 0) (xs : List X) → ((i : ℕ) (x : X) → slice_get xs i ≡ Some x → P (i, x)) → All P (enumerate_from 0 xs)
All-enumerate_to P xs h = enumerate-all P xs [] xs 0 refl refl h

enumerate-at : {X : Type 0} (P : ℕ × X → Type 0) (xs : List X) (n i : ℕ) (x : X) → All P (enumerate_from n xs) → slice_get xs i ≡ Some x → P (n + i, x)
enumerate-at P [] n i x a h = cc
enumerate-at P (y ∷ ys) n zero x a h =
    let same : y ≡ x = cc in
    let at : n ≡ n + 0 = omega arith in
    subst (λ k. P (k, x)) at (subst (λ z. P (n, z)) same (All-head P (n, y) (enumerate_from (n + 1) ys) a))
enumerate-at P (y ∷ ys) n (suc i) x a h =
    let at : n + 1 + i ≡ n + suc i = omega arith in
    subst (λ k. P (k, x)) at (enumerate-at P ys (n + 1) i x (All-tail P (n, y) (enumerate_from (n + 1) ys) a) h)

pub All-enumerate_from : {X : Type 0} (P : ℕ × X → Type 0) (xs : List X) → All P (enumerate_from 0 xs) → (i : ℕ) (x : X) → slice_get xs i ≡ Some x → P (i, x)
All-enumerate_from P xs a i x h = subst (λ k. P (k, x)) (zero-add i) (enumerate-at P xs 0 i x a h)

pub all-at : {X : Type 0} (P : X → Type 0) (cs : List X) → All P cs → (j : ℕ) (c : X) → slice_get cs j ≡ Some c → P c
all-at P [] a j c h = cc
all-at P (d ∷ ds) a zero c h = let same : d ≡ c = cc in subst P same (All-head P d ds a)
all-at P (d ∷ ds) a (suc j) c h = all-at P ds (All-tail P d ds a) j c h

pub length_map : {X Y : Type 0} (f : X → Y) (xs : List X) → length (map f xs) ≡ length xs
length_map f [] = refl
length_map f (x ∷ xs) = ap suc (length_map f xs)

pub greatest-most : (m : ℕ) (f : ℕ → ℕ) (xs : List ℕ) → All (λ x. f x ≤ m) xs → greatest (map f xs) ≤ m
greatest-most m f [] a = omega arith
greatest-most m f (x ∷ xs) a =
    let here = All-head (λ y. f y ≤ m) x xs a in
    let rest = greatest-most m f xs (All-tail (λ y. f y ≤ m) x xs a) in
    omega (arith, here, rest)
