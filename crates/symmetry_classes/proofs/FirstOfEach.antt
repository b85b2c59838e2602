-- The first of each kind of element, and what stands with each, one element on.
use Rattle.std.proofs.Common.{◌≡◌, ℕ, suc, ◌+◌, ◌<◌, ◌≤◌, Bool, true, false, cond, List, [], ◌∷◌, ◌++◌, set, get_or, length, arith, ap, sym, ◌∙◌, refl, append-nil}
use Rattle.std.specs.Prelude.{filter, not, map, ◌||◌}
use Rattle.std.specs.List.{list_any, position_or_len, AllByRecursion}
use Rattle.std.specs.Cmp.{IsEquivalence}
use Rattle.std.proofs.lemmas.Map.Views.{any-filter_same}
use Rattle.std.proofs.lemmas.List.Elements.{filter-append}
use Rattle.std.proofs.lemmas.List.Sums.{length-filter, count_by-le-length}
use Rattle.symmetry_classes.specs.Groups.{first_of_each}

-- tests that give the same answers
pub any-same : {X : Type 0} (f g : X → Bool) → ((x : X) → f x ≡ g x) → (xs : List X) → list_any f xs ≡ list_any g xs
any-same f g same [] = refl
any-same f g same (x ∷ xs) = ap (λ b. b || list_any f xs) (same x) ∙ ap (λ b. g x || b) (any-same f g same xs)

pub any-map : {X Y : Type 0} (f : Y → Bool) (g : X → Bool) (h : X → Y) → ((x : X) → f (h x) ≡ g x) → (xs : List X) → list_any f (map h xs) ≡ list_any g xs
any-map f g h same [] = refl
any-map f g h same (x ∷ xs) = ap (λ b. b || list_any f (map h xs)) (same x) ∙ ap (λ b. g x || b) (any-map f g h same xs)

pub position-map : {X Y : Type 0} (f : Y → Bool) (g : X → Bool) (h : X → Y) → ((x : X) → f (h x) ≡ g x) → (xs : List X)
    → position_or_len f (map h xs) ≡ position_or_len g xs
position-map f g h same [] = refl
position-map f g h same (x ∷ xs) =
    ap (λ b. cond (not b) (1 + position_or_len f (map h xs)) 0) (same x) ∙ ap (λ n. cond (not (g x)) (1 + n) 0) (position-map f g h same xs)

-- a filter that passes none
pub none-passes : {X : Type 0} (p : X → Bool) (xs : List X) → list_any p xs ≡ false → filter p xs ≡ []
none-passes p [] none = refl
none-passes p (x ∷ xs) none =
    let step : (b : Bool) → (b || list_any p xs) ≡ false → cond b (x ∷ filter p xs) (filter p xs) ≡ [] =
    λ b. elim b as (λ v. (v || list_any p xs) ≡ false → cond v (x ∷ filter p xs) (filter p xs) ≡ []) [ true ↦ (λ h. cc) | false ↦ (λ h. none-passes p xs h) ] in
    step (p x) none

pub none-pass : {X : Type 0} (p : X → Bool) (xs : List X) → list_any p xs ≡ false → AllByRecursion (λ x. p x ≡ false) xs
none-pass p [] none = tt
none-pass p (x ∷ xs) none =
    let step : (b : Bool) → p x ≡ b → (b || list_any p xs) ≡ false → AllByRecursion (λ y. p y ≡ false) (x ∷ xs) =
    λ b. elim b as (λ v. p x ≡ v → (v || list_any p xs) ≡ false → AllByRecursion (λ y. p y ≡ false) (x ∷ xs))
    [ true ↦ (λ e h. cc) | false ↦ (λ e h. (e, none-pass p xs h)) ] in
    step (p x) refl none

-- one element more, which passes or not
pub filter-push : {X : Type 0} (p : X → Bool) (xs : List X) (y : X) → filter p (xs ++ y ∷ []) ≡ filter p xs ++ cond (p y) (y ∷ []) []
filter-push p xs y = filter-append p xs (y ∷ [])

filter-cond_no : {X : Type 0} (p : X → Bool) (fs : List X) (y : X) (b : Bool) → p y ≡ false → filter p (cond b fs (fs ++ y ∷ [])) ≡ filter p fs
filter-cond_no p fs y true fails = refl
filter-cond_no p fs y false fails = filter-push p fs y ∙ ap (λ b. filter p fs ++ cond b (y ∷ []) []) fails ∙ append-nil (filter p fs)

filter-cond_yes : {X : Type 0} (p : X → Bool) (fs : List X) (y : X) (b : Bool) → p y ≡ true
    → filter p (cond b fs (fs ++ y ∷ [])) ≡ cond b (filter p fs) (filter p fs ++ y ∷ [])
filter-cond_yes p fs y true passes = refl
filter-cond_yes p fs y false passes = filter-push p fs y ∙ ap (λ b. filter p fs ++ cond b (y ∷ []) []) passes

cons-cond : {X : Type 0} (x : X) (ys zs : List X) (b : Bool) → x ∷ cond b ys zs ≡ cond b (x ∷ ys) (x ∷ zs)
cons-cond x ys zs true = refl
cons-cond x ys zs false = refl

-- a list that is changed at the first element that passes, where one does and no other does
pub record Changes {X Y : Type 0} (test : X → Bool) (before after : X → Y) (changed : Y → Y) : Type 0 where
  pub here : (x : X) → test x ≡ true → after x ≡ changed (before x)
  pub others : (x : X) → test x ≡ false → after x ≡ before x

pub map-others : {X Y : Type 0} (test : X → Bool) (before after : X → Y) (changed : Y → Y) → Changes test before after changed
    → (xs : List X) → AllByRecursion (λ x. test x ≡ false) xs → map after xs ≡ map before xs
map-others test before after changed ch [] none = refl
map-others test before after changed ch (x ∷ xs) none =
    ap (λ y. y ∷ map after xs) (ch.others x none.0) ∙ ap (λ ys. before x ∷ ys) (map-others test before after changed ch xs none.1)

-- no two elements are the same
abbrev pub AreApart : {X : Type 0} → (X → X → Bool) → List X → Type 0
AreApart same [] = Unit {0}
AreApart same (x ∷ xs) = AllByRecursion (λ y. same x y ≡ false) xs × AreApart same xs

-- at most one element passes
abbrev pub PassOnce : {X : Type 0} → (X → Bool) → List X → Type 0
PassOnce test [] = Unit {0}
PassOnce test (x ∷ xs) = (test x ≡ true → AllByRecursion (λ y. test y ≡ false) xs) × PassOnce test xs

pub map-changes : {X Y : Type 0} (test : X → Bool) (before after : X → Y) (changed : Y → Y) → Changes test before after changed
    → (xs : List X) (d : Y) → PassOnce test xs → list_any test xs ≡ true
    → (position_or_len test xs < length xs)
    × (map after xs ≡ set (map before xs) (position_or_len test xs) (changed (get_or (map before xs) (position_or_len test xs) d)))
map-changes test before after changed ch [] d once some = cc
map-changes {X} {Y} test before after changed ch (x ∷ xs) d once some =
    let goal-at : Bool → Type 0 = λ b.
    let at = cond (not b) (1 + position_or_len test xs) 0 in
    (at < suc (length xs)) × (after x ∷ map after xs ≡ set (before x ∷ map before xs) at (changed (get_or (before x ∷ map before xs) at d))) in
    let step : (b : Bool) → test x ≡ b → (b || list_any test xs) ≡ true → goal-at b =
    λ b. elim b as (λ v. test x ≡ v → (v || list_any test xs) ≡ true → goal-at v) [
      | true ↦ (λ e h. (omega arith, ap (λ y. y ∷ map after xs) (ch.here x e) ∙ ap (λ ys. changed (before x) ∷ ys) (map-others test before after changed ch xs (once.0 e))))
      | false ↦ (λ e h.
          let rest = map-changes test before after changed ch xs d once.1 h in
          let at-place : ℕ → List Y = λ k. set (before x ∷ map before xs) k (changed (get_or (before x ∷ map before xs) k d)) in
          let one : 1 + position_or_len test xs ≡ suc (position_or_len test xs) = omega arith in
          (omega (arith, rest.0), ap (λ y. y ∷ map after xs) (ch.others x e) ∙ ap (λ ys. before x ∷ ys) rest.1 ∙ sym (ap at-place one)))
    ] in
    step (test x) refl some

-- whether an element is like one of a list
abbrev pub is_like : {X : Type 0} → (X → X → Bool) → X → List X → Bool
is_like same y xs = list_any (λ x. same x y) xs

module _ {X : Type 0} (same : X → X → Bool) (eqv : IsEquivalence same) where
  is_like-others : (x y : X) → same x y ≡ false → (zs : List X) → is_like same y (filter (λ z. not (same x z)) zs) ≡ is_like same y zs
  is_like-others x y apart zs =
      any-filter_same (λ z. same z y) (λ z. not (same x z)) true
      (λ z like. let far : same x z ≡ false = eqv.symm x z ∙ eqv.congr z y x like ∙ eqv.symm y x ∙ apart in ap not far) zs

  -- the first of each kind are as many kinds as there are
  pub is_like-first : (y : X) (xs : List X) → is_like same y (first_of_each same xs) ≡ is_like same y xs
  is_like-first y [] = refl
  is_like-first y (x ∷ xs) =
      let step : (b : Bool) → same x y ≡ b → (b || is_like same y (filter (λ z. not (same x z)) (first_of_each same xs))) ≡ (b || is_like same y xs) =
      λ b. elim b as (λ v. same x y ≡ v → (v || is_like same y (filter (λ z. not (same x z)) (first_of_each same xs))) ≡ (v || is_like same y xs))
      [ true ↦ (λ e. refl) | false ↦ (λ e. is_like-others x y e (first_of_each same xs) ∙ is_like-first y xs) ] in
      step (same x y) refl

  -- one element more is the first of its kind, or not
  first-here : (x y : X) (fs gs : List X) (b : Bool) → same x y ≡ b → gs ≡ cond (is_like same y fs) fs (fs ++ y ∷ [])
      → x ∷ filter (λ z. not (same x z)) gs
      ≡ cond (b || is_like same y (filter (λ z. not (same x z)) fs)) (x ∷ filter (λ z. not (same x z)) fs) (x ∷ filter (λ z. not (same x z)) fs ++ y ∷ [])
  first-here x y fs gs true e more =
      let no : not (same x y) ≡ false = ap not e in
      ap (λ zs. x ∷ filter (λ z. not (same x z)) zs) more ∙ ap (λ zs. x ∷ zs) (filter-cond_no (λ z. not (same x z)) fs y (is_like same y fs) no)
  first-here x y fs gs false e more =
      let yes : not (same x y) ≡ true = ap not e in
      let kept = filter (λ z. not (same x z)) fs in
      ap (λ zs. x ∷ filter (λ z. not (same x z)) zs) more
      ∙ ap (λ zs. x ∷ zs) (filter-cond_yes (λ z. not (same x z)) fs y (is_like same y fs) yes)
      ∙ cons-cond x kept (kept ++ y ∷ []) (is_like same y fs)
      ∙ ap (λ b. cond b (x ∷ kept) (x ∷ kept ++ y ∷ [])) (sym (is_like-others x y e fs))

  pub first-push : (xs : List X) (y : X)
      → first_of_each same (xs ++ y ∷ []) ≡ cond (is_like same y (first_of_each same xs)) (first_of_each same xs) (first_of_each same xs ++ y ∷ [])
  first-push [] y = refl
  first-push (x ∷ xs) y = first-here x y (first_of_each same xs) (first_of_each same (xs ++ y ∷ [])) (same x y) refl (first-push xs y)

  pub length-first : (xs : List X) → length (first_of_each same xs) ≤ length xs
  length-first [] = omega arith
  length-first (x ∷ xs) =
      omega (arith, length-first xs, length-filter (λ z. not (same x z)) (first_of_each same xs), count_by-le-length (λ z. not (same x z)) (first_of_each same xs))

  -- no two of them are of one kind
  filter-distinct_head : (x : X) (p : X → Bool) (zs : List X) → AllByRecursion (λ y. same x y ≡ false) zs → AllByRecursion (λ y. same x y ≡ false) (filter p zs)
  filter-distinct_head x p [] all = all
  filter-distinct_head x p (z ∷ zs) all =
      let rest = filter-distinct_head x p zs all.1 in
      let step : (b : Bool) → AllByRecursion (λ y. same x y ≡ false) (cond b (z ∷ filter p zs) (filter p zs)) =
      λ b. elim b as (λ v. AllByRecursion (λ y. same x y ≡ false) (cond v (z ∷ filter p zs) (filter p zs))) [ true ↦ (all.0, rest) | false ↦ rest ] in
      step (p z)

  filter-distinct : (p : X → Bool) (zs : List X) → AreApart same zs → AreApart same (filter p zs)
  filter-distinct p [] all = all
  filter-distinct p (z ∷ zs) all =
      let rest = filter-distinct p zs all.1 in
      let step : (b : Bool) → AreApart same (cond b (z ∷ filter p zs) (filter p zs)) =
      λ b. elim b as (λ v. AreApart same (cond v (z ∷ filter p zs) (filter p zs))) [ true ↦ (filter-distinct_head z p zs all.0, rest) | false ↦ rest ] in
      step (p z)

  others-apart : (x : X) (zs : List X) → AllByRecursion (λ y. same x y ≡ false) (filter (λ z. not (same x z)) zs)
  others-apart x [] = tt
  others-apart x (z ∷ zs) =
      let rest = others-apart x zs in
      let step : (b : Bool) → same x z ≡ b → AllByRecursion (λ y. same x y ≡ false) (cond (not b) (z ∷ filter (λ y. not (same x y)) zs) (filter (λ y. not (same x y)) zs)) =
      λ b. elim b as (λ v. same x z ≡ v → AllByRecursion (λ y. same x y ≡ false) (cond (not v) (z ∷ filter (λ y. not (same x y)) zs) (filter (λ y. not (same x y)) zs)))
      [ true ↦ (λ e. rest) | false ↦ (λ e. (e, rest)) ] in
      step (same x z) refl

  pub first-distinct : (xs : List X) → AreApart same (first_of_each same xs)
  first-distinct [] = tt
  first-distinct (x ∷ xs) =
      (others-apart x (first_of_each same xs), filter-distinct (λ z. not (same x z)) (first_of_each same xs) (first-distinct xs))

  -- so at most one of them is like an element
  far-from : (f y : X) → same f y ≡ true → (zs : List X) → AllByRecursion (λ z. same f z ≡ false) zs → AllByRecursion (λ z. same z y ≡ false) zs
  far-from f y like [] all = tt
  far-from f y like (z ∷ zs) all =
      let far : same z y ≡ false = eqv.symm z y ∙ sym (eqv.congr f y z like) ∙ all.0 in
      (far, far-from f y like zs all.1)

  like-once : (y : X) (zs : List X) → AreApart same zs → PassOnce (λ z. same z y) zs
  like-once y [] all = tt
  like-once y (z ∷ zs) all = (λ like. far-from z y like zs all.0, like-once y zs all.1)

  pub first-once : (y : X) (xs : List X) → PassOnce (λ z. same z y) (first_of_each same xs)
  first-once y xs = like-once y (first_of_each same xs) (first-distinct xs)
