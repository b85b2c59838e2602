-- A number past a list's end names nothing.
use Rattle.std.proofs.Common.{ℕ, zero, suc, ◌≡◌, refl, List, [], ◌∷◌, map, slice_get, slice_index_or, None}

pub none-map : {X : Type 0} (f : X → List ℕ) (xs : List X) (i : ℕ) → None ≡ slice_get xs i → None ≡ slice_get (map f xs) i
none-map f [] zero h = refl
none-map f [] (suc i) h = refl
none-map f (x ∷ xs) zero h = absurd cc
none-map f (x ∷ xs) (suc i) h = none-map f xs i h

pub past-end : (names : List (List ℕ)) (i : ℕ) → None ≡ slice_get names i → slice_index_or names i [] ≡ []
past-end [] zero h = refl
past-end [] (suc i) h = refl
past-end (x ∷ xs) zero h = absurd cc
past-end (x ∷ xs) (suc i) h = past-end xs i h
