-- Flags that are set one by one.
use Rattle.std.proofs.Common.{◌≡◌, ◌≢◌, ℕ, ◌+◌, ◌<◌, Bool, true, false, List, length, get_or, set, take, arith, ap, sym, ◌∙◌, refl}
use Rattle.std.specs.Prelude.{◌==◌, ◌||◌}
use Rattle.std.specs.List.{list_any}
use Rattle.std.proofs.lemmas.List.{get_or-set_same, get_or-set_other}
use Rattle.std.proofs.lemmas.List.Folds.{list_any_more}
use Rattle.std.proofs.lemmas.Bool.{eqb-true}
use Rattle.std.proofs.lemmas.Bool.Decides.{nat_tests}

or-true : (b c : Bool) → c ≡ true → (b || c) ≡ true
or-true true c f = refl
or-true false c f = f

or-none : (b c : Bool) → c ≡ false → (b || c) ≡ b
or-none true c f = refl
or-none false c f = f

put-by : (fs : List Bool) (j k : ℕ) (b : Bool) → k < length fs → (j == k) ≡ b → (old : Bool) → get_or fs k false ≡ old → get_or (set fs j true) k false ≡ (old || b)
put-by fs j k true within e old o =
    let same : j ≡ k = eqb-true j k e in
    ap (λ n. get_or (set fs n true) k false) same ∙ get_or-set_same fs k true false within ∙ sym (or-true old true refl)
put-by fs j k false within e old o =
    let other : k ≢ j = grind (arith, nat_tests, e) in
    get_or-set_other fs j k true false other ∙ o ∙ sym (or-none old false refl)

module _ {X : Type 0} (fs : List Bool) (n : ℕ) (t : ℕ → X → Bool) (xs : List X) (i : ℕ) (d : X) (within : i < length xs) (long : length fs ≡ n)
    (before : (k : ℕ) → k < n → get_or fs k false ≡ list_any (t k) (take i xs)) where
  -- the element passes for the one number whose flag is set
  pub marks-put : (j : ℕ) → ((k : ℕ) → t k (get_or xs i d) ≡ (j == k)) → (k : ℕ) → k < n → get_or (set fs j true) k false ≡ list_any (t k) (take (i + 1) xs)
  marks-put j passes k below =
      let inside : k < length fs = omega (arith, long, below) in
      put-by fs j k (j == k) inside refl (list_any (t k) (take i xs)) (before k below)
      ∙ ap (λ b. list_any (t k) (take i xs) || b) (sym (passes k)) ∙ sym (list_any_more (t k) xs i d within)

  -- the element passes for none
  pub marks-keep : ((k : ℕ) → t k (get_or xs i d) ≡ false) → (k : ℕ) → k < n → get_or fs k false ≡ list_any (t k) (take (i + 1) xs)
  marks-keep fails k below =
      before k below ∙ sym (or-none (list_any (t k) (take i xs)) (t k (get_or xs i d)) (fails k)) ∙ sym (list_any_more (t k) xs i d within)
