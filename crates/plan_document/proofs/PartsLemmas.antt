-- What the loop over the servers keeps.
use Rattle.std.proofs.Common.{ℕ, ◌≡◌, ◌∙◌, ◌+◌, sym, ap, List, [], ◌∷◌, ◌++◌, map, drop, Some, append_assoc}
use Rattle.std.specs.Prelude.{slice_get}
use Rattle.std.proofs.lemmas.Option.{slice_get_within, get_or_from_slice_get}
use Rattle.plan_document.proofs.NumbersLemmas.{drop-next}

pub mapped-step : {X Y : Type 0} (f : X → Y) (found : List Y) (xs : List X) (n : ℕ) (x : X) (y : Y) (all : List Y) → slice_get xs n ≡ Some x → y ≡ f x
    → found ++ map f (drop n xs) ≡ all → (found ++ y ∷ []) ++ map f (drop (n + 1) xs) ≡ all
mapped-step f found xs n x y all at is so =
    let rest = map f (drop (n + 1) xs) in
    append_assoc found (y ∷ []) rest
    ∙ (ap (λ z. found ++ z ∷ rest) is
    ∙ (ap (λ z. found ++ f z ∷ rest) (sym (get_or_from_slice_get xs n x x at))
    ∙ (ap (λ l. found ++ map f l) (sym (drop-next n xs x (slice_get_within xs n x at))) ∙ so)))
