-- The servers after a round, one on.
use Rattle.std.proofs.Common.{◌≡◌, ℕ, suc, zero, ◌+◌, ◌<◌, List, [], ◌∷◌, ◌++◌, length, get_or, map, take, arith, ap, ◌∙◌, refl}
use Rattle.std.specs.Prelude.{zip}
use Rattle.plan_model.specs.declared.cases.Place.{Place}
use Rattle.plan_model.specs.Units.{no_place}
use Rattle.online_mover.specs.declared.stands.Server.{Server}
use Rattle.online_mover.specs.States.{no_server}
use Rattle.ras_rounds.specs.Rounds.{placed_after}

more-suc : (xs : List Place) (ys : List Server) (i : ℕ) → i < length xs → i < length ys
    → map placed_after (take (suc i) (zip xs ys)) ≡ map placed_after (take i (zip xs ys)) ++ placed_after (get_or xs i no_place, get_or ys i no_server) ∷ []
more-suc [] ys i h k = absurd (omega (arith, h))
more-suc (x ∷ xs) [] i h k = absurd (omega (arith, k))
more-suc (x ∷ xs) (y ∷ ys) zero h k = refl
more-suc (x ∷ xs) (y ∷ ys) (suc i) h k = ap (λ zs. placed_after (x, y) ∷ zs) (more-suc xs ys i (omega (arith, h)) (omega (arith, k)))

pub placed-more : (xs : List Place) (ys : List Server) (i : ℕ) → i < length xs → i < length ys
    → map placed_after (take (i + 1) (zip xs ys)) ≡ map placed_after (take i (zip xs ys)) ++ placed_after (get_or xs i no_place, get_or ys i no_server) ∷ []
placed-more xs ys i h k = let next : i + 1 ≡ suc i = omega arith in ap (λ n. map placed_after (take n (zip xs ys))) next ∙ more-suc xs ys i h k
