-- The draws of one sample, written out.
use Rattle.std.specs.Prelude.{◌≡◌, suc, [], ◌∷◌, map}
use Rattle.std.specs.List.{range_with_len}
use Rattle.region_gen.specs.Draws.{drawn_after}

abbrev pub TwelveDraws : Type 0
TwelveDraws =
    map (λ n. drawn_after 7 (suc n)) (range_with_len 0 12)
    ≡ 599 ∷ 44999 ∷ 32612 ∷ 21105 ∷ 10061 ∷ 33742 ∷ 40318 ∷ 9222 ∷ 36354 ∷ 39607 ∷ 21434 ∷ 34736 ∷ []
