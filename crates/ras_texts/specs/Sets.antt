-- The line of a set of reservations.
use Rattle.std.specs.Prelude.{ℕ, List, ◌++◌, codes, flat_map}

-- a word, and behind a space each name
abbrev pub names_line : List ℕ → List (List ℕ) → List ℕ
names_line word names = word ++ (flat_map (λ name. codes " " ++ name) names ++ codes "\n")
