-- For each of some names the home that was first given with it.
use Rattle.std.specs.Prelude.{ℕ, Bool, false, not, List, [], ◌∷◌, ◌++◌, map, Option, is_some, if◌then◌else◌, Vec}
use Rattle.std.specs.Option.{option_map_or}
use Rattle.std.specs.Map.{lookup}
use Rattle.std.specs.Str.{bytes_eq}
use Rattle.std.specs.declared.alloc.Global.{Global}

-- the names and homes that a map keeps
abbrev pub pairs_of : List (Vec ℕ Global × List ℕ) → List (List ℕ × List ℕ)
pairs_of entries = map (λ e. (e.0.items, e.1)) entries

-- the home that stands first with a name
abbrev pub home_of : List (List ℕ × List ℕ) → List ℕ → Option (List ℕ)
home_of pairs name = lookup (bytes_eq name) pairs

-- the names and homes after one more is given: a name that has a home keeps it
abbrev pub after_home : List (List ℕ × List ℕ) → List ℕ → List ℕ → List (List ℕ × List ℕ)
after_home pairs name home = if is_some (home_of pairs name) then pairs else pairs ++ (name, home) ∷ []

-- whether a name has another home
abbrev pub has_left : List (List ℕ × List ℕ) → List ℕ → List ℕ → Bool
has_left pairs name home = option_map_or (λ h. not (bytes_eq h home)) (home_of pairs name) false
