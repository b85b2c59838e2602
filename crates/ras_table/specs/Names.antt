-- What a name is, and which number a name has.
use Rattle.std.specs.Prelude.{ℕ, Bool, true, ◌&&◌, ◌==◌, not, nat_le, List, length, ◌++◌, ◌∷◌, [], Option, position, is_some, if◌then◌else◌}
use Rattle.std.specs.List.{list_all, list_any}
use Rattle.std.specs.Str.{bytes_eq}

-- a printable byte that is no blank, quote or comma
abbrev pub is_name_byte : ℕ → Bool
is_name_byte b = nat_le 0x21 b && nat_le b 0x7E && not (b == 34) && not (b == 44)

-- 1 to 64 such bytes
abbrev pub is_name : List ℕ → Bool
is_name bs = nat_le 1 (length bs) && nat_le (length bs) 64 && list_all is_name_byte bs

-- the number of a name among names: the place at which it stands
abbrev pub number_of : List (List ℕ) → List ℕ → Option ℕ
number_of names name = position (bytes_eq name) names

-- no name stands twice
abbrev pub names_differ : List (List ℕ) → Bool
names_differ [] = true
names_differ (name ∷ names) = not (list_any (bytes_eq name) names) && names_differ names
