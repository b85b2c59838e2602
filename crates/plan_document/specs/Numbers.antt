-- Whole numbers in a document, and lists of them.
use Rattle.std.specs.Prelude.{ℕ, ◌==◌, ◌&&◌, nat_lt, Bool, true, false, List, [], ◌∷◌, length, Option, Some, None, option_and_then, option_map, if◌then◌else◌}
use Rattle.serde_json.specs.Data.{Data, Items, no_items, item}
use Rattle.serde_json.specs.Find.{at, as_number, as_u64, as_array}
use Rattle.plan_document.specs.declared.shape.Pair.{Pair}

-- a whole number
abbrev pub whole : Data → Option ℕ
whole d = option_and_then as_u64 (as_number d)

-- the entries of an array, as a list
abbrev pub items_list : Items → List Data
items_list no_items = []
items_list (item d ds) = d ∷ items_list ds

abbrev pub entries_of : Data → Option (List Data)
entries_of d = option_map items_list (as_array d)

-- the whole numbers that all entries are
abbrev pub with_number : Option ℕ → Option (List ℕ) → Option (List ℕ)
with_number (Some n) (Some rest) = Some (n ∷ rest)
with_number (Some n) None = None
with_number None rest = None

abbrev pub wholes : List Data → Option (List ℕ)
wholes [] = Some []
wholes (d ∷ ds) = with_number (whole d) (wholes ds)

abbrev pub numbers_of : Data → Option (List ℕ)
numbers_of d = option_and_then wholes (entries_of d)

-- the entry at a place, if it is a whole number
abbrev pub whole_at : ℕ → Data → Option ℕ
whole_at place d = option_and_then whole (at place d)

-- the numbers of a list, two by two: the first of a pair may be pending
abbrev pub with_pair : ℕ → ℕ → Option (List Pair) → Option (List Pair)
with_pair row num (Some rest) = Some (record { row = row; num = num } ∷ rest)
with_pair row num None = None

abbrev pub paired : Option ℕ → List ℕ → Option (List Pair)
paired None [] = Some []
paired (Some row) [] = None
paired None (n ∷ ns) = paired (Some n) ns
paired (Some row) (n ∷ ns) = with_pair row n (paired None ns)

-- each row is above the one before it
abbrev pub is_above : Option ℕ → ℕ → Bool
is_above None row = true
is_above (Some last) row = nat_lt last row

abbrev pub rises_from : Option ℕ → List Pair → Bool
rises_from last [] = true
rises_from last (p ∷ ps) = is_above last p.row && rises_from (Some p.row) ps

abbrev pub if_rising : List Pair → Option (List Pair)
if_rising ps = if rises_from None ps then Some ps else None

abbrev pub pairs_of : Data → Option (List Pair)
pairs_of d = option_and_then if_rising (option_and_then (paired None) (numbers_of d))

-- arrays that are entries of an array
abbrev pub pairs_at : ℕ → Data → Option (List Pair)
pairs_at place d = option_and_then pairs_of (at place d)

abbrev pub numbers_at : ℕ → Data → Option (List ℕ)
numbers_at place d = option_and_then numbers_of (at place d)

-- an array with this many entries
abbrev pub is_size : ℕ → Option (List Data) → Bool
is_size n None = false
is_size n (Some ds) = length ds == n

abbrev pub has_size : ℕ → Data → Bool
has_size n d = is_size n (entries_of d)
