-- Whole numbers, names, and objects with exactly some members.
use Rattle.std.specs.Prelude.{ℕ, Bool, false, List, [], ◌∷◌, Option, Some, None, option_and_then, if◌then◌else◌}
use Rattle.std.specs.List.{list_all, list_any}
use Rattle.std.specs.Str.{bytes_eq}
use Rattle.serde_json.specs.Data.{Data, Items, no_items, item, Members, no_members, member}
use Rattle.serde_json.specs.Find.{get, as_number, as_u64, as_str}
use Rattle.ras_table.specs.Names.{is_name}

-- the entries of an array
abbrev pub items_list : Items → List Data
items_list no_items = []
items_list (item d ds) = d ∷ items_list ds

-- the names of an object's members
abbrev pub member_names : Members → List (List ℕ)
member_names no_members = []
member_names (member k d ms) = k ∷ member_names ms

-- every member of an object has one of these names
abbrev pub has_only : List (List ℕ) → Members → Bool
has_only names ms = list_all (λ k. list_any (λ n. bytes_eq n k) names) (member_names ms)

-- an object, each member of which has one of these names
abbrev pub is_object_of : List (List ℕ) → Option Members → Bool
is_object_of names None = false
is_object_of names (Some ms) = has_only names ms

-- a whole number
abbrev pub whole : Data → Option ℕ
whole d = option_and_then as_u64 (as_number d)

-- the whole number of a member that must be there, and of one that may be
abbrev pub needed_whole : List ℕ → Data → Option ℕ
needed_whole name d = option_and_then whole (get name d)

abbrev pub whole_or_zero : Option Data → Option ℕ
whole_or_zero None = Some 0
whole_or_zero (Some d) = whole d

abbrev pub optional_whole : List ℕ → Data → Option ℕ
optional_whole name d = whole_or_zero (get name d)

-- a text that is a name
abbrev pub name_in : Data → Option (List ℕ)
name_in d = option_and_then (λ s. if is_name s then Some s else None) (as_str d)
