-- Objects with exactly some members, and members that are texts.
use Rattle.std.specs.Prelude.{ℕ, ◌&&◌, Bool, true, false, List, [], ◌∷◌, is_some, Option, Some, None, option_and_then}
use Rattle.std.specs.List.{list_all, list_any}
use Rattle.std.specs.Str.{bytes_eq}
use Rattle.serde_json.specs.Data.{Data, Members, no_members, member}
use Rattle.serde_json.specs.Find.{get, as_str}
use Rattle.ras_table.specs.Names.{number_of}
use Rattle.plan_document.specs.Numbers.{whole}

-- the names of an object's members
abbrev pub member_names : Members → List (List ℕ)
member_names no_members = []
member_names (member k d ms) = k ∷ member_names ms

-- every member of an object has one of these names
abbrev pub has_only : List (List ℕ) → Members → Bool
has_only names ms = list_all (λ k. list_any (λ n. bytes_eq n k) names) (member_names ms)

-- an object, each member of which has one of these names
abbrev pub is_object_of : List (List ℕ) → Option Members → Bool
is_object_of names None = false
is_object_of names (Some ms) = has_only names ms

-- a member that must be there and is a whole number
abbrev pub needed_whole : List ℕ → Data → Option ℕ
needed_whole name d = option_and_then whole (get name d)

abbrev pub is_text : Data → Bool
is_text d = is_some (as_str d)

-- each member is a text
abbrev pub are_texts : Members → Bool
are_texts no_members = true
are_texts (member k d ms) = is_text d && are_texts ms

abbrev pub members_are_texts : Option Members → Bool
members_are_texts None = false
members_are_texts (Some ms) = are_texts ms

-- the number of the name that a value is
abbrev pub numbered : List (List ℕ) → Data → Option ℕ
numbered names d = option_and_then (number_of names) (as_str d)

-- each member is named after a server, and is the name of a reservation
abbrev pub are_known : List (List ℕ) → List (List ℕ) → Members → Bool
are_known servers reservations no_members = true
are_known servers reservations (member k d ms) =
    is_some (number_of servers k) && (is_some (numbered reservations d) && are_known servers reservations ms)
