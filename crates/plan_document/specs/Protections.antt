-- The protections that a document states.
use Rattle.std.specs.Prelude.{ℕ, ◌&&◌, Bool, true, false, List, [], ◌∷◌, length, replicate, codes, is_some, Option, Some, None, option_and_then, if◌then◌else◌}
use Rattle.serde_json.specs.Data.{Data, Members, no_members, member}
use Rattle.serde_json.specs.Find.{get, as_object, as_str}
use Rattle.ras_table.specs.Names.{number_of}
use Rattle.ras_requests.specs.Protections.{protection_of_text}
use Rattle.ras_requests.specs.declared.requests.Protection.{Protection}
use Rattle.ras_requests.specs.declared.requests.Protection.TheVariants.{Board}
use Rattle.plan_document.specs.Members.{members_are_texts}

-- the object that states them
abbrev pub protection_members : Data → Option Members
protection_members d = option_and_then as_object (get (codes "protection") d)

-- each of its members is the text of a protection
abbrev pub protection_in : Data → Option Protection
protection_in d = option_and_then protection_of_text (as_str d)

abbrev pub are_protections : Members → Bool
are_protections no_members = true
are_protections (member k d ms) = is_some (protection_in d) && are_protections ms

abbrev pub members_are_protections : Option Members → Bool
members_are_protections None = false
members_are_protections (Some ms) = are_protections ms

-- each of its members is named after a reservation
abbrev pub are_reservations : List (List ℕ) → Members → Bool
are_reservations reservations no_members = true
are_reservations reservations (member k d ms) = is_some (number_of reservations k) && are_reservations reservations ms

-- the protection of each reservation, where each has one
abbrev pub with_protection : Option Protection → Option (List Protection) → Option (List Protection)
with_protection (Some p) (Some rest) = Some (p ∷ rest)
with_protection (Some p) None = None
with_protection None rest = None

abbrev pub protection_at : List ℕ → Data → Option Protection
protection_at name d = option_and_then protection_in (get name d)

abbrev pub each_protection : List (List ℕ) → Data → Option (List Protection)
each_protection [] d = Some []
each_protection (name ∷ names) d = with_protection (protection_at name d) (each_protection names d)

abbrev pub protections_in : List (List ℕ) → Data → Option Members → Option (List Protection)
protections_in reservations d None = None
protections_in reservations d (Some ms) = if are_reservations reservations ms then each_protection reservations d else None

abbrev pub named_protections : List (List ℕ) → Data → Option (List Protection)
named_protections reservations d = protections_in reservations d (as_object d)

-- format 2 alone has that object, and with format 1 each reservation has switchboard
abbrev pub protection_shaped : Bool → Data → Bool
protection_shaped false d = true
protection_shaped true d = members_are_texts (protection_members d)

abbrev pub protection_fits : Bool → Data → Bool
protection_fits false d = true
protection_fits true d = members_are_protections (protection_members d)

abbrev pub protections_of : List (List ℕ) → Bool → Data → Option (List Protection)
protections_of reservations false d = Some (replicate (length reservations) Board)
protections_of reservations true d = option_and_then (named_protections reservations) (get (codes "protection") d)
