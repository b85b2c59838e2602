-- What a part of a document is, and its first fault.
use Rattle.std.specs.Prelude.{ℕ, ◌+◌, ◌^◌, ◌&&◌, nat_le, Bool, true, false, List, [], ◌∷◌, ◌++◌, length, map, codes, Option, Some, None, option_and_then, Result, Ok, if◌then◌else◌}
use Rattle.std.specs.List.{list_all}
use Rattle.serde_json.specs.Data.{Data, Members}
use Rattle.serde_json.specs.Find.{get, as_object}
use Rattle.plan_model.specs.declared.Assignment.{Assignment}
use Rattle.plan_document.specs.Numbers.{entries_of}
use Rattle.plan_document.specs.Members.{is_object_of, needed_whole, is_text, members_are_texts, numbered, are_known}
use Rattle.plan_document.specs.Seen.{seen_node}
use Rattle.plan_document.specs.Faults.{ok_or, and_then, node_at}
use Rattle.plan_document.specs.declared.shape.Shape.{Shape}
use Rattle.plan_document.specs.declared.part.Planned.{Planned}
use Rattle.plan_document.specs.declared.part.Part.{Part}
use Rattle.plan_document.specs.declared.part.Form.{Form}
use Rattle.plan_document.specs.declared.part.Form.TheVariants as form
use Rattle.plan_document.specs.declared.part.Claim.{Claim}
use Rattle.plan_document.specs.declared.part.Stated.{Stated}
use Rattle.plan_document.specs.declared.fault.DocPlace.{DocPlace}
use Rattle.plan_document.specs.declared.fault.DocPlace.TheVariants as place
use Rattle.plan_document.specs.declared.fault.DocWhy.TheVariants as why
use Rattle.plan_document.specs.declared.fault.DocFault.{DocFault}

-- the members that a part of each form has
abbrev pub part_names : Bool → Form → List (List ℕ)
part_names true form.Planned = codes "assignment" ∷ codes "chosen" ∷ codes "gap" ∷ codes "lower" ∷ codes "tree" ∷ codes "value" ∷ []
part_names false form.Planned = codes "assignment" ∷ codes "gap" ∷ codes "lower" ∷ codes "tree" ∷ codes "value" ∷ []
part_names with_chosen form.Bounded = codes "lower" ∷ codes "tree" ∷ []
part_names with_chosen form.Bare = codes "tree" ∷ []

-- the numbers that it states
abbrev pub claim_of : Form → Data → Option (Option Claim)
claim_of form.Planned d = option_and_then (λ value. option_and_then (λ gap. Some (Some (record { value = value; gap = gap }))) (needed_whole (codes "gap") d)) (needed_whole (codes "value") d)
claim_of form.Bounded d = Some None
claim_of form.Bare d = Some None

abbrev pub lower_of : Form → Data → Option (Option ℕ)
lower_of form.Planned d = option_and_then (λ lower. Some (Some lower)) (needed_whole (codes "lower") d)
lower_of form.Bounded d = option_and_then (λ lower. Some (Some lower)) (needed_whole (codes "lower") d)
lower_of form.Bare d = Some None

abbrev pub stated_of : Form → Data → Option Stated
stated_of f d = option_and_then (λ claim. option_and_then (λ lower. Some (record { claim = claim; lower = lower })) (lower_of f d)) (claim_of f d)

-- its assignment is an object of texts
abbrev pub assignment_shaped : Form → Data → Bool
assignment_shaped form.Planned d = members_are_texts (option_and_then as_object (get (codes "assignment") d))
assignment_shaped form.Bounded d = true
assignment_shaped form.Bare d = true

-- its tree is an array of at least one node
abbrev pub entries_at : List ℕ → Data → Option (List Data)
entries_at name d = option_and_then entries_of (get name d)

abbrev pub is_some_list : Option (List Data) → Bool
is_some_list None = false
is_some_list (Some ds) = nat_le 1 (length ds)

abbrev pub has_nodes : Data → Bool
has_nodes d = is_some_list (entries_at (codes "tree") d)

-- its chosen reservations are an array of 1 to 64 texts
abbrev pub are_few_texts : Option (List Data) → Bool
are_few_texts None = false
are_few_texts (Some ds) = nat_le 1 (length ds) && nat_le (length ds) 64 && list_all is_text ds

abbrev pub chosen_shaped : Bool → Data → Bool
chosen_shaped false d = true
chosen_shaped true d = are_few_texts (entries_at (codes "chosen") d)

abbrev pub part_shape : Bool → Form → Data → Option Stated
part_shape with_chosen f d =
    if is_object_of (part_names with_chosen f) (as_object d) && assignment_shaped f d && has_nodes d && chosen_shaped with_chosen d
    then stated_of f d else None

-- the ranges of its numbers
abbrev pub at_most : ℕ → Option ℕ → Bool
at_most most None = true
at_most most (Some n) = nat_le n most

abbrev pub claim_fits : Option Claim → Bool
claim_fits None = true
claim_fits (Some c) = nat_le c.value (2 ^ 62) && nat_le c.gap (2 ^ 62)

abbrev pub stated_fits : Stated → Bool
stated_fits s = claim_fits s.claim && at_most (2 ^ 62) s.lower

-- the reservation that it gives a server, and each server
abbrev pub place_in : List (List ℕ) → Data → List ℕ → Option ℕ
place_in reservations d server = option_and_then (numbered reservations) (get server d)

abbrev pub places_of : List (List ℕ) → List (List ℕ) → Data → List (Option ℕ)
places_of servers reservations d = map (place_in reservations d) servers

-- its assignment, where all names are known
abbrev pub assignment_in : List (List ℕ) → List (List ℕ) → Data → Option Members → Option Assignment
assignment_in servers reservations d None = None
assignment_in servers reservations d (Some ms) =
    if are_known servers reservations ms then Some (record { of = places_of servers reservations d }) else None

abbrev pub assignment_of : List (List ℕ) → List (List ℕ) → Data → Option Assignment
assignment_of servers reservations d = assignment_in servers reservations d (as_object d)

abbrev pub plan_of : List (List ℕ) → List (List ℕ) → Option Claim → Data → Option (Option Planned)
plan_of servers reservations None d = Some None
plan_of servers reservations (Some c) d =
    option_and_then (λ of. Some (Some (record { of = of; value = c.value; gap = c.gap })))
    (option_and_then (assignment_of servers reservations) (get (codes "assignment") d))

-- the chosen reservations, where all names are known
abbrev pub with_chosen_one : Option ℕ → Option (List ℕ) → Option (List ℕ)
with_chosen_one (Some n) (Some rest) = Some (n ∷ rest)
with_chosen_one (Some n) None = None
with_chosen_one None rest = None

abbrev pub chosen_of : List (List ℕ) → List Data → Option (List ℕ)
chosen_of reservations [] = Some []
chosen_of reservations (d ∷ ds) = with_chosen_one (numbered reservations d) (chosen_of reservations ds)

abbrev pub chosen_at : List (List ℕ) → Bool → Data → Option (List ℕ)
chosen_at reservations false d = Some []
chosen_at reservations true d = option_and_then (chosen_of reservations) (entries_at (codes "chosen") d)

-- the places of its faults
abbrev pub part_place : Bool → DocPlace
part_place true = place.Rack
part_place false = place.Region

abbrev pub node_place : Bool → ℕ → DocPlace
node_place true n = place.RackNode n
node_place false n = place.RegionNode n

-- the nodes from this one on, or the first fault
abbrev pub nodes_from : Bool → ℕ → List Shape → List Data → Result (List Shape) DocFault
nodes_from with_chosen n before [] = Ok before
nodes_from with_chosen n before (d ∷ ds) =
    and_then (node_at (node_place with_chosen n) d) (λ s. nodes_from with_chosen (n + 1) (before ++ s ∷ []) ds)

abbrev pub nodes_in : Bool → Option (List Data) → Result (List Shape) DocFault
nodes_in with_chosen None = Ok []
nodes_in with_chosen (Some ds) = nodes_from with_chosen 0 [] ds

abbrev pub nodes_at : Bool → Data → Result (List Shape) DocFault
nodes_at with_chosen d = nodes_in with_chosen (entries_at (codes "tree") d)

-- what a part says: its chosen reservations are none where it has no list of them
pub record SeenPart : Type 0 where
  pub plan : Option Planned
  pub lower : Option ℕ
  pub nodes : List Shape
  pub chosen : List ℕ

abbrev pub seen_part : Part → List ℕ → SeenPart
seen_part p chosen = record { plan = p.plan; lower = p.lower; nodes = map seen_node p.tree.nodes; chosen = chosen }

abbrev pub if_stated_fits : Stated → Option Stated
if_stated_fits s = if stated_fits s then Some s else None

-- the last two steps of a part: its names, and then its nodes
abbrev pub named_part : List (List ℕ) → List (List ℕ) → Bool → Stated → Data → Result SeenPart DocFault
named_part servers reservations with_chosen s d =
    and_then (ok_or (part_place with_chosen) why.Name (plan_of servers reservations s.claim d)) (λ plan.
    and_then (ok_or (part_place with_chosen) why.Name (chosen_at reservations with_chosen d)) (λ chosen.
    and_then (nodes_at with_chosen d) (λ nodes. Ok (record { plan = plan; lower = s.lower; nodes = nodes; chosen = chosen }))))

-- a part: first its shape, then its ranges, its names, and its nodes one by one
abbrev pub part_at : List (List ℕ) → List (List ℕ) → Bool → Form → Data → Result SeenPart DocFault
part_at servers reservations with_chosen f d =
    and_then (ok_or (part_place with_chosen) why.Shape (part_shape with_chosen f d)) (λ stated.
    and_then (ok_or (part_place with_chosen) why.Range (if_stated_fits stated)) (λ s. named_part servers reservations with_chosen s d))
