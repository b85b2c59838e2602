-- The value and the text of a document.
use Rattle.std.specs.Prelude.{ℕ, ◌+◌, List, [], ◌∷◌, ◌++◌, map, codes, slice_get, unwrap_or, Option, Some, None}
use Rattle.serde_json.specs.Data.{unsigned, Data, number, string, array, object, Items, no_items, item, Members, no_members, member, put}
use Rattle.serde_json.specs.View.{items_of}
use Rattle.serde_json.specs.Written.{compact_text}
use Rattle.ras_requests.specs.Protections.{protection_text}
use Rattle.ras_requests.specs.declared.requests.Protection.{Protection}
use Rattle.plan_model.specs.declared.Grouping.{Grouping}
use Rattle.plan_model.specs.declared.Grouping.TheVariants as grouping
use Rattle.plan_document.specs.Parts.{SeenPart}
use Rattle.plan_document.specs.Documents.{SeenDocument}
use Rattle.plan_document.specs.declared.shape.Pair.{Pair}
use Rattle.plan_document.specs.declared.shape.Weights.{Weights}
use Rattle.plan_document.specs.declared.shape.Fractions.{Fractions}
use Rattle.plan_document.specs.declared.shape.Cut.{Cut}
use Rattle.plan_document.specs.declared.shape.Shape.{Shape}
use Rattle.plan_document.specs.declared.shape.Shape.TheVariants.{Split, Bound, Refute}
use Rattle.plan_document.specs.declared.part.Planned.{Planned}
use Rattle.plan_document.specs.declared.document.Head.{Head}
use Rattle.plan_document.specs.declared.document.Answer.{Answer}
use Rattle.plan_document.specs.declared.document.Answer.TheVariants as answer

abbrev pub num : ℕ → Data
num n = number (unsigned n)

abbrev pub numbers_data : List ℕ → Data
numbers_data ns = array (items_of (map num ns))

-- the rows and numerators, one after another
abbrev pub flat : List Pair → List ℕ
flat [] = []
flat (p ∷ ps) = p.row ∷ (p.num ∷ flat ps)

-- a node
abbrev pub weights_data : List ℕ → Weights → Data
weights_data word w = array (item (string word) (item (num w.den) (item (numbers_data (flat w.pairs)) no_items)))

abbrev pub shown_items : Option Fractions → Items
shown_items None = no_items
shown_items (Some f) = item (num f.den) (item (numbers_data f.whole) (item (numbers_data f.part) no_items))

abbrev pub cut_data : Cut → Data
cut_data c = array (item (string (codes "split")) (item (num c.column) (item (num c.at) (item (num c.low) (item (num c.high) (shown_items c.shown))))))

abbrev pub node_data : Shape → Data
node_data (Split c) = cut_data c
node_data (Bound w) = weights_data (codes "bound") w
node_data (Refute w) = weights_data (codes "refute") w

abbrev pub nodes_data : List Shape → Data
nodes_data ss = array (items_of (map node_data ss))

-- the name with a number
abbrev pub name_of : List (List ℕ) → ℕ → List ℕ
name_of names n = unwrap_or (slice_get names n) []

-- the assignment: a member for each server that has a reservation
abbrev pub put_place : List (List ℕ) → List ℕ → Option ℕ → Members → Members
put_place reservations server None ms = ms
put_place reservations server (Some r) ms = put server (string (name_of reservations r)) ms

abbrev pub put_places : List (List ℕ) → List (List ℕ) → ℕ → List (Option ℕ) → Members → Members
put_places servers reservations n [] ms = ms
put_places servers reservations n (p ∷ ps) ms = put_places servers reservations (n + 1) ps (put_place reservations (name_of servers n) p ms)

abbrev pub assignment_data : List (List ℕ) → List (List ℕ) → List (Option ℕ) → Data
assignment_data servers reservations places = object (put_places servers reservations 0 places no_members)

abbrev pub chosen_data : List (List ℕ) → List ℕ → Data
chosen_data reservations chosen = array (items_of (map (λ n. string (name_of reservations n)) chosen))

-- a part without a list of chosen reservations, and one with it
abbrev pub planned_data : List (List ℕ) → List (List ℕ) → Planned → Option ℕ → List Shape → Data
planned_data servers reservations p lower nodes = object
    (member (codes "assignment") (assignment_data servers reservations p.of.of)
    (member (codes "gap") (num p.gap)
    (member (codes "lower") (num (unwrap_or lower 0))
    (member (codes "tree") (nodes_data nodes)
    (member (codes "value") (num p.value) no_members)))))

abbrev pub bound_data : Option ℕ → List Shape → Data
bound_data None nodes = object (member (codes "tree") (nodes_data nodes) no_members)
bound_data (Some lower) nodes = object (member (codes "lower") (num lower) (member (codes "tree") (nodes_data nodes) no_members))

abbrev pub region_data : List (List ℕ) → List (List ℕ) → Option Planned → Option ℕ → List Shape → Data
region_data servers reservations None lower nodes = bound_data lower nodes
region_data servers reservations (Some p) lower nodes = planned_data servers reservations p lower nodes

abbrev pub rack_planned : List (List ℕ) → List (List ℕ) → List ℕ → Planned → Option ℕ → List Shape → Data
rack_planned servers reservations chosen p lower nodes = object
    (member (codes "assignment") (assignment_data servers reservations p.of.of)
    (member (codes "chosen") (chosen_data reservations chosen)
    (member (codes "gap") (num p.gap)
    (member (codes "lower") (num (unwrap_or lower 0))
    (member (codes "tree") (nodes_data nodes)
    (member (codes "value") (num p.value) no_members))))))

abbrev pub rack_data : List (List ℕ) → List (List ℕ) → List ℕ → Option Planned → Option ℕ → List Shape → Data
rack_data servers reservations chosen None lower nodes = bound_data lower nodes
rack_data servers reservations chosen (Some p) lower nodes = rack_planned servers reservations chosen p lower nodes

-- the protections: a member for each reservation
abbrev pub put_protections : List (List ℕ) → ℕ → List Protection → Members → Members
put_protections reservations n [] ms = ms
put_protections reservations n (p ∷ ps) ms = put_protections reservations (n + 1) ps (put (name_of reservations n) (string (protection_text p)) ms)

abbrev pub protection_data : List (List ℕ) → List Protection → Data
protection_data reservations ps = object (put_protections reservations 0 ps no_members)

-- the texts of answers and groupings
abbrev pub answer_text : Answer → List ℕ
answer_text answer.Plan = codes "plan"
answer_text answer.Infeasible = codes "infeasible"
answer_text answer.Limit = codes "limit"

abbrev pub grouping_text : Grouping → List ℕ
grouping_text grouping.Single = codes "single"
grouping_text grouping.Class = codes "class"

-- the whole, in format 2: the rack part, where there is one, stands between two other members
abbrev pub rack_member : List (List ℕ) → List (List ℕ) → Option SeenPart → Members → Members
rack_member servers reservations None ms = ms
rack_member servers reservations (Some r) ms = member (codes "rack") (rack_data servers reservations r.chosen r.plan r.lower r.nodes) ms

-- the same of a document with a rack part, by the values of its parts
abbrev pub racked_data : Head → Data → Data → Data → Data
racked_data h protection rack region = object
    (member (codes "answer") (string (answer_text h.answer))
    (member (codes "format") (num 2)
    (member (codes "gap") (num h.gap)
    (member (codes "grouping") (string (grouping_text h.grouping))
    (member (codes "nodes") (num h.nodes)
    (member (codes "protection") protection
    (member (codes "rack") rack
    (member (codes "racks") (num h.racks)
    (member (codes "region") region no_members)))))))))

abbrev pub document_data : List (List ℕ) → List (List ℕ) → SeenDocument → Data
document_data servers reservations d = object
    (member (codes "answer") (string (answer_text d.head.answer))
    (member (codes "format") (num 2)
    (member (codes "gap") (num d.head.gap)
    (member (codes "grouping") (string (grouping_text d.head.grouping))
    (member (codes "nodes") (num d.head.nodes)
    (member (codes "protection") (protection_data reservations d.protection)
    (rack_member servers reservations d.rack
    (member (codes "racks") (num d.head.racks)
    (member (codes "region") (region_data servers reservations d.region.plan d.region.lower d.region.nodes) no_members)))))))))

-- the text of a document: the compact text of its value, and a line feed
abbrev pub document_text : List (List ℕ) → List (List ℕ) → SeenDocument → List ℕ
document_text servers reservations d = compact_text (document_data servers reservations d) ++ 10 ∷ []
