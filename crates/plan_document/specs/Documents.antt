-- What a document is, and its first fault.
use Rattle.std.specs.Prelude.{ℕ, ◌≡◌, ◌==◌, ◌&&◌, ◌||◌, not, nat_le, Bool, true, false, List, [], ◌∷◌, codes, is_some, Option, Some, None, option_and_then, option_map, Result, Ok, Err, if◌then◌else◌}
use Rattle.std.specs.Str.{is_utf8, bytes_eq}
use Rattle.csv.specs.Reading.{strip_bom}
use Rattle.serde_json.specs.Data.{Data}
use Rattle.serde_json.specs.Read.{read}
use Rattle.serde_json.specs.Find.{get, as_object, as_str}
use Rattle.serde_json.specs.View.{view}
use Rattle.serde_json.specs.declared.value.Value.{Value}
use Rattle.ras_requests.specs.declared.requests.Protection.{Protection}
use Rattle.plan_model.specs.declared.Grouping.{Grouping}
use Rattle.plan_model.specs.declared.Grouping.TheVariants as grouping
use Rattle.plan_document.specs.Members.{is_object_of, needed_whole}
use Rattle.plan_document.specs.Faults.{ok_or, and_then}
use Rattle.plan_document.specs.Parts.{SeenPart, seen_part, part_at}
use Rattle.plan_document.specs.Protections.{protection_shaped, protection_fits, protections_of}
use Rattle.plan_document.specs.declared.part.Form.{Form}
use Rattle.plan_document.specs.declared.part.Form.TheVariants as form
use Rattle.plan_document.specs.declared.part.RackPart.{RackPart}
use Rattle.plan_document.specs.declared.document.Answer.{Answer}
use Rattle.plan_document.specs.declared.document.Answer.TheVariants as answer
use Rattle.plan_document.specs.declared.document.Head.{Head}
use Rattle.plan_document.specs.declared.document.Document.{Document}
use Rattle.plan_document.specs.declared.fault.DocPlace.TheVariants as place
use Rattle.plan_document.specs.declared.fault.DocWhy.TheVariants as why
use Rattle.plan_document.specs.declared.fault.DocFault.{DocFault}
use Rattle.plan_document.specs.declared.fault.DocFault.TheVariants.{At, Memory}

-- the value that bytes are
abbrev pub json_of : List ℕ → Option Data
json_of bytes = if is_utf8 bytes then read bytes else None

-- the texts of the answers and of the groupings
abbrev pub answer_named : List ℕ → Option Answer
answer_named text =
    if bytes_eq text (codes "plan") then Some answer.Plan
    else if bytes_eq text (codes "infeasible") then Some answer.Infeasible
    else if bytes_eq text (codes "limit") then Some answer.Limit
    else None

abbrev pub grouping_named : List ℕ → Option Grouping
grouping_named text =
    if bytes_eq text (codes "single") then Some grouping.Single
    else if bytes_eq text (codes "class") then Some grouping.Class
    else None

-- a member that is a text
abbrev pub text_at : List ℕ → Data → Option (List ℕ)
text_at name d = option_and_then as_str (get name d)

abbrev pub has_member : List ℕ → Data → Bool
has_member name d = is_some (get name d)

-- the number of the format
abbrev pub is_number : ℕ → Option ℕ → Bool
is_number n None = false
is_number n (Some m) = m == n

abbrev pub is_format : ℕ → Data → Bool
is_format n d = is_number n (needed_whole (codes "format") d)

-- the members of format 2, which alone has protections, and of format 1
abbrev pub top_names : Bool → List (List ℕ)
top_names true = codes "answer" ∷ codes "format" ∷ codes "gap" ∷ codes "grouping" ∷ codes "nodes" ∷ codes "protection" ∷ codes "rack" ∷ codes "racks" ∷ codes "region" ∷ []
top_names false = codes "answer" ∷ codes "format" ∷ codes "gap" ∷ codes "grouping" ∷ codes "nodes" ∷ codes "rack" ∷ codes "racks" ∷ codes "region" ∷ []

-- the top's own members, whatever the format
abbrev pub head_of : Data → Option Head
head_of d = option_and_then (λ answer. option_and_then (λ gap. option_and_then (λ grouping. option_and_then (λ nodes. option_and_then (λ racks.
    Some (record { answer = answer; gap = gap; grouping = grouping; nodes = nodes; racks = racks }))
    (needed_whole (codes "racks") d)) (needed_whole (codes "nodes") d)) (option_and_then grouping_named (text_at (codes "grouping") d)))
    (needed_whole (codes "gap") d)) (option_and_then answer_named (text_at (codes "answer") d))

-- the region part has an assignment
abbrev pub region_has_assignment : Data → Bool
region_has_assignment d = is_some (option_and_then (get (codes "assignment")) (get (codes "region") d))

-- a rack part may stand beside a region part with a plan
abbrev pub form_of : Answer → Bool → Form
form_of answer.Plan assigned = form.Planned
form_of answer.Infeasible assigned = form.Bare
form_of answer.Limit true = form.Planned
form_of answer.Limit false = form.Bounded

abbrev pub may_have_rack : Form → Bool
may_have_rack form.Planned = true
may_have_rack form.Bounded = false
may_have_rack form.Bare = false

abbrev pub rack_allowed : Data → Head → Bool
rack_allowed d h = not (has_member (codes "rack") d) || may_have_rack (form_of h.answer (region_has_assignment d))

abbrev pub if_rack_allowed : Data → Head → Option Head
if_rack_allowed d h = if rack_allowed d h then Some h else None

-- the members are those of format 2 where the format is 2, and those of format 1 otherwise
abbrev pub top_members : Bool → Data → Bool
top_members second d =
    is_object_of (top_names second) (as_object d) && has_member (codes "region") d && is_some (needed_whole (codes "format") d) && protection_shaped second d

abbrev pub top_shape : Data → Option Head
top_shape d = if top_members (is_format 2 d) d then option_and_then (if_rack_allowed d) (head_of d) else None

-- the ranges of the top's numbers
abbrev pub head_fits : Head → Bool
head_fits h = nat_le h.gap 1000000000000 && nat_le 1 h.nodes && nat_le h.nodes 20000 && nat_le h.racks 64

abbrev pub ranged_head : Data → Head → Result Head DocFault
ranged_head d h =
    if not (is_format 1 d || is_format 2 d) then Err (At place.Top why.Format)
    else if not (head_fits h && protection_fits (is_format 2 d) d) then Err (At place.Top why.Range)
    else Ok h

-- the top: first its shape, then its format, then its ranges
abbrev pub top_of : Data → Result Head DocFault
top_of d = and_then (ok_or place.Top why.Shape (top_shape d)) (ranged_head d)

-- and then the names in it
abbrev pub named_top : List (List ℕ) → Data → Result (List Protection) DocFault
named_top reservations d = ok_or place.Top why.Name (protections_of reservations (is_format 2 d) d)

-- the rack part, where there is one
abbrev pub rack_in : List (List ℕ) → List (List ℕ) → Option Data → Result (Option SeenPart) DocFault
rack_in servers reservations None = Ok None
rack_in servers reservations (Some d) = and_then (part_at servers reservations true form.Planned d) (λ p. Ok (Some p))

abbrev pub region_in : List (List ℕ) → List (List ℕ) → Form → Option Data → Result SeenPart DocFault
region_in servers reservations f None = Err (At place.Top why.Shape)
region_in servers reservations f (Some d) = part_at servers reservations false f d

-- what a document says
pub record SeenDocument : Type 0 where
  pub head : Head
  pub protection : List Protection
  pub region : SeenPart
  pub rack : Option SeenPart

abbrev pub seen_rack : RackPart → SeenPart
seen_rack r = seen_part r.part r.chosen

abbrev pub seen_document : Document → SeenDocument
seen_document d = record {
  head = record { answer = d.answer; gap = d.gap; grouping = d.grouping; nodes = d.nodes; racks = d.racks };
  protection = d.protection;
  region = seen_part d.region [];
  rack = option_map seen_rack d.rack;
}

-- a document: the top, the region part, and then the rack part
abbrev pub document_in : List (List ℕ) → List (List ℕ) → Data → Result SeenDocument DocFault
document_in servers reservations d =
    and_then (top_of d) (λ h.
    and_then (named_top reservations d) (λ protection.
    and_then (region_in servers reservations (form_of h.answer (region_has_assignment d)) (get (codes "region") d)) (λ region.
    and_then (rack_in servers reservations (get (codes "rack") d)) (λ rack.
    Ok (record { head = h; protection = protection; region = region; rack = rack })))))

abbrev pub of_value : List (List ℕ) → List (List ℕ) → Option Data → Result SeenDocument DocFault
of_value servers reservations None = Err (At place.Top why.NotJson)
of_value servers reservations (Some d) = document_in servers reservations d

-- the document that bytes are, or its first fault
abbrev pub document_of : List (List ℕ) → List (List ℕ) → List ℕ → Result SeenDocument DocFault
document_of servers reservations bytes = of_value servers reservations (json_of (strip_bom bytes))

-- a value was read exactly where the bytes are one, unless memory ran out
abbrev pub ValueOf : Result Value DocFault → Option Data → Type 0
ValueOf (Ok value) read = read ≡ Some (view value)
ValueOf (Err Memory) read = Unit {0}
ValueOf (Err (At p w)) read = (read ≡ None) × (p ≡ place.Top) × (w ≡ why.NotJson)
