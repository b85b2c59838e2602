-- What was written is read again: the top of a document.
use Rattle.std.proofs.Common.{ℕ, ◌≡◌, ◌∙◌, ◌||◌, ◌&&◌, not, length, ap, ap₂, refl, Bool, true, false, List, codes, is_some, Option, Some, None, option_and_then, if◌then◌else◌}
use Rattle.std.specs.Prelude.{Result, Ok, Err}
use Rattle.serde_json.specs.Data.{Data, no_members}
use Rattle.serde_json.specs.Find.{get, as_object}
use Rattle.ras_requests.specs.declared.requests.Protection.{Protection}
use Rattle.plan_model.specs.declared.Grouping.{Grouping}
use Rattle.plan_model.specs.declared.Grouping.TheVariants as grouping
use Rattle.plan_document.specs.Faults.{ok_or, and_then}
use Rattle.plan_document.specs.Parts.{SeenPart}
use Rattle.plan_document.specs.Documents.{answer_named, grouping_named, is_format, head_of, region_has_assignment, form_of, may_have_rack, rack_allowed, if_rack_allowed, top_shape, head_fits, ranged_head, top_of, named_top, region_in, rack_in, SeenDocument, document_in}
use Rattle.plan_document.specs.Protections.{members_are_protections, protection_fits, named_protections, protections_of}
use Rattle.plan_document.specs.Written.{protection_data, region_data, rack_data, answer_text, grouping_text, document_data}
use Rattle.plan_document.specs.declared.shape.Shape.{Shape}
use Rattle.plan_document.specs.declared.part.Planned.{Planned}
use Rattle.plan_document.specs.declared.document.Answer.{Answer}
use Rattle.plan_document.specs.declared.document.Answer.TheVariants as answer
use Rattle.plan_document.specs.declared.document.Head.{Head}
use Rattle.plan_document.specs.declared.fault.DocPlace.TheVariants as place
use Rattle.plan_document.specs.declared.fault.DocWhy.TheVariants as why
use Rattle.plan_document.specs.declared.fault.DocFault.{DocFault}
use Rattle.plan_document.specs.declared.fault.DocFault.TheVariants.{At}
use Rattle.plan_document.proofs.AssignmentLaw.{AreApart}
use Rattle.plan_document.proofs.PartLaw.{AreServers}
use Rattle.plan_document.proofs.ProtectionLaw.{protections-fit, protections-shaped, protections-written}

pub answer-written : (a : Answer) → answer_named (answer_text a) ≡ Some a
answer-written answer.Plan = refl
answer-written answer.Infeasible = refl
answer-written answer.Limit = refl

pub grouping-written : (g : Grouping) → grouping_named (grouping_text g) ≡ Some g
grouping-written grouping.Single = refl
grouping-written grouping.Class = refl

pub head-written : (servers reservations : List (List ℕ)) (d : SeenDocument) → head_of (document_data servers reservations d) ≡ Some d.head
head-written servers reservations d = by d.rack
  where
    by : (rack : Option SeenPart) → head_of (document_data servers reservations (record d { rack = rack })) ≡ Some d.head
    by None =
        ap₂ (λ (a : Option Answer) (g : Option Grouping). option_and_then (λ answer. option_and_then (λ grouping.
        Some (let h : Head = record { answer = answer; gap = d.head.gap; grouping = grouping; nodes = d.head.nodes; racks = d.head.racks } in h)) g) a)
        (answer-written d.head.answer) (grouping-written d.head.grouping)
    by (Some r) =
        ap₂ (λ (a : Option Answer) (g : Option Grouping). option_and_then (λ answer. option_and_then (λ grouping.
        Some (let h : Head = record { answer = answer; gap = d.head.gap; grouping = grouping; nodes = d.head.nodes; racks = d.head.racks } in h)) g) a)
        (answer-written d.head.answer) (grouping-written d.head.grouping)

-- the format is 2, and the protections are there
pub second-written : (servers reservations : List (List ℕ)) (d : SeenDocument) → is_format 2 (document_data servers reservations d) ≡ true
second-written servers reservations d = by d.rack
  where
    by : (rack : Option SeenPart) → is_format 2 (document_data servers reservations (record d { rack = rack })) ≡ true
    by None = refl
    by (Some r) = refl

pub protection-there : (servers reservations : List (List ℕ)) (d : SeenDocument)
    → get (codes "protection") (document_data servers reservations d) ≡ Some (protection_data reservations d.protection)
protection-there servers reservations d = by d.rack
  where
    by : (rack : Option SeenPart) → get (codes "protection") (document_data servers reservations (record d { rack = rack })) ≡ Some (protection_data reservations d.protection)
    by None = refl
    by (Some r) = refl

pub protection-fitting : (servers reservations : List (List ℕ)) (d : SeenDocument) → protection_fits true (document_data servers reservations d) ≡ true
protection-fitting servers reservations d =
    ap (λ (o : Option Data). members_are_protections (option_and_then as_object o)) (protection-there servers reservations d)
    ∙ protections-fit reservations 0 d.protection no_members refl

pub named-written : (servers reservations : List (List ℕ)) → AreServers reservations → AreApart reservations → (d : SeenDocument) → length d.protection ≡ length reservations
    → named_top reservations (document_data servers reservations d) ≡ Ok d.protection
named-written servers reservations known apart d all =
    let whole = document_data servers reservations d in
    ap (λ (second : Bool). ok_or place.Top why.Name (protections_of reservations second whole)) (second-written servers reservations d)
    ∙ (ap (λ (o : Option Data). ok_or place.Top why.Name (option_and_then (named_protections reservations) o)) (protection-there servers reservations d)
    ∙ ap (ok_or place.Top why.Name) (protections-written reservations known apart d.protection all))

-- the region part of a document, and whether it has an assignment
pub region-there : (servers reservations : List (List ℕ)) (d : SeenDocument)
    → get (codes "region") (document_data servers reservations d) ≡ Some (region_data servers reservations d.region.plan d.region.lower d.region.nodes)
region-there servers reservations d = by d.rack
  where
    by : (rack : Option SeenPart) → get (codes "region") (document_data servers reservations (record d { rack = rack })) ≡ Some (region_data servers reservations d.region.plan d.region.lower d.region.nodes)
    by None = refl
    by (Some r) = refl

pub assigned-data : (servers reservations : List (List ℕ)) (plan : Option Planned) (lower : Option ℕ) (nodes : List Shape)
    → is_some (get (codes "assignment") (region_data servers reservations plan lower nodes)) ≡ is_some plan
assigned-data servers reservations None None nodes = refl
assigned-data servers reservations None (Some l) nodes = refl
assigned-data servers reservations (Some p) lower nodes = refl

pub assigned-written : (servers reservations : List (List ℕ)) (d : SeenDocument) → region_has_assignment (document_data servers reservations d) ≡ is_some d.region.plan
assigned-written servers reservations d =
    ap (λ (o : Option Data). is_some (option_and_then (get (codes "assignment")) o)) (region-there servers reservations d)
    ∙ assigned-data servers reservations d.region.plan d.region.lower d.region.nodes

-- what the rack part of a document is
abbrev pub rack_written : List (List ℕ) → List (List ℕ) → Option SeenPart → Option Data
rack_written servers reservations None = None
rack_written servers reservations (Some r) = Some (rack_data servers reservations r.chosen r.plan r.lower r.nodes)

pub rack-there : (servers reservations : List (List ℕ)) (d : SeenDocument) → get (codes "rack") (document_data servers reservations d) ≡ rack_written servers reservations d.rack
rack-there servers reservations d = by d.rack
  where
    by : (rack : Option SeenPart) → get (codes "rack") (document_data servers reservations (record d { rack = rack })) ≡ rack_written servers reservations rack
    by None = refl
    by (Some r) = refl

-- a rack part stands only where it may
abbrev pub StandsBeside : SeenDocument → Type 0
StandsBeside d = is_some d.rack ≡ true → may_have_rack (form_of d.head.answer (is_some d.region.plan)) ≡ true

if-beside : (there : Bool) (may : Bool) → (there ≡ true → may ≡ true) → (not there || may) ≡ true
if-beside true may h = h refl
if-beside false may h = refl

rack-some : (servers reservations : List (List ℕ)) (rack : Option SeenPart) → is_some (rack_written servers reservations rack) ≡ is_some rack
rack-some servers reservations None = refl
rack-some servers reservations (Some r) = refl

pub allowed-written : (servers reservations : List (List ℕ)) (d : SeenDocument) → StandsBeside d → rack_allowed (document_data servers reservations d) d.head ≡ true
allowed-written servers reservations d h =
    ap₂ (λ (there assigned : Bool). not there || may_have_rack (form_of d.head.answer assigned))
    (ap is_some (rack-there servers reservations d) ∙ rack-some servers reservations d.rack) (assigned-written servers reservations d)
    ∙ if-beside (is_some d.rack) (may_have_rack (form_of d.head.answer (is_some d.region.plan))) h

pub top-shaped : (servers reservations : List (List ℕ)) (d : SeenDocument) → top_shape (document_data servers reservations d) ≡ option_and_then (if_rack_allowed (document_data servers reservations d)) (head_of (document_data servers reservations d))
top-shaped servers reservations d = by d.rack
  where
    by : (rack : Option SeenPart) → (let e : SeenDocument = record d { rack = rack } in
        top_shape (document_data servers reservations e) ≡ option_and_then (if_rack_allowed (document_data servers reservations e)) (head_of (document_data servers reservations e)))
    by None =
        let e : SeenDocument = record d { rack = None } in
        let whole = document_data servers reservations e in
        ap (λ (b : Bool). if b then option_and_then (if_rack_allowed whole) (head_of whole) else None) (protections-shaped reservations 0 d.protection no_members refl)
    by (Some r) =
        let e : SeenDocument = record d { rack = Some r } in
        let whole = document_data servers reservations e in
        ap (λ (b : Bool). if b then option_and_then (if_rack_allowed whole) (head_of whole) else None) (protections-shaped reservations 0 d.protection no_members refl)

either-true : (a : Bool) → (a || true) ≡ true
either-true true = refl
either-true false = refl

pub top-written : (servers reservations : List (List ℕ)) (d : SeenDocument) → head_fits d.head ≡ true → StandsBeside d
    → top_of (document_data servers reservations d) ≡ Ok d.head
top-written servers reservations d fit beside =
    let whole = document_data servers reservations d in
    let shape : top_shape whole ≡ Some d.head =
    top-shaped servers reservations d
    ∙ ap (option_and_then (if_rack_allowed whole)) (head-written servers reservations d)
    ∙ ap (λ (b : Bool). if b then Some d.head else None) (allowed-written servers reservations d beside) in
    ap (λ (o : Option Head). and_then (ok_or place.Top why.Shape o) (ranged_head whole)) shape
    ∙ (ap (λ (second : Bool). if not (is_format 1 whole || second) then Err (At place.Top why.Format)
    else if not (head_fits d.head && protection_fits second whole) then Err (At place.Top why.Range) else Ok d.head) (second-written servers reservations d)
    ∙ (ap (λ (a : Bool). if not a then Err (At place.Top why.Format)
    else if not (head_fits d.head && protection_fits true whole) then Err (At place.Top why.Range) else Ok d.head) (either-true (is_format 1 whole))
    ∙ ap₂ (λ (a b : Bool). if not (a && b) then Err (At place.Top why.Range) else Ok d.head) fit (protection-fitting servers reservations d)))

-- the steps of a document, once each of its parts is read again
pub document-steps : (servers reservations : List (List ℕ)) (d : SeenDocument) → top_of (document_data servers reservations d) ≡ Ok d.head
    → named_top reservations (document_data servers reservations d) ≡ Ok d.protection
    → region_in servers reservations (form_of d.head.answer (is_some d.region.plan)) (Some (region_data servers reservations d.region.plan d.region.lower d.region.nodes)) ≡ Ok d.region
    → rack_in servers reservations (rack_written servers reservations d.rack) ≡ Ok d.rack
    → document_in servers reservations (document_data servers reservations d) ≡ Ok d
document-steps servers reservations d top named region rack =
    let whole = document_data servers reservations d in
    let made : Head → List Protection → SeenPart → Option SeenPart → Result SeenDocument DocFault = λ h ps p r. Ok (record { head = h; protection = ps; region = p; rack = r }) in
    let last : Head → SeenPart → Option SeenPart → Result SeenDocument DocFault = λ h p r. made h d.protection p r in
    ap₂ (λ (t : Result Head DocFault) (n : Result (List Protection) DocFault). and_then t (λ h. and_then n (λ ps.
    and_then (region_in servers reservations (form_of h.answer (region_has_assignment whole)) (get (codes "region") whole)) (λ p.
    and_then (rack_in servers reservations (get (codes "rack") whole)) (λ r. made h ps p r))))) top named
    ∙ ap₂ (λ (b : Bool) (o : Option Data).
    and_then (region_in servers reservations (form_of d.head.answer b) o) (λ p.
    and_then (rack_in servers reservations (get (codes "rack") whole)) (λ r. last d.head p r))) (assigned-written servers reservations d) (region-there servers reservations d)
    ∙ ap₂ (λ (p : Result SeenPart DocFault) (o : Option Data). and_then p (λ p. and_then (rack_in servers reservations o) (λ r. last d.head p r))) region (rack-there servers reservations d)
    ∙ ap (λ (r : Result (Option SeenPart) DocFault). and_then r (λ r. last d.head d.region r)) rack
