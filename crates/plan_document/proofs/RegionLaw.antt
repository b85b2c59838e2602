-- What was written is read again: a region part with a plan.
use Rattle.std.proofs.Common.{arith, ℕ, ◌≡◌, ◌∙◌, ◌&&◌, ap, ap₂, refl, Bool, true, false, List, [], map, length, nat_le, Option, Some, None, option_and_then, if◌then◌else◌}
use Rattle.std.specs.Prelude.{Result, Ok}
use Rattle.std.proofs.lemmas.List.{length-map}
use Rattle.serde_json.specs.Data.{Data, no_members}
use Rattle.serde_json.specs.View.{items_of}
use Rattle.plan_model.specs.declared.Assignment.{Assignment}
use Rattle.plan_document.specs.Numbers.{items_list}
use Rattle.plan_document.specs.Faults.{ok_or, and_then}
use Rattle.plan_document.specs.Parts.{SeenPart, part_shape, stated_fits, if_stated_fits, plan_of, nodes_at, nodes_from, named_part, part_at}
use Rattle.plan_document.specs.Written.{node_data, planned_data}
use Rattle.plan_document.specs.declared.shape.Shape.{Shape}
use Rattle.plan_document.specs.declared.part.Planned.{Planned}
use Rattle.plan_document.specs.declared.part.Stated.{Stated}
use Rattle.plan_document.specs.declared.part.Form.TheVariants as form
use Rattle.plan_document.specs.declared.fault.DocPlace.TheVariants as place
use Rattle.plan_document.specs.declared.fault.DocWhy.TheVariants as why
use Rattle.plan_document.specs.declared.fault.DocFault.{DocFault}
use Rattle.plan_document.proofs.NumbersLemmas.{items-of}
use Rattle.plan_document.proofs.AssignmentLaw.{AreApart, AreNamed, places-written}
use Rattle.plan_document.proofs.PartLaw.{AllWritten, AreServers, nodes-written, texts-written, known-written}

-- the numbers that such a part states
abbrev pub stated_by : Planned → ℕ → Stated
stated_by p lower = record { claim = Some (record { value = p.value; gap = p.gap }); lower = Some lower }

pub region-shape : (servers reservations : List (List ℕ)) (p : Planned) (lower : ℕ) (nodes : List Shape) → nat_le 1 (length nodes) ≡ true
    → part_shape false form.Planned (planned_data servers reservations p (Some lower) nodes) ≡ Some (stated_by p lower)
region-shape servers reservations p lower nodes some =
    let count : nat_le 1 (length (items_list (items_of (map node_data nodes)))) ≡ true =
    ap (λ (ds : List Data). nat_le 1 (length ds)) (items-of (map node_data nodes)) ∙ (ap (λ n. nat_le 1 n) (length-map nodes node_data) ∙ some) in
    ap₂ (λ (a b : Bool). if true && a && b && true then Some (stated_by p lower) else None)
    (texts-written servers reservations 0 p.of.of no_members refl) count

pub region-nodes : (servers reservations : List (List ℕ)) (p : Planned) (lower : ℕ) (nodes : List Shape) → AllWritten nodes
    → nodes_at false (planned_data servers reservations p (Some lower) nodes) ≡ Ok nodes
region-nodes servers reservations p lower nodes written =
    ap (nodes_from false 0 []) (items-of (map node_data nodes)) ∙ nodes-written false 0 [] nodes written

pub region-plan : (servers reservations : List (List ℕ)) (p : Planned) (lower : ℕ) (nodes : List Shape) → AreApart servers → AreServers servers → length p.of.of ≡ length servers → AreNamed reservations p.of.of
    → plan_of servers reservations (Some (record { value = p.value; gap = p.gap })) (planned_data servers reservations p (Some lower) nodes) ≡ Some (Some p)
region-plan servers reservations p lower nodes apart there all named =
    ap₂ (λ (b : Bool) (places : List (Option ℕ)). option_and_then (λ (of : Assignment). Some (Some (let q : Planned = record { of = of; value = p.value; gap = p.gap } in q)))
    (if b then Some (let a : Assignment = record { of = places } in a) else None))
    (known-written servers reservations there 0 p.of.of no_members (omega (arith, all)) named refl) (places-written servers reservations p.of.of apart all named)

pub region-written : (servers reservations : List (List ℕ)) (p : Planned) (lower : ℕ) (nodes : List Shape) → nat_le 1 (length nodes) ≡ true → AllWritten nodes → stated_fits (stated_by p lower) ≡ true
    → AreApart servers → AreServers servers → length p.of.of ≡ length servers → AreNamed reservations p.of.of
    → part_at servers reservations false form.Planned (planned_data servers reservations p (Some lower) nodes) ≡ Ok (record { plan = Some p; lower = Some lower; nodes = nodes; chosen = [] })
region-written servers reservations p lower nodes some written fit apart there all named =
    let d = planned_data servers reservations p (Some lower) nodes in
    let last = λ (s : Stated). named_part servers reservations false s d in
    let made : Option Planned → List Shape → SeenPart = λ plan ns. record { plan = plan; lower = Some lower; nodes = ns; chosen = [] } in
    ap (λ (o : Option Stated). and_then (ok_or place.Region why.Shape o) (λ stated. and_then (ok_or place.Region why.Range (if_stated_fits stated)) last)) (region-shape servers reservations p lower nodes some)
    ∙ (ap (λ (b : Bool). and_then (ok_or place.Region why.Range (if b then Some (stated_by p lower) else None)) last) fit
    ∙ ap₂ (λ (o : Option (Option Planned)) (r : Result (List Shape) DocFault). and_then (ok_or place.Region why.Name o) (λ plan. and_then r (λ ns. Ok (made plan ns))))
    (region-plan servers reservations p lower nodes apart there all named) (region-nodes servers reservations p lower nodes written))
