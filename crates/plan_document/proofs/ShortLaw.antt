-- What was written is read again: a region part without a plan.
use Rattle.std.proofs.Common.{ℕ, ◌^◌, ◌≡◌, ◌∙◌, ◌&&◌, ap, Bool, true, false, List, [], map, length, nat_le, Option, Some, None, if◌then◌else◌}
use Rattle.std.specs.Prelude.{Result, Ok}
use Rattle.std.proofs.lemmas.List.{length-map}
use Rattle.serde_json.specs.Data.{Data}
use Rattle.serde_json.specs.View.{items_of}
use Rattle.plan_document.specs.Numbers.{items_list}
use Rattle.plan_document.specs.Faults.{ok_or, and_then}
use Rattle.plan_document.specs.Parts.{SeenPart, part_shape, at_most, if_stated_fits, nodes_at, nodes_from, named_part, part_at}
use Rattle.plan_document.specs.Written.{node_data, bound_data}
use Rattle.plan_document.specs.declared.shape.Shape.{Shape}
use Rattle.plan_document.specs.declared.part.Stated.{Stated}
use Rattle.plan_document.specs.declared.part.Form.{Form}
use Rattle.plan_document.specs.declared.part.Form.TheVariants as form
use Rattle.plan_document.specs.declared.fault.DocPlace.TheVariants as place
use Rattle.plan_document.specs.declared.fault.DocWhy.TheVariants as why
use Rattle.plan_document.specs.declared.fault.DocFault.{DocFault}
use Rattle.plan_document.proofs.NumbersLemmas.{items-of}
use Rattle.plan_document.proofs.PartLaw.{AllWritten, nodes-written}

abbrev pub stated_bound : Option ℕ → Stated
stated_bound lower = record { claim = None; lower = lower }

-- the form of a part without a plan
abbrev pub short_form : Option ℕ → Form
short_form None = form.Bare
short_form (Some l) = form.Bounded

count-nodes : (nodes : List Shape) → nat_le 1 (length nodes) ≡ true → nat_le 1 (length (items_list (items_of (map node_data nodes)))) ≡ true
count-nodes nodes some =
    ap (λ (ds : List Data). nat_le 1 (length ds)) (items-of (map node_data nodes)) ∙ (ap (λ n. nat_le 1 n) (length-map nodes node_data) ∙ some)

pub short-shape : (lower : Option ℕ) (nodes : List Shape) → nat_le 1 (length nodes) ≡ true
    → part_shape false (short_form lower) (bound_data lower nodes) ≡ Some (stated_bound lower)
short-shape None nodes some = ap (λ (b : Bool). if true && true && b && true then Some (stated_bound None) else None) (count-nodes nodes some)
short-shape (Some l) nodes some = ap (λ (b : Bool). if true && true && b && true then Some (stated_bound (Some l)) else None) (count-nodes nodes some)

pub short-nodes : (lower : Option ℕ) (nodes : List Shape) → AllWritten nodes → nodes_at false (bound_data lower nodes) ≡ Ok nodes
short-nodes None nodes written = ap (nodes_from false 0 []) (items-of (map node_data nodes)) ∙ nodes-written false 0 [] nodes written
short-nodes (Some l) nodes written = ap (nodes_from false 0 []) (items-of (map node_data nodes)) ∙ nodes-written false 0 [] nodes written

pub short-written : (servers reservations : List (List ℕ)) (lower : Option ℕ) (nodes : List Shape) → nat_le 1 (length nodes) ≡ true → AllWritten nodes → at_most (2 ^ 62) lower ≡ true
    → part_at servers reservations false (short_form lower) (bound_data lower nodes) ≡ Ok (record { plan = None; lower = lower; nodes = nodes; chosen = [] })
short-written servers reservations lower nodes some written fit =
    let d = bound_data lower nodes in
    let last = λ (s : Stated). named_part servers reservations false s d in
    let made : List Shape → SeenPart = λ ns. record { plan = None; lower = lower; nodes = ns; chosen = [] } in
    ap (λ (o : Option Stated). and_then (ok_or place.Region why.Shape o) (λ stated. and_then (ok_or place.Region why.Range (if_stated_fits stated)) last)) (short-shape lower nodes some)
    ∙ (ap (λ (b : Bool). and_then (ok_or place.Region why.Range (if b then Some (stated_bound lower) else None)) last) fit
    ∙ ap (λ (r : Result (List Shape) DocFault). and_then r (λ ns. Ok (made ns))) (short-nodes lower nodes written))
