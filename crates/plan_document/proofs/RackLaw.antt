-- What was written is read again: a rack part.
use Rattle.std.proofs.Common.{arith, ℕ, ◌≡◌, ◌∙◌, ◌&&◌, ap, ap₂, refl, Bool, true, List, [], ◌∷◌, map, length, nat_le, Option, Some, None, option_and_then, if◌then◌else◌}
use Rattle.std.specs.Prelude.{Result, Ok}
use Rattle.std.specs.List.{list_all}
use Rattle.std.proofs.lemmas.List.{length-map}
use Rattle.serde_json.specs.Data.{Data, string, no_members}
use Rattle.serde_json.specs.View.{items_of}
use Rattle.ras_table.specs.Names.{number_of}
use Rattle.plan_model.specs.declared.Assignment.{Assignment}
use Rattle.plan_document.specs.Numbers.{items_list}
use Rattle.plan_document.specs.Members.{is_text}
use Rattle.plan_document.specs.Faults.{ok_or, and_then}
use Rattle.plan_document.specs.Parts.{SeenPart, part_shape, stated_fits, if_stated_fits, plan_of, nodes_at, nodes_from, named_part, part_at, with_chosen_one, chosen_of, chosen_at}
use Rattle.plan_document.specs.Written.{name_of, node_data, rack_planned}
use Rattle.plan_document.specs.declared.shape.Shape.{Shape}
use Rattle.plan_document.specs.declared.part.Planned.{Planned}
use Rattle.plan_document.specs.declared.part.Stated.{Stated}
use Rattle.plan_document.specs.declared.part.Form.TheVariants as form
use Rattle.plan_document.specs.declared.fault.DocPlace.TheVariants as place
use Rattle.plan_document.specs.declared.fault.DocWhy.TheVariants as why
use Rattle.plan_document.specs.declared.fault.DocFault.{DocFault}
use Rattle.plan_document.proofs.NumbersLemmas.{items-of}
use Rattle.plan_document.proofs.AssignmentLaw.{AreApart, AreNamed, places-written}
use Rattle.plan_document.proofs.PartLaw.{AllWritten, AreServers, nodes-written, texts-written, known-written}
use Rattle.plan_document.proofs.RegionLaw.{stated_by}

-- each chosen reservation is the number of its name
abbrev pub AreChosen : List (List ℕ) → List ℕ → Type 0
AreChosen names [] = Unit {0}
AreChosen names (n ∷ ns) = (number_of names (name_of names n) ≡ Some n) × AreChosen names ns

-- the texts of chosen reservations
abbrev pub chosen_texts : List (List ℕ) → List ℕ → List Data
chosen_texts reservations chosen = map (λ n. string (name_of reservations n)) chosen

pub chosen-texts : (reservations : List (List ℕ)) (chosen : List ℕ) → list_all is_text (chosen_texts reservations chosen) ≡ true
chosen-texts reservations [] = refl
chosen-texts reservations (n ∷ ns) = chosen-texts reservations ns

pub chosen-written : (reservations : List (List ℕ)) (chosen : List ℕ) → AreChosen reservations chosen → chosen_of reservations (chosen_texts reservations chosen) ≡ Some chosen
chosen-written reservations [] h = refl
chosen-written reservations (n ∷ ns) h = ap₂ with_chosen_one h.0 (chosen-written reservations ns h.1)

pub rack-shape : (servers reservations : List (List ℕ)) (chosen : List ℕ) (p : Planned) (lower : ℕ) (nodes : List Shape) → nat_le 1 (length nodes) ≡ true
    → nat_le 1 (length chosen) ≡ true → nat_le (length chosen) 64 ≡ true
    → part_shape true form.Planned (rack_planned servers reservations chosen p (Some lower) nodes) ≡ Some (stated_by p lower)
rack-shape servers reservations chosen p lower nodes some least most =
    let texts = chosen_texts reservations chosen in
    let count : nat_le 1 (length (items_list (items_of (map node_data nodes)))) ≡ true =
    ap (λ (ds : List Data). nat_le 1 (length ds)) (items-of (map node_data nodes)) ∙ (ap (λ n. nat_le 1 n) (length-map nodes node_data) ∙ some) in
    let all : (nat_le 1 (length (items_list (items_of texts))) && nat_le (length (items_list (items_of texts))) 64 && list_all is_text (items_list (items_of texts))) ≡ true =
    ap (λ (ds : List Data). nat_le 1 (length ds) && nat_le (length ds) 64 && list_all is_text ds) (items-of texts)
    ∙ ap₂ (λ (n : ℕ) (b : Bool). nat_le 1 n && nat_le n 64 && b) (length-map chosen (λ n. string (name_of reservations n))) (chosen-texts reservations chosen)
    ∙ ap₂ (λ (a b : Bool). a && b && true) least most in
    ap (λ (a : Bool). if true && a && nat_le 1 (length (items_list (items_of (map node_data nodes))))
    && (nat_le 1 (length (items_list (items_of texts))) && nat_le (length (items_list (items_of texts))) 64 && list_all is_text (items_list (items_of texts)))
    then Some (stated_by p lower) else None) (texts-written servers reservations 0 p.of.of no_members refl)
    ∙ ap₂ (λ (b c : Bool). if true && true && b && c then Some (stated_by p lower) else None) count all

pub rack-nodes : (servers reservations : List (List ℕ)) (chosen : List ℕ) (p : Planned) (lower : ℕ) (nodes : List Shape) → AllWritten nodes
    → nodes_at true (rack_planned servers reservations chosen p (Some lower) nodes) ≡ Ok nodes
rack-nodes servers reservations chosen p lower nodes written =
    ap (nodes_from true 0 []) (items-of (map node_data nodes)) ∙ nodes-written true 0 [] nodes written

pub rack-plan : (servers reservations : List (List ℕ)) (chosen : List ℕ) (p : Planned) (lower : ℕ) (nodes : List Shape) → AreApart servers → AreServers servers → length p.of.of ≡ length servers → AreNamed reservations p.of.of
    → plan_of servers reservations (Some (record { value = p.value; gap = p.gap })) (rack_planned servers reservations chosen p (Some lower) nodes) ≡ Some (Some p)
rack-plan servers reservations chosen p lower nodes apart there all named =
    ap₂ (λ (b : Bool) (places : List (Option ℕ)). option_and_then (λ (of : Assignment). Some (Some (let q : Planned = record { of = of; value = p.value; gap = p.gap } in q)))
    (if b then Some (let a : Assignment = record { of = places } in a) else None))
    (known-written servers reservations there 0 p.of.of no_members (omega (arith, all)) named refl) (places-written servers reservations p.of.of apart all named)

pub rack-chosen : (servers reservations : List (List ℕ)) (chosen : List ℕ) (p : Planned) (lower : ℕ) (nodes : List Shape) → AreChosen reservations chosen
    → chosen_at reservations true (rack_planned servers reservations chosen p (Some lower) nodes) ≡ Some chosen
rack-chosen servers reservations chosen p lower nodes named =
    ap (chosen_of reservations) (items-of (chosen_texts reservations chosen)) ∙ chosen-written reservations chosen named

-- the last two steps
pub rack-named : (servers reservations : List (List ℕ)) (chosen : List ℕ) (p : Planned) (lower : ℕ) (nodes : List Shape) → AllWritten nodes
    → AreApart servers → AreServers servers → length p.of.of ≡ length servers → AreNamed reservations p.of.of → AreChosen reservations chosen
    → named_part servers reservations true (stated_by p lower) (rack_planned servers reservations chosen p (Some lower) nodes) ≡ Ok (record { plan = Some p; lower = Some lower; nodes = nodes; chosen = chosen })
rack-named servers reservations chosen p lower nodes written apart there all named those =
    let d = rack_planned servers reservations chosen p (Some lower) nodes in
    let made : Option Planned → List ℕ → List Shape → SeenPart = λ plan cs ns. record { plan = plan; lower = Some lower; nodes = ns; chosen = cs } in
    ap (λ (o : Option (Option Planned)). and_then (ok_or place.Rack why.Name o) (λ plan.
    and_then (ok_or place.Rack why.Name (chosen_at reservations true d)) (λ cs. and_then (nodes_at true d) (λ ns. Ok (made plan cs ns)))))
    (rack-plan servers reservations chosen p lower nodes apart there all named)
    ∙ ap₂ (λ (o : Option (List ℕ)) (r : Result (List Shape) DocFault). and_then (ok_or place.Rack why.Name o) (λ cs. and_then r (λ ns. Ok (made (Some p) cs ns))))
    (rack-chosen servers reservations chosen p lower nodes those) (rack-nodes servers reservations chosen p lower nodes written)

pub rack-written : (servers reservations : List (List ℕ)) (chosen : List ℕ) (p : Planned) (lower : ℕ) (nodes : List Shape) → nat_le 1 (length nodes) ≡ true → AllWritten nodes
    → stated_fits (stated_by p lower) ≡ true → nat_le 1 (length chosen) ≡ true → nat_le (length chosen) 64 ≡ true
    → AreApart servers → AreServers servers → length p.of.of ≡ length servers → AreNamed reservations p.of.of → AreChosen reservations chosen
    → part_at servers reservations true form.Planned (rack_planned servers reservations chosen p (Some lower) nodes) ≡ Ok (record { plan = Some p; lower = Some lower; nodes = nodes; chosen = chosen })
rack-written servers reservations chosen p lower nodes some written fit least most apart there all named those =
    let d = rack_planned servers reservations chosen p (Some lower) nodes in
    let last = λ (s : Stated). named_part servers reservations true s d in
    ap (λ (o : Option Stated). and_then (ok_or place.Rack why.Shape o) (λ stated. and_then (ok_or place.Rack why.Range (if_stated_fits stated)) last)) (rack-shape servers reservations chosen p lower nodes some least most)
    ∙ (ap (λ (b : Bool). and_then (ok_or place.Rack why.Range (if b then Some (stated_by p lower) else None)) last) fit
    ∙ rack-named servers reservations chosen p lower nodes written apart there all named those)
