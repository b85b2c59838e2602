-- What was written is read again: a document.
use Rattle.std.proofs.Common.{arith, ℕ, ◌≡◌, ◌∙◌, ◌<◌, ◌≤◌, ◌^◌, sym, ap, refl, true, false, List, [], ◌∷◌, ◌++◌, map, length, nat_le, is_some, All, Option, Some, None, option_map}
use Rattle.std.specs.Prelude.{IfSome, Result, Ok}
use Rattle.std.specs.Str.{IsUtf8}
use Rattle.std.proofs.lemmas.Bool.{le-leb}
use Rattle.std.proofs.lemmas.List.{length-map}
use Rattle.json.specs.Lex.{tokens}
use Rattle.json.specs.Print.{print}
use Rattle.serde_json.specs.Read.{read}
use Rattle.serde_json.specs.Written.{compact_text}
use Rattle.ras_table.specs.Names.{names_differ}
use Rattle.plan_document.specs.Seen.{seen_node}
use Rattle.plan_document.specs.Faults.{and_then}
use Rattle.plan_document.specs.Parts.{SeenPart, seen_part, stated_fits, at_most, part_at}
use Rattle.plan_document.specs.Documents.{form_of, rack_in, seen_rack, seen_document, document_in, of_value, document_of}
use Rattle.plan_document.specs.Written.{region_data, rack_data, document_data}
use Rattle.plan_document.specs.Writable.{PlanIsInRange, HasForm, PartCanBeWritten, RackCanBeWritten, CanBeWritten}
use Rattle.plan_document.specs.declared.shape.Shape.{Shape}
use Rattle.plan_document.specs.declared.part.Planned.{Planned}
use Rattle.plan_document.specs.declared.part.Part.{Part}
use Rattle.plan_document.specs.declared.part.RackPart.{RackPart}
use Rattle.plan_document.specs.declared.part.Form.{Form}
use Rattle.plan_document.specs.declared.part.Form.TheVariants as form
use Rattle.plan_document.specs.declared.document.Document.{Document}
use Rattle.plan_document.specs.declared.fault.DocFault.{DocFault}
use Rattle.plan_document.proofs.LineFeed.{json-line}
use Rattle.plan_document.proofs.PartLaw.{AllWritten, AreServers}
use Rattle.plan_document.proofs.RegionLaw.{stated_by, region-written}
use Rattle.plan_document.proofs.RackLaw.{rack-written}
use Rattle.plan_document.proofs.ShortLaw.{short-written}
use Rattle.plan_document.proofs.TopLaw.{rack_written, named-written, top-written, document-steps}
use Rattle.plan_document.proofs.RangeLaw.{both-are, nodes-fit}
use Rattle.plan_document.proofs.NamesLaw.{servers-numbered, servers-apart, places-named, chosen-named}

pub claim-fits : (servers reservations : List (List ℕ)) (p : Planned) (lower : ℕ) → PlanIsInRange servers reservations p → lower ≤ 2 ^ 62 → stated_fits (stated_by p lower) ≡ true
claim-fits servers reservations p lower h most =
    both-are _ _ (both-are _ _ (le-leb p.value (2 ^ 62) h.value_most) (le-leb p.gap (2 ^ 62) h.gap_most)) (le-leb lower (2 ^ 62) most)

lower-fits : (lower : Option ℕ) → IfSome lower (λ l. l ≤ 2 ^ 62) → at_most (2 ^ 62) lower ≡ true
lower-fits None h = refl
lower-fits (Some l) h = le-leb l (2 ^ 62) h

-- a region part of a form
pub region-again : (servers reservations : List (List ℕ)) → AreServers servers → AreServers reservations → (f : Form) (plan : Option Planned) (lower : Option ℕ) (nodes : List Shape)
    → HasForm f plan lower → IfSome plan (PlanIsInRange servers reservations) → IfSome lower (λ l. l ≤ 2 ^ 62) → nat_le 1 (length nodes) ≡ true → AllWritten nodes
    → part_at servers reservations false f (region_data servers reservations plan lower nodes) ≡ Ok (record { plan = plan; lower = lower; nodes = nodes; chosen = [] })
region-again servers reservations there known form.Planned None lower nodes form p l some written = absurd (let e = form.0 in cc)
region-again servers reservations there known form.Planned (Some p) None nodes form h l some written = absurd (let e = form.1 in cc)
region-again servers reservations there known form.Planned (Some p) (Some lower) nodes form h l some written =
    region-written servers reservations p lower nodes some written (claim-fits servers reservations p lower h l) (servers-apart servers there) there h.places (places-named reservations known p.of.of h.there)
region-again servers reservations there known form.Bounded (Some p) lower nodes form h l some written = absurd (let e = form.0 in cc)
region-again servers reservations there known form.Bounded None None nodes form h l some written = absurd (let e = form.1 in cc)
region-again servers reservations there known form.Bounded None (Some lower) nodes form h l some written = short-written servers reservations (Some lower) nodes some written (lower-fits (Some lower) l)
region-again servers reservations there known form.Bare (Some p) lower nodes form h l some written = absurd (let e = form.0 in cc)
region-again servers reservations there known form.Bare None (Some lower) nodes form h l some written = absurd (let e = form.1 in cc)
region-again servers reservations there known form.Bare None None nodes form h l some written = short-written servers reservations None nodes some written refl

-- a rack part
pub rack-again : (servers reservations : List (List ℕ)) → AreServers servers → AreServers reservations → (plan : Option Planned) (lower : Option ℕ) (nodes : List Shape) (chosen : List ℕ)
    → HasForm form.Planned plan lower → IfSome plan (PlanIsInRange servers reservations) → IfSome lower (λ l. l ≤ 2 ^ 62) → nat_le 1 (length nodes) ≡ true → AllWritten nodes
    → 1 ≤ length chosen → length chosen ≤ 64 → All (λ n. n < length reservations) chosen
    → part_at servers reservations true form.Planned (rack_data servers reservations chosen plan lower nodes) ≡ Ok (record { plan = plan; lower = lower; nodes = nodes; chosen = chosen })
rack-again servers reservations there known None lower nodes chosen form h l some written least most those = absurd (let e = form.0 in cc)
rack-again servers reservations there known (Some p) None nodes chosen form h l some written least most those = absurd (let e = form.1 in cc)
rack-again servers reservations there known (Some p) (Some lower) nodes chosen form h l some written least most those =
    rack-written servers reservations chosen p lower nodes some written (claim-fits servers reservations p lower h l) (le-leb 1 (length chosen) least) (le-leb (length chosen) 64 most)
    (servers-apart servers there) there h.places (places-named reservations known p.of.of h.there) (chosen-named reservations known chosen those)

nodes-some : (p : Part) → nat_le 1 (length (map seen_node p.tree.nodes)) ≡ true
nodes-some p = ap (nat_le 1) (length-map p.tree.nodes seen_node) ∙ le-leb 1 (length p.tree.nodes) (omega (arith, p.tree.has_root))

pub region-part : (servers reservations : List (List ℕ)) → AreServers servers → AreServers reservations → (f : Form) (p : Part) → PartCanBeWritten servers reservations f p
    → part_at servers reservations false f (region_data servers reservations p.plan p.lower (map seen_node p.tree.nodes)) ≡ Ok (seen_part p [])
region-part servers reservations there known f p h =
    region-again servers reservations there known f p.plan p.lower (map seen_node p.tree.nodes) h.form h.plan h.lower_most (nodes-some p) (nodes-fit p.tree.nodes h.nodes)

pub rack-part : (servers reservations : List (List ℕ)) → AreServers servers → AreServers reservations → (r : Option RackPart) → IfSome r (RackCanBeWritten servers reservations)
    → rack_in servers reservations (rack_written servers reservations (option_map seen_rack r)) ≡ Ok (option_map seen_rack r)
rack-part servers reservations there known None h = refl
rack-part servers reservations there known (Some r) h =
    let p = r.part in
    ap (λ (q : Result SeenPart DocFault). and_then q (λ s. Ok (Some s)))
    (rack-again servers reservations there known p.plan p.lower (map seen_node p.tree.nodes) r.chosen h.part.form h.part.plan h.part.lower_most (nodes-some p) (nodes-fit p.tree.nodes h.part.nodes)
    h.chosen_least h.chosen_most h.chosen_there)

beside-seen : (r : Option RackPart) → is_some (option_map seen_rack r) ≡ is_some r
beside-seen None = refl
beside-seen (Some r) = refl

-- the value of a document is that document
pub value-again : (servers reservations : List (List ℕ)) → names_differ servers ≡ true → names_differ reservations ≡ true → (d : Document) → CanBeWritten servers reservations d
    → document_in servers reservations (document_data servers reservations (seen_document d)) ≡ Ok (seen_document d)
value-again servers reservations apart differ d h =
    let there = servers-numbered servers apart in
    let known = servers-numbered reservations differ in
    let e = seen_document d in
    document-steps servers reservations e
    (top-written servers reservations e
    (both-are _ _ (both-are _ _ (both-are _ _ (le-leb d.gap 1000000000000 h.gap_most) (le-leb 1 d.nodes h.nodes_least)) (le-leb d.nodes 20000 h.nodes_most)) (le-leb d.racks 64 h.racks_most))
    (λ some. h.beside (sym (beside-seen d.rack) ∙ some)))
    (named-written servers reservations known (servers-apart reservations known) e h.protections)
    (region-part servers reservations there known (form_of d.answer (is_some d.region.plan)) d.region h.region)
    (rack-part servers reservations there known d.rack h.rack)

-- the text of a document is that document
pub text-again : (servers reservations : List (List ℕ)) → names_differ servers ≡ true → names_differ reservations ≡ true → (d : Document) → CanBeWritten servers reservations d
    → (text : List ℕ) → text ≡ compact_text (document_data servers reservations (seen_document d)) → IsUtf8 text → text ≡ print (tokens text)
    → read text ≡ Some (document_data servers reservations (seen_document d)) → document_of servers reservations (text ++ 10 ∷ []) ≡ Ok (seen_document d)
text-again servers reservations apart differ d h text written utf8 printed is =
    ap (of_value servers reservations) (json-line text _ (document_data servers reservations (seen_document d)) written utf8 printed is)
    ∙ value-again servers reservations apart differ d h
