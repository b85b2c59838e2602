-- What was read can be written.
use Rattle.std.proofs.Common.{ℕ, ◌≡◌, ◌∙◌, ◌&&◌, ◌||◌, not, sym, ap, refl, subst, Bool, true, false, List, [], length, codes, nat_le, is_some, Option, Some, None, option_map, option_and_then, if◌then◌else◌}
use Rattle.std.specs.Prelude.{IfSome, IfOk, Result, Ok, Err}
use Rattle.std.proofs.lemmas.Bool.{and_parts, leb-true}
use Rattle.serde_json.specs.Data.{Data}
use Rattle.serde_json.specs.Find.{get}
use Rattle.ras_table.specs.Answers.{Gives}
use Rattle.plan_document.specs.Faults.{told, ok_or}
use Rattle.plan_document.specs.Parts.{SeenPart, seen_part, part_at}
use Rattle.plan_document.specs.Documents.{head_of, has_member, is_format, region_has_assignment, form_of, may_have_rack, rack_allowed, if_rack_allowed, top_members, top_shape, head_fits, ranged_head, top_of, named_top, region_in, rack_in, SeenDocument, seen_rack, seen_document, document_in}
use Rattle.plan_document.specs.Protections.{protection_fits, protections_of}
use Rattle.plan_document.specs.Writable.{HasForm, PartCanBeWritten, RackCanBeWritten, CanBeWritten}
use Rattle.plan_document.specs.declared.part.Planned.{Planned}
use Rattle.plan_document.specs.declared.part.Part.{Part}
use Rattle.plan_document.specs.declared.part.RackPart.{RackPart}
use Rattle.plan_document.specs.declared.part.Form.{Form}
use Rattle.plan_document.specs.declared.part.Form.TheVariants as form
use Rattle.plan_document.specs.declared.document.Answer.{Answer}
use Rattle.plan_document.specs.declared.document.Answer.TheVariants as answer
use Rattle.plan_document.specs.declared.document.Head.{Head}
use Rattle.plan_document.specs.declared.document.Document.{Document}
use Rattle.plan_document.specs.declared.fault.DocPlace.TheVariants as place
use Rattle.plan_document.specs.declared.fault.DocWhy.TheVariants as why
use Rattle.plan_document.specs.declared.fault.DocFault.{DocFault}
use Rattle.plan_document.specs.declared.fault.DocFault.TheVariants.{At}
use Rattle.plan_document.proofs.Inverse.{step-before, option-given, some-before, test-passed, test-open}
use Rattle.plan_document.proofs.NodeInverse.{nodes-in}
use Rattle.plan_document.proofs.ProtectionInverse.{protections-count}
use Rattle.plan_document.proofs.PartInverse.{AreFewChosen, PartIsRead, part-read}

-- the top's own members
pub record TopIsRead (d : Data) (h : Head) : Type 0 where
  pub fit : head_fits h ≡ true
  pub allowed : rack_allowed d h ≡ true

ranged-read : (d : Data) (h g : Head) → ranged_head d h ≡ Ok g → (head_fits h ≡ true) × (h ≡ g)
ranged-read d h g e = by (is_format 1 d || is_format 2 d) (head_fits h) (protection_fits (is_format 2 d) d) e
  where
    by : (known fit texts : Bool) → ◌≡◌ {A = Result Head DocFault} (if not known then Err (At place.Top why.Format) else (if not (fit && texts) then Err (At place.Top why.Range) else Ok h)) (Ok g)
        → (fit ≡ true) × (h ≡ g)
    by true true true k = (refl, cc)
    by true true false k = absurd (cc)
    by true false texts k = absurd (cc)
    by false fit texts k = absurd (cc)

pub top-read : (d : Data) (h : Head) → top_of d ≡ Ok h → TopIsRead d h
top-read d h e =
    let a = step-before (ok_or place.Top why.Shape (top_shape d)) (ranged_head d) h e in
    let open_test = test-open (top_members (is_format 2 d) d) (option_and_then (if_rack_allowed d) (head_of d)) a.0 (option-given place.Top why.Shape (top_shape d) a.0 a.1) in
    let b = some-before (head_of d) (if_rack_allowed d) a.0 open_test.1 in
    let t = test-passed (rack_allowed d b.0) b.0 a.0 b.2 in
    let r = ranged-read d a.0 h a.2 in
    subst (TopIsRead d) r.1 (record { fit = r.0; allowed = subst (λ (g : Head). rack_allowed d g ≡ true) t.1 t.0 })

pub region-read : (servers reservations : List (List ℕ)) (f : Form) (o : Option Data) (p : SeenPart) → region_in servers reservations f o ≡ Ok p → PartIsRead servers reservations false f p
region-read servers reservations f None p e = absurd (cc)
region-read servers reservations f (Some d) p e = part-read servers reservations false f d p e

-- a rack part, where the document has one
pub record RackIsRead (servers reservations : List (List ℕ)) (o : Option Data) (rack : Option SeenPart) : Type 0 where
  pub there : is_some rack ≡ is_some o
  pub part : IfSome rack (PartIsRead servers reservations true form.Planned)

pub rack-read : (servers reservations : List (List ℕ)) (o : Option Data) (rack : Option SeenPart) → rack_in servers reservations o ≡ Ok rack → RackIsRead servers reservations o rack
rack-read servers reservations None rack e =
    let same : None ≡ rack = cc in
    subst (RackIsRead servers reservations None) same (record { there = refl; part = tt })
rack-read servers reservations (Some d) rack e =
    let a = step-before (part_at servers reservations true form.Planned d) _ rack e in
    let same : Some a.0 ≡ rack = cc (a.2) in
    subst (RackIsRead servers reservations (Some d)) same (record { there = refl; part = part-read servers reservations true form.Planned d a.0 a.1 })

-- the form of a region part is told by its plan
pub form-same : (a : Answer) (assigned : Bool) (plan : Option Planned) (lower : Option ℕ) → HasForm (form_of a assigned) plan lower → form_of a assigned ≡ form_of a (is_some plan)
form-same answer.Plan assigned plan lower h = refl
form-same answer.Infeasible assigned plan lower h = refl
form-same answer.Limit true plan lower h = ap (form_of answer.Limit) (sym h.0)
form-same answer.Limit false plan lower h = ap (form_of answer.Limit) (sym h.0)

if-there : (there may : Bool) → (not there || may) ≡ true → there ≡ true → may ≡ true
if-there true may h e = h
if-there false may h e = absurd (cc)

-- what a document that was read keeps
pub record DocumentIsRead (servers reservations : List (List ℕ)) (e : SeenDocument) : Type 0 where
  pub head : head_fits e.head ≡ true
  pub protections : length e.protection ≡ length reservations
  pub region : PartIsRead servers reservations false (form_of e.head.answer (is_some e.region.plan)) e.region
  pub rack : IfSome e.rack (PartIsRead servers reservations true form.Planned)
  pub beside : is_some e.rack ≡ true → may_have_rack (form_of e.head.answer (is_some e.region.plan)) ≡ true

pub document-read : (servers reservations : List (List ℕ)) (d : Data) (e : SeenDocument) → document_in servers reservations d ≡ Ok e → DocumentIsRead servers reservations e
document-read servers reservations d e is =
    let a = step-before (top_of d) _ e is in
    let top = top-read d a.0 a.1 in
    let f = form_of a.0.answer (region_has_assignment d) in
    let n = step-before (named_top reservations d) _ e a.2 in
    let count = protections-count reservations (is_format 2 d) d n.0 (option-given place.Top why.Name (protections_of reservations (is_format 2 d) d) n.0 n.1) in
    let b = step-before (region_in servers reservations f (get (codes "region") d)) _ e n.2 in
    let region = region-read servers reservations f (get (codes "region") d) b.0 b.1 in
    let c = step-before (rack_in servers reservations (get (codes "rack") d)) _ e b.2 in
    let rack = rack-read servers reservations (get (codes "rack") d) c.0 c.1 in
    let same_form = form-same a.0.answer (region_has_assignment d) b.0.plan b.0.lower region.form in
    let made : SeenDocument = record { head = a.0; protection = n.0; region = b.0; rack = c.0 } in
    let same : made ≡ e = cc (c.2) in
    subst (DocumentIsRead servers reservations) same (record {
      head = top.fit;
      protections = count;
      region = subst (λ (g : Form). PartIsRead servers reservations false g b.0) same_form region;
      rack = rack.part;
      beside = λ some. ap may_have_rack (sym same_form) ∙ if-there (has_member (codes "rack") d) (may_have_rack f) top.allowed (sym rack.there ∙ some);
    })

part-can : (servers reservations : List (List ℕ)) (with_chosen : Bool) (f : Form) (p : Part) (chosen : List ℕ) → PartIsRead servers reservations with_chosen f (seen_part p chosen) → PartCanBeWritten servers reservations f p
part-can servers reservations with_chosen f p chosen h = record { form = h.form; plan = h.plan; lower_most = h.lower_most; nodes = nodes-in p.tree.nodes h.nodes }

rack-can : (servers reservations : List (List ℕ)) (r : Option RackPart) → IfSome (option_map seen_rack r) (PartIsRead servers reservations true form.Planned) → IfSome r (RackCanBeWritten servers reservations)
rack-can servers reservations None h = tt
rack-can servers reservations (Some r) h =
    let few : AreFewChosen reservations r.chosen = h.chosen in
    record {
      part = part-can servers reservations true form.Planned r.part r.chosen h;
      chosen_least = few.least;
      chosen_most = few.most;
      chosen_there = few.there;
    }

some-rack : (r : Option RackPart) → is_some r ≡ is_some (option_map seen_rack r)
some-rack None = refl
some-rack (Some r) = refl

pub can-be-written : (servers reservations : List (List ℕ)) (d : Document) → DocumentIsRead servers reservations (seen_document d) → CanBeWritten servers reservations d
can-be-written servers reservations d h =
    let a = and_parts (nat_le d.gap 1000000000000 && nat_le 1 d.nodes && nat_le d.nodes 20000) (nat_le d.racks 64) h.head in
    let b = and_parts (nat_le d.gap 1000000000000 && nat_le 1 d.nodes) (nat_le d.nodes 20000) a.0 in
    let c = and_parts (nat_le d.gap 1000000000000) (nat_le 1 d.nodes) b.0 in
    record {
      gap_most = leb-true d.gap 1000000000000 c.0;
      nodes_least = leb-true 1 d.nodes c.1;
      nodes_most = leb-true d.nodes 20000 b.1;
      racks_most = leb-true d.racks 64 a.1;
      protections = h.protections;
      region = part-can servers reservations false (form_of d.answer (is_some d.region.plan)) d.region [] h.region;
      rack = rack-can servers reservations d.rack h.rack;
      beside = λ some. h.beside (sym (some-rack d.rack) ∙ some);
    }

pub given-can : (servers reservations : List (List ℕ)) (d : Data) (r : Result Document DocFault) → Gives seen_document told r (document_in servers reservations d) → IfOk r (CanBeWritten servers reservations)
given-can servers reservations d (Ok e) h = can-be-written servers reservations e (document-read servers reservations d (seen_document e) h)
given-can servers reservations d (Err w) h = tt
