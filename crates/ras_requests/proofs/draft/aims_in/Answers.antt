use Rattle.std.proofs.Common.{◌≡◌, ◌∙◌, sym, ap, map, option_map, IfOk, subst, Option, List, Bor}
use Rattle.serde_json.specs.View.{view}
use Rattle.serde_json.specs.declared.value.Value.{Value as Json}
use Rattle.ras_requests.specs.declared.requests.Near.{Near}
use Rattle.ras_requests.specs.Shapes.{nears_in, near_of}
use Rattle.ras_requests.specs.Drafts.{seen_aims}
use Rattle.ras_requests.proofs.ShapesLemmas.{near-items}
use Rattle.ras_requests.proofs.draft.aims_in.Goals as goal

pub returns-in-Some-as_array : goal.returns-in-Some-as_array
returns-in-Some-as_array c =
    let same = ap (λ (l : List Json). nears_in (map view l)) c.as_slice.ensures.value ∙ near-items (view c.in-Some.value.now) c.in-Some-as_array.items.now.items c.in-Some-as_array.ensures in
    let whole = same ∙ sym (ap (λ (o : Option (Bor Json)). near_of (option_map (λ (v : Bor Json). view v.now) o)) c.in-Some.is) in
    subst (λ (t : Option (List Near)). IfOk c.aims_of.result (λ aims. option_map seen_aims aims ≡ t)) whole c.aims_of.ensures
