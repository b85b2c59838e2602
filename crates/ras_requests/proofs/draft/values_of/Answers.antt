use Rattle.std.proofs.Common.{◌≡◌, ◌∙◌, ◌++◌, sym, ap, string_bytes, map}
use Rattle.ras_table.specs.Names.{is_name}
use Rattle.serde_json.specs.View.{members_view, view}
use Rattle.ras_requests.specs.Members.{member_names}
use Rattle.ras_requests.specs.RequestsRule.{kind_names}
use Rattle.ras_requests.specs.Shapes.{values_in}
use Rattle.ras_requests.specs.Drafts.{seen_units}
use Rattle.ras_requests.specs.declared.draft.Units.{Units}
use Rattle.ras_requests.proofs.ShapesLemmas.{with_front, values-go, kinds-go, kinds-differ}
use Rattle.ras_requests.proofs.draft.values_of.Goals as goal

pub loop-name-preserved : goal.loop-name-preserved
loop-name-preserved c =
    let found = c.loop-name.found.items in
    let steps = c.in-Some.ensures.steps in
    let so = sym (ap (λ es. with_front (map seen_units found) (values_in (members_view es))) steps) ∙ c.loop-name.invariant.0 in
    let names = sym (ap (λ es. kind_names (map seen_units found) ++ member_names (members_view es)) steps) ∙ c.loop-name.invariant.1 in
    let named = ap is_name (sym c.as_bytes.ensures.value) ∙ c.in-Ok.ensures.good in
    let unit : Units = record { kind = c.in-Ok.kind; units = c.in-Some-as_u64.units } in
    let kind : unit.kind ≡ string_bytes c.in-Some.name.now = c.in-Ok.ensures.name ∙ c.as_bytes.ensures.value in
    let items = c.in_ok-push.ensures.items in (
      ap (λ f. with_front (map seen_units f) (values_in (members_view c.next.new.self))) items
          ∙ values-go found unit (string_bytes c.in-Some.name.now) (view c.in-Some.value.now) (members_view c.next.new.self) _ so kind named c.in-Some-as_u64.ensures,
      ap (λ f. kind_names (map seen_units f) ++ member_names (members_view c.next.new.self)) items
          ∙ kinds-go found unit (string_bytes c.in-Some.name.now) (member_names (members_view c.next.new.self)) _ names kind,
    )

pub returns-clause-differ : goal.returns-clause-differ
returns-clause-differ c = kinds-differ c.loop-name.found.items c.loop-name.name-iterator c.args.members.now.entries c.in-None.ensures.steps.0 c.loop-name.invariant.1 c.iter-name-items.ensures.ordered
