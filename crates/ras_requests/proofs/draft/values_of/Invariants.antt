use Rattle.std.proofs.Common.{◌≡◌, ◌++◌, map}
use Rattle.serde_json.specs.View.{members_view}
use Rattle.ras_requests.specs.Members.{member_names}
use Rattle.ras_requests.specs.RequestsRule.{kind_names}
use Rattle.ras_requests.specs.Shapes.{values_in}
use Rattle.ras_requests.specs.Drafts.{seen_units}
use Rattle.ras_requests.proofs.ShapesLemmas.{with_front}
use Rattle.ras_requests.proofs.draft.values_of.Given as goal

abbrev pub invariant-loop-name : goal.invariant-loop-name
invariant-loop-name l =
    (with_front (map seen_units l.found.items) (values_in (members_view l.name-iterator)) ≡ values_in (members_view l.members.entries))
    × (kind_names (map seen_units l.found.items) ++ member_names (members_view l.name-iterator) ≡ member_names (members_view l.members.entries))
