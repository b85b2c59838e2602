use Rattle.std.proofs.Common.{◌≡◌}
use Rattle.serde_json.specs.View.{members_view}
use Rattle.plan_document.specs.Protections.{are_protections}
use Rattle.plan_document.proofs.protections.are_protections.Given as goal

abbrev pub invariant-loop-value : goal.invariant-loop-value
invariant-loop-value l = are_protections (members_view l.value-iterator) ≡ are_protections (members_view l.members.entries)
