use Rattle.std.proofs.Common.{◌≡◌, map, take}
use Rattle.ras_requests.specs.Drafts.{seen_units}
use Rattle.ras_requests.proofs.limits.values_from.Given as goal

abbrev pub invariant-loop-value : goal.invariant-loop-value
invariant-loop-value l = l.list ≡ map seen_units (take l.value-index l.values)
