use Rattle.std.proofs.Common.{◌≡◌, map, drop}
use Rattle.ras_table.specs.Names.{names_differ}
use Rattle.ras_requests.specs.RequestsRule.{center_names}
use Rattle.ras_requests.specs.Drafts.{seen_aim}
use Rattle.ras_requests.proofs.limits.centers_differ.Given as goal

abbrev pub invariant-loop-i : goal.invariant-loop-i
invariant-loop-i l = names_differ (center_names (map seen_aim (drop l.i l.near))) ≡ names_differ (center_names (map seen_aim l.near))
