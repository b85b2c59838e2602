use Rattle.std.proofs.Common.{◌≡◌, map, take}
use Rattle.ras_requests.specs.Drafts.{seen_aim}
use Rattle.ras_requests.proofs.limits.near_from.Given as goal

abbrev pub invariant-loop-aim : goal.invariant-loop-aim
invariant-loop-aim l = l.list ≡ map seen_aim (take l.aim-index l.near)
