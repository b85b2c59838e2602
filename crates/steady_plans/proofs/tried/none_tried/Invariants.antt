use Rattle.std.proofs.Common.{◌≡◌, ◌≤◌, ◌<◌, length, All}
use Rattle.steady_plans.proofs.tried.none_tried.Given as goal

abbrev pub invariant-loop-server : goal.invariant-loop-server
invariant-loop-server l = (length l.found.keys ≤ l.server) × (length l.likeness.items ≡ l.server) × All (λ n. n < length l.found.keys) l.likeness.items
