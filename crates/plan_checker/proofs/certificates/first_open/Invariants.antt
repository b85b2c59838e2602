use Rattle.std.proofs.Common.{◌≡◌, ℕ, ◌<◌, false, get_or}
use Rattle.std.specs.Prelude.{not}
use Rattle.bound_certificate.specs.declared.tree.Node.{Node}
use Rattle.plan_checker.specs.Reasons.{is_closed}
use Rattle.plan_checker.proofs.certificates.first_open.Given as goal

abbrev pub invariant-loop-i : goal.invariant-loop-i
invariant-loop-i l = (k : ℕ) (d : Node) → k < l.i → not (is_closed (get_or l.nodes k d)) ≡ false
