use Rattle.std.proofs.Common.{◌≡◌, ◌+◌, drop}
use Rattle.std.specs.Prelude.{option_map}
use Rattle.plan_checker.specs.Reasons.{first_difference}
use Rattle.plan_checker.proofs.lists.first_difference.Given as goal

-- what is left differs first where the lists do
abbrev pub invariant-loop-i : goal.invariant-loop-i
invariant-loop-i l = option_map (λ k. k + l.i) (first_difference (drop l.i l.stated) (drop l.i l.right)) ≡ first_difference l.stated l.right
