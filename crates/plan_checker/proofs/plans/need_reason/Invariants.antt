use Rattle.std.proofs.Common.{◌≡◌, drop}
use Rattle.plan_model.specs.Units.{all_reservations}
use Rattle.plan_checker.specs.Reasons.{first_need, need_reason}
use Rattle.plan_checker.proofs.plans.need_reason.Given as goal

-- what is left decides
abbrev pub invariant-loop-r : goal.invariant-loop-r
invariant-loop-r l = first_need l.part l.case l.a (drop l.r (all_reservations l.case)) ≡ need_reason l.part l.case l.a
