use Rattle.std.proofs.Common.{◌≡◌, ℕ, ◌-◌, ◌<◌, true, length}
use Rattle.std.specs.List.{range_with_len}
use Rattle.plan_model.specs.Allowed.{keeps_need}
use Rattle.first_plans.specs.FirstPlan.{filled_each, first_plan_of}
use Rattle.first_plans.proofs.Fills.{IsLawful}
use Rattle.first_plans.proofs.first.first_plan.Given as goal

abbrev pub invariant-loop-r : goal.invariant-loop-r
invariant-loop-r l = record {
  rest : filled_each l.case l.a (range_with_len l.r (length l.case.wants - l.r)) ≡ first_plan_of l.case;
  lawful : IsLawful l.case l.a;
  kept : (q : ℕ) → q < l.r → keeps_need l.case l.a q ≡ true;
}
