use Rattle.std.proofs.Common.{◌≡◌, ◌-◌, IsTrue, length}
use Rattle.plan_model.specs.Allowed.{fits}
use Rattle.first_plans.specs.FirstPlan.{filled}
use Rattle.first_plans.specs.Sums.{AreSums}
use Rattle.first_plans.proofs.filling.fill.Given as goal

abbrev pub invariant-loop-taken : goal.invariant-loop-taken
invariant-loop-taken l = record {
  rest : filled l.case l.r (length l.case.places - l._taken) l.a ≡ filled l.case l.r (length l.case.places) l.fn.a;
  fitting : IsTrue (fits l.case l.a);
  sums : AreSums l.case l.a l.r l.sums;
}
