use Rattle.std.proofs.Common.{◌≡◌, ◌<◌, ℕ, true}
use Rattle.plan_model.specs.declared.cases.Assignment.{Assignment}
use Rattle.plan_model.specs.Allowed.{survives}
use Rattle.plan_model.specs.Losses.{loss_at}
use Rattle.plan_model.specs.Units.{want_of}
use Rattle.steady_plans.specs.Tables.{AreSumsOf}
use Rattle.steady_plans.proofs.local.keeps_need.Given as goal

abbrev pub invariant-loop-number : goal.invariant-loop-number
invariant-loop-number l =
    (a : Assignment) → AreSumsOf l.case a l.sums → (n : ℕ) → n < l.number → survives l.case a l.r (loss_at (want_of l.case l.r).protection n) ≡ true
