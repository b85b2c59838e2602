use Rattle.std.proofs.Common.{◌≡◌, false, take}
use Rattle.std.specs.Prelude.{nat_lt}
use Rattle.std.specs.List.{list_any}
use Rattle.plan_model.specs.Units.{value_for}
use Rattle.plan_checker.proofs.fixed.some_value.Given as goal

abbrev pub invariant-loop-r : goal.invariant-loop-r
invariant-loop-r l = list_any (λ r. nat_lt 0 (value_for l.case r l.kind)) (take l.r-index l.chosen) ≡ false
