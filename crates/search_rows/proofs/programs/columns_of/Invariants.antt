use Rattle.std.proofs.Common.{◌≡◌, None, map, take}
use Rattle.ip_model.specs.declared.parts.Mark.TheVariants.{Count}
use Rattle.search_rows.proofs.programs.columns_of.Given as goal

abbrev pub invariant-loop-cost : goal.invariant-loop-cost
invariant-loop-cost l = l.columns.items ≡ map (λ cost. record { cost = cost; top = 1; mark = Count 0 None }) (take l.cost-index l.costs)
