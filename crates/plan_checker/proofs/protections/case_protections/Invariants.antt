use Rattle.std.proofs.Common.{◌≡◌, ◌++◌, map, drop, length}
use Rattle.plan_model.specs.declared.cases.Want.{Want}
use Rattle.plan_checker.specs.Accepted.{case_protections}
use Rattle.plan_checker.proofs.protections.case_protections.Given as goal

abbrev pub invariant-loop-want : goal.invariant-loop-want
invariant-loop-want l =
    (l.found.items ++ map (λ (w : Want). w.protection) (drop l.want-index l.case.wants) ≡ case_protections l.case) × (length l.found.items ≡ l.want-index)
