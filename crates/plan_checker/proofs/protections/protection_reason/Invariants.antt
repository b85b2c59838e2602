use Rattle.std.proofs.Common.{◌≡◌, drop}
use Rattle.plan_checker.specs.Reasons.{first_other}
use Rattle.plan_checker.proofs.protections.protection_reason.Given as goal

-- what is left has the first other protection where the document has
abbrev pub invariant-loop-r : goal.invariant-loop-r
invariant-loop-r l = first_other l.r (drop l.r l.document.protection) (drop l.r l.case.wants) ≡ first_other 0 l.document.protection l.case.wants
