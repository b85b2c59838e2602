-- Limits of a reservation's numbers.
use Rattle.std.proofs.Common.{ℕ, ◌<◌, ◌≤◌, length, arith}
use Rattle.std.proofs.lemmas.Bool.Decides.{nat_tests}
use Rattle.plan_model.specs.declared.cases.Case.{Case}
use Rattle.plan_model.specs.Units.{want_of}
use Rattle.plan_model.proofs.CaseFacts.{want-in_range}

pub spread-most : (case : Case) (r : ℕ) → r < length case.wants → (want_of case r).spread_limit ≤ 10000000
spread-most case r within = let rule = want-in_range case r within in grind (arith, nat_tests, rule)

pub rack-most : (case : Case) (r : ℕ) → r < length case.wants → (want_of case r).rack_limit ≤ 10000000
rack-most case r within = let rule = want-in_range case r within in grind (arith, nat_tests, rule)
