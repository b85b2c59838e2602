use Rattle.online_mover.specs.Without.{without}
use Rattle.online_mover.proofs.NeedFacts.{SurvivesFirst}
use Rattle.online_mover.proofs.counting.Counting.keeps_need_without.Given as goal

abbrev pub invariant-loop-number : goal.invariant-loop-number
invariant-loop-number l = SurvivesFirst l.self.case (without l.self.counts l.server) l.r l.number
