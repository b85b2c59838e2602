use Rattle.online_mover.proofs.NeedFacts.{SurvivesFirst}
use Rattle.online_mover.proofs.counting.Counting.keeps_need.Given as goal

abbrev pub invariant-loop-number : goal.invariant-loop-number
invariant-loop-number l = SurvivesFirst l.self.case l.self.counts l.r l.number
