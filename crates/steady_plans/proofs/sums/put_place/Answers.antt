use Rattle.std.proofs.Common.{ℕ, sym, subst}
use Rattle.std.specs.Prelude.{Option}
use Rattle.steady_plans.specs.Steady.{replaced}
use Rattle.steady_plans.specs.Tables.{AreSumsOf}
use Rattle.steady_plans.proofs.Next.{there-of}
use Rattle.steady_plans.proofs.Writes.{unplaced}
use Rattle.steady_plans.proofs.sums.put_place.Goals as goal

pub put-requires-clause-there : goal.put-requires-clause-there
put-requires-clause-there c = there-of c.args.case.now c.args.to c.in-Some.r c.requires.there c.in-Some.is

pub returns-in-Some : goal.returns-in-Some
returns-in-Some c = λ a are none. subst (λ (o : Option ℕ). AreSumsOf c.args.case.now (replaced a c.args.server o) c.put.new.sums) (sym c.in-Some.is) (c.put.ensures a are none)

pub returns-in-None : goal.returns-in-None
returns-in-None c = λ a are none. subst (λ (o : Option ℕ). AreSumsOf c.args.case.now (replaced a c.args.server o) c.args.sums.now) (sym c.in-None.is) (unplaced c.args.case.now a c.args.server c.args.sums.now are none)
