use Rattle.std.proofs.Common.{◌≡◌, sym, subst, true, length}
use Rattle.spare_pool.specs.declared.standings.Change.{Change}
use Rattle.spare_pool.specs.declared.standings.Change.TheVariants.{Fail, Repair}
use Rattle.spare_pool.specs.Steps.{IsStep, change_within}
use Rattle.spare_pool.proofs.StepFacts.{change-in}
use Rattle.spare_pool.proofs.RunFacts.{step-long, step-case}
use Rattle.spare_pool.proofs.pool.Pool.change.Goals as goal

pub fail-requires : goal.fail-requires
fail-requires c =
    change-in (length c.args.self.now.servers) (Fail c.in-Fail.server) (subst (λ (change : Change). change_within (length c.args.self.now.servers) change ≡ true) c.in-Fail.is c.requires)

pub repair-requires : goal.repair-requires
repair-requires c =
    change-in (length c.args.self.now.servers) (Repair c.in-Repair.server) (subst (λ (change : Change). change_within (length c.args.self.now.servers) change ≡ true) c.in-Repair.is c.requires)

pub returns-in-Fail-clause-step : goal.returns-in-Fail-clause-step
returns-in-Fail-clause-step c = subst (λ (change : Change). IsStep c.args.self.now change c.fail.result c.fail.new.self) (sym c.in-Fail.is) c.fail.ensures

pub returns-in-Fail-clause-case : goal.returns-in-Fail-clause-case
returns-in-Fail-clause-case c = step-case c.args.self.now c.fail.new.self (Fail c.in-Fail.server) c.fail.result c.fail.ensures

pub returns-in-Fail-clause-servers : goal.returns-in-Fail-clause-servers
returns-in-Fail-clause-servers c = step-long c.args.self.now c.fail.new.self (Fail c.in-Fail.server) c.fail.result c.fail.ensures

pub returns-in-Repair-clause-step : goal.returns-in-Repair-clause-step
returns-in-Repair-clause-step c = subst (λ (change : Change). IsStep c.args.self.now change c.repair.result c.repair.new.self) (sym c.in-Repair.is) c.repair.ensures

pub returns-in-Repair-clause-case : goal.returns-in-Repair-clause-case
returns-in-Repair-clause-case c = step-case c.args.self.now c.repair.new.self (Repair c.in-Repair.server) c.repair.result c.repair.ensures

pub returns-in-Repair-clause-servers : goal.returns-in-Repair-clause-servers
returns-in-Repair-clause-servers c = step-long c.args.self.now c.repair.new.self (Repair c.in-Repair.server) c.repair.result c.repair.ensures
