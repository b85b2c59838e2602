use Rattle.std.proofs.Common.{ap, sym, ◌∙◌}
use Rattle.program_rows.specs.declared.phases.Phase.{Phase}
use Rattle.phase_search.proofs.Prepared.{cost_in, cost_in-is}
use Rattle.phase_search.proofs.plans.cost.Goals as goal

pub returns-in-Rack-clause-cost : goal.returns-in-Rack-clause-cost
returns-in-Rack-clause-cost c =
    c.rack_cost.ensures.cost
    ∙ ap (λ (phase : Phase). cost_in c.args.case.now phase c.args.a.now) (sym c.in-Rack.is)
    ∙ cost_in-is c.args.case.now c.args.phase.now c.args.a.now c.requires.chosen
