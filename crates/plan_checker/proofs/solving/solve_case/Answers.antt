-- The region part and what follows it make a solution.
use Rattle.std.proofs.Common.{List, subst, sym}
use Rattle.ras_requests.specs.declared.requests.Protection.{Protection}
use Rattle.plan_model.specs.declared.cases.Grouping.TheVariants.{Class}
use Rattle.plan_document.specs.declared.document.Document.{Document}
use Rattle.plan_checker.specs.Solution.{IsSolution}
use Rattle.plan_checker.proofs.Solutions.{solution}
use Rattle.plan_checker.proofs.solving.solve_case.Goals as goal

pub returns-clause-solution : goal.returns-clause-solution
returns-clause-solution g c =
    let part = c.in_ok-answer.part in
    let with_protections : List Protection → Document =
    λ ps. record { answer = c.in_ok-last.last; grouping = Class; gap = c.args.gap; nodes = c.args.nodes; racks = c.args.racks; region = part; rack = c.in_ok-last.rack; protection = ps } in
    subst (λ (ps : List Protection). IsSolution c.args.case.now c.args.gap c.args.nodes c.args.racks (with_protections ps)) (sym c.in_ok-protection.ensures)
    (solution c.args.case.now c.args.gap c.args.nodes c.args.racks c.requires.gap c.requires.some c.requires.few c.requires.racks
    c.in_ok-answer.answer part.plan part.lower part.tree c.in_ok-last.last c.in_ok-last.rack c.in_ok-answer.ensures.solved c.in_ok-last.ensures.follows)
