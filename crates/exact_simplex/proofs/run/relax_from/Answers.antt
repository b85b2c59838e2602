use Rattle.std.proofs.Common.{arith, sym, subst, ◌≡◌, ◌≤◌, ◌+◌, Some, length}
use Rattle.exact_simplex.specs.Certificates.{UnitsDiffer}
use Rattle.exact_simplex.specs.Choices.{FirstCandidate}
use Rattle.exact_simplex.specs.Forms.{parts_of}
use Rattle.exact_simplex.specs.Relaxing.{AdvanceGives, IsFirstBelow, Stands}
use Rattle.exact_simplex.specs.Answers.{IsRelaxedFrom}
use Rattle.exact_simplex.specs.Tableaus.{Scaled}
use Rattle.exact_simplex.proofs.ReachSteps.{reached_none}
use Rattle.exact_simplex.proofs.CertificateSteps.{units_differ}
use Rattle.exact_simplex.proofs.AnswerSteps.{for_each, made_more, over_answer, wide_kept, wide_within, wide_answer, spent_answer}
use Rattle.exact_simplex.proofs.run.relax_from.Goals as goal

pub loop-step-init : goal.loop-step-init
loop-step-init c = λ from h. record { scaled = from; reached = reached_none (parts_of c.args.program.now c.args.bounds.now) c.args.start from h }

pub loop-step-preserved : goal.loop-step-preserved
loop-step-preserved c = λ from h.
    let p = parts_of c.args.program.now c.args.bounds.now in
    let after = c.loop-step.invariant from h in
    made_more p from c.loop-step.step (c.loop-step.step + 1) _ c.loop-step.at c.advance.new.self c.in-Open.row after.scaled (omega arith)
    (subst (λ a. AdvanceGives a p from c.loop-step.step c.loop-step.at c.advance.new.self c.in-Open.row after.scaled) c.in-Made.is (c.in_ok-advance-in-Open.ensures p from c.loop-step.step after.scaled after.reached))

pub wide-requires : goal.wide-requires
wide-requires c =
    let p = parts_of c.args.program.now c.args.bounds.now in
    let s = c.requires.standing in
    let after = c.loop-step.invariant s.scaled s.stands in
    let t = after.scaled in
    let gives = subst (λ a. AdvanceGives a p s.scaled c.loop-step.step c.loop-step.at c.advance.new.self c.in-Open.row t) c.in-Wide.is (c.in_ok-advance-in-Open.ensures p s.scaled c.loop-step.step t after.reached) in
    let same = sym (wide_kept c.in-Wide.column p s.scaled c.loop-step.step c.loop-step.at c.advance.new.self c.in-Open.row t gives) in
    record {
      units = subst (λ at. UnitsDiffer at.units) same (units_differ p c.loop-step.at t after.reached.stands);
      below = subst (λ at. IsFirstBelow at.cells c.in-Open.row) same c.in-Open.ensures.0;
    }

pub returns-in-Wide : goal.returns-in-Wide
returns-in-Wide c =
    let program = c.args.program.now in
    let box = c.args.bounds.now in
    let p = parts_of program box in
    let few : c.loop-step.step ≤ c.args.pivots = omega (arith, c.loop-step-test.true) in
    for_each c.wide.result Scaled (λ from. Stands p c.args.start from) (λ from r. IsRelaxedFrom from program box c.args.pivots r) (λ from h.
    let after = c.loop-step.invariant from h in
    let t = after.scaled in
    let gives = subst (λ a. AdvanceGives a p from c.loop-step.step c.loop-step.at c.advance.new.self c.in-Open.row t) c.in-Wide.is (c.in_ok-advance-in-Open.ensures p from c.loop-step.step t after.reached) in
    let candidate = subst (λ at. FirstCandidate (Some c.in-Open.first) at.cells c.in-Open.row (length at.units)) (sym (wide_kept c.in-Wide.column p from c.loop-step.step c.loop-step.at c.advance.new.self c.in-Open.row t gives)) c.in-Open.ensures.1 in
    wide_answer c.wide.result from program box c.args.pivots c.in-Open.first c.advance.new.self c.in-Open.row c.in-Wide.column candidate (wide_within c.in-Wide.column p from c.loop-step.step c.args.pivots c.loop-step.at c.advance.new.self c.in-Open.row t few after.reached gives) c.wide.ensures)

pub returns-in-Open-state : goal.returns-in-Open-state
returns-in-Open-state c =
    let program = c.args.program.now in
    let box = c.args.bounds.now in
    let same : c.loop-step.step ≡ c.args.pivots = omega (arith, c.loop-step-test.false) in
    for_each c.spent.result Scaled (λ from. Stands (parts_of program box) c.args.start from) (λ from r. IsRelaxedFrom from program box c.args.pivots r) (λ from h.
    spent_answer c.spent.result from program box c.args.pivots c.loop-step.step c.loop-step.at same (c.loop-step.invariant from h) c.spent.ensures)

pub spent-requires-clause-units : goal.spent-requires-clause-units
spent-requires-clause-units c = let s = c.requires.standing in let after = c.loop-step.invariant s.scaled s.stands in units_differ (parts_of c.args.program.now c.args.bounds.now) c.loop-step.at after.scaled after.reached.stands

pub returns-in-Least : goal.returns-in-Least
returns-in-Least c =
    let program = c.args.program.now in
    let box = c.args.bounds.now in
    let few : c.loop-step.step ≤ c.args.pivots = omega (arith, c.loop-step-test.true) in
    for_each c.least.result Scaled (λ from. Stands (parts_of program box) c.args.start from) (λ from r. IsRelaxedFrom from program box c.args.pivots r) (λ from h.
    over_answer c.least.result from program box c.args.pivots c.loop-step.step c.loop-step.at few (c.loop-step.invariant from h) c.least.ensures)

pub returns-in-Empty : goal.returns-in-Empty
returns-in-Empty c =
    let program = c.args.program.now in
    let box = c.args.bounds.now in
    let few : c.loop-step.step ≤ c.args.pivots = omega (arith, c.loop-step-test.true) in
    for_each c.empty.result Scaled (λ from. Stands (parts_of program box) c.args.start from) (λ from r. IsRelaxedFrom from program box c.args.pivots r) (λ from h.
    over_answer c.empty.result from program box c.args.pivots c.loop-step.step c.loop-step.at few (c.loop-step.invariant from h) c.empty.ensures)

pub least-requires-in-Least-state-clause-standing : goal.least-requires-in-Least-state-clause-standing
least-requires-in-Least-state-clause-standing c = let s = c.requires.standing in let after = c.loop-step.invariant s.scaled s.stands in record { scaled = after.scaled; stands = after.reached.stands }

pub returns-in-Least-state : goal.returns-in-Least-state
returns-in-Least-state c =
    let program = c.args.program.now in
    let box = c.args.bounds.now in
    let few : c.loop-step.step ≤ c.args.pivots = c.loop-step.auto.step-end in
    for_each c.least-in-Least-state.result Scaled (λ from. Stands (parts_of program box) c.args.start from) (λ from r. IsRelaxedFrom from program box c.args.pivots r) (λ from h.
    over_answer c.least-in-Least-state.result from program box c.args.pivots c.loop-step.step c.loop-step.at few (c.loop-step.invariant from h) c.least-in-Least-state.ensures)

pub returns-in-Empty-state : goal.returns-in-Empty-state
returns-in-Empty-state c =
    let program = c.args.program.now in
    let box = c.args.bounds.now in
    let few : c.loop-step.step ≤ c.args.pivots = c.loop-step.auto.step-end in
    for_each c.empty-in-Empty-state.result Scaled (λ from. Stands (parts_of program box) c.args.start from) (λ from r. IsRelaxedFrom from program box c.args.pivots r) (λ from h.
    over_answer c.empty-in-Empty-state.result from program box c.args.pivots c.loop-step.step c.loop-step.at few (c.loop-step.invariant from h) c.empty-in-Empty-state.ensures)
