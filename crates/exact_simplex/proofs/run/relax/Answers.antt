use Rattle.exact_simplex.specs.Answers.{IsRelaxedFrom}
use Rattle.exact_simplex.specs.Forms.{parts_of}
use Rattle.exact_simplex.specs.Relaxing.{Stands}
use Rattle.exact_simplex.specs.Start.{start_of}
use Rattle.exact_simplex.specs.Tableaus.{Scaled}
use Rattle.exact_simplex.proofs.AnswerSteps.{for_one}
use Rattle.exact_simplex.proofs.LicenceSteps.{licence_of}
use Rattle.exact_simplex.proofs.ReachSteps.{start_stands}
use Rattle.exact_simplex.proofs.run.relax.Goals as goal

pub relax_from-requires-clause-standing : goal.relax_from-requires-clause-standing
relax_from-requires-clause-standing c =
    let p = parts_of c.args.program.now c.args.bounds.now in
    record { scaled = start_of p; stands = start_stands p c.in_ok-at.at c.in_ok-at.ensures.size c.in_ok-at.ensures.shows }

pub returns-clause-relaxed : goal.returns-clause-relaxed
returns-clause-relaxed c =
    let p = parts_of c.args.program.now c.args.bounds.now in
    for_one c.relax_from.result Scaled (λ from. Stands p c.in_ok-at.at from) (λ from r. IsRelaxedFrom from c.args.program.now c.args.bounds.now c.args.pivots r) (start_of p) (start_stands p c.in_ok-at.at c.in_ok-at.ensures.size c.in_ok-at.ensures.shows) c.relax_from.ensures

pub returns-clause-licence : goal.returns-clause-licence
returns-clause-licence c =
    let p = parts_of c.args.program.now c.args.bounds.now in
    licence_of c.relax_from.result c.args.program.now c.args.bounds.now c.args.pivots (for_one c.relax_from.result Scaled (λ from. Stands p c.in_ok-at.at from) (λ from r. IsRelaxedFrom from c.args.program.now c.args.bounds.now c.args.pivots r) (start_of p) (start_stands p c.in_ok-at.at c.in_ok-at.ensures.size c.in_ok-at.ensures.shows) c.relax_from.ensures)
