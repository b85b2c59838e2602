use Rattle.exact_simplex.specs.Answers.{IsReachedAfter}
use Rattle.exact_simplex.specs.Forms.{parts_of}
use Rattle.exact_simplex.specs.Relaxing.{Stands}
use Rattle.exact_simplex.specs.Tableaus.{Scaled}
use Rattle.exact_simplex.proofs.run.relax_from.Given as goal

abbrev pub invariant-loop-step : goal.invariant-loop-step
invariant-loop-step l = (from : Scaled) → Stands (parts_of l.program l.bounds) l.fn.start from → IsReachedAfter (parts_of l.program l.bounds) from l.step l.at
