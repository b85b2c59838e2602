-- What the answer of a relaxation gives, and the tableau that it reached.
use Rattle.std.proofs.Common.{◌≡◌, ℕ, sym, subst, Option, Some, None, IfSome}
use Rattle.ip_model.specs.declared.parts.Bounds.{Bounds}
use Rattle.ip_model.specs.declared.program.Program.{Program}
use Rattle.ip_model.specs.Points.{full_box_of, IsBoxOf}
use Rattle.bound_certificate.proofs.WalkSteps.{full_box_is_box}
use Rattle.exact_simplex.specs.declared.relaxed.Relaxed.{Relaxed}
use Rattle.exact_simplex.specs.declared.relaxed.Relaxed.TheVariants.{Least, Empty, Wide, Misfit, Spent}
use Rattle.exact_simplex.specs.declared.table.Tableau.{Tableau}
use Rattle.exact_simplex.specs.Answers.{IsReachedWithin, IsRelaxedFrom}
use Rattle.exact_simplex.specs.Forms.{parts_of}
use Rattle.exact_simplex.specs.Relaxing.{IsStanding, Stands}
use Rattle.exact_simplex.specs.Tableaus.{Scaled}
use Rattle.branch_bound.specs.declared.origin.Origin.{Origin}
use Rattle.branch_bound.specs.Origins.{IsOrigin, StandsInFull}
use Rattle.branch_bound.specs.Relaxations.{IsAnswer}

standing_within : (program : Program) (box : Bounds) (from : Scaled) (pivots : ℕ) (at : Tableau) → IsReachedWithin (parts_of program box) from pivots at → IsStanding (parts_of program box) at
standing_within program box from pivots at h = record { scaled = h.after.scaled; stands = h.after.reached.stands }

-- what so many written pivots from a tableau answer
pub answer_of : (program : Program) (box : Bounds) (from : Scaled) (pivots : ℕ) (found : Relaxed) → IsRelaxedFrom from program box pivots found → IsAnswer program box found
answer_of program box from pivots (Least point duals at) h = (standing_within program box from pivots at h.0, h.2, h.3)
answer_of program box from pivots (Empty duals at) h = (standing_within program box from pivots at h.0, h.2, h.3)
answer_of program box from pivots (Wide at row col duals) h = (record { scaled = h.0.scaled; stands = h.0.reached.stands }, h.2)
answer_of program box from pivots (Misfit at duals) h = (standing_within program box from pivots at h.0, h.2)
answer_of program box from pivots (Spent at made duals) h = (record { scaled = h.0.scaled; stands = h.0.reached.stands }, h.3)

-- the same of the pivots from a tableau that stands for the program
pub answer_on : (program : Program) (box : Bounds) (start : Tableau) (pivots : ℕ) (found : Relaxed) → IsStanding (parts_of program box) start
    → ((from : Scaled) → Stands (parts_of program box) start from → IsRelaxedFrom from program box pivots found) → IsAnswer program box found
answer_on program box start pivots found standing relaxed = answer_of program box standing.scaled pivots found (relaxed standing.scaled standing.stands)

-- the box of an origin is one of the program
pub origin_box : (program : Program) (origin : Origin) → IsOrigin program origin → IsBoxOf program origin.full
origin_box program origin is = subst (λ (b : Bounds). IsBoxOf program b) (sym is.full) (full_box_is_box program)

-- and its tableau stands for the program there
pub origin_stands : (program : Program) (origin : Origin) (o : Option Tableau) (at : Tableau) → IsOrigin program origin → o ≡ Some at → origin.at ≡ o → IsStanding (parts_of program origin.full) at
origin_stands program origin o at is some same = subst (λ (b : Bounds). IsStanding (parts_of program b) at) (sym is.full) (rw (same, some) at is.start)

-- a tableau that was reached in the full box is that of an origin
pub stands_in_full : (program : Program) (full : Bounds) (o : Option Tableau) → full ≡ full_box_of program → IfSome o (λ at. IsStanding (parts_of program full) at) → StandsInFull program o
stands_in_full program full (Some at) is h = subst (λ (b : Bounds). IsStanding (parts_of program b) at) is h
stands_in_full program full None is h = tt
