-- What a search uses of the answer of a relaxation.
use Rattle.ip_model.specs.declared.parts.Bounds.{Bounds}
use Rattle.ip_model.specs.declared.program.Program.{Program}
use Rattle.bound_certificate.specs.Bound.{Refutes, RowsInRange}
use Rattle.exact_simplex.specs.declared.relaxed.Relaxed.{Relaxed}
use Rattle.exact_simplex.specs.declared.relaxed.Relaxed.TheVariants.{Least, Empty, Wide, Misfit, Spent}
use Rattle.exact_simplex.specs.Answers.{Certifies}
use Rattle.exact_simplex.specs.Forms.{parts_of}
use Rattle.exact_simplex.specs.Relaxing.{IsStanding}

-- the tableau stands for the program in the box; the point lies in its relaxation, and the multipliers show its value or refute the box
abbrev pub IsAnswer : Program → Bounds → Relaxed → Type 0
IsAnswer program box (Least point duals at) = IsStanding (parts_of program box) at × RowsInRange program duals × Certifies program box point duals
IsAnswer program box (Empty duals at) = IsStanding (parts_of program box) at × RowsInRange program duals × Refutes program box duals
IsAnswer program box (Wide at row col duals) = IsStanding (parts_of program box) at × RowsInRange program duals
IsAnswer program box (Misfit at duals) = IsStanding (parts_of program box) at × RowsInRange program duals
IsAnswer program box (Spent at made duals) = IsStanding (parts_of program box) at × RowsInRange program duals
