-- What is known of the tableau from which the relaxations of a search start.
use Rattle.std.specs.Prelude.{◌≡◌, Option, Some, None, ⊤}
use Rattle.ip_model.specs.declared.program.Program.{Program}
use Rattle.ip_model.specs.Points.{full_box_of}
use Rattle.exact_simplex.specs.declared.table.Tableau.{Tableau}
use Rattle.exact_simplex.specs.Forms.{parts_of}
use Rattle.exact_simplex.specs.Relaxing.{IsStanding}
use Rattle.branch_bound.specs.declared.origin.Origin.{Origin}

-- the tableau, where there is one, stands for the program in its full box
abbrev pub StandsInFull : Program → Option Tableau → Type 0
StandsInFull program (Some at) = IsStanding (parts_of program (full_box_of program)) at
StandsInFull program None = ⊤

-- the full box of the program, and a tableau that stands for it
pub record IsOrigin (program : Program) (origin : Origin) : Type 0 where
  pub full : origin.full ≡ full_box_of program
  pub start : StandsInFull program origin.at
