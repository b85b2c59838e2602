-- What is promised of a point that was found.
use Rattle.std.specs.Prelude.{◌≡◌}
use Rattle.ip_model.specs.declared.program.Program.{Program}
use Rattle.ip_model.specs.Points.{value_of, IsWholePoint}
use Rattle.incumbents.specs.declared.offer.Incumbent.{Incumbent}

-- a whole point of the program, with its value
pub record IsIncumbent (program : Program) (found : Incumbent) : Type 0 where
  pub whole : IsWholePoint program found.point
  pub value_is : found.value ≡ value_of program found.point
