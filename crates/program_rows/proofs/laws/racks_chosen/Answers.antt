use Rattle.std.proofs.Common.{refl}
use Rattle.program_rows.proofs.laws.racks_chosen.Goals as goal

pub returns : goal.returns
returns c = refl
