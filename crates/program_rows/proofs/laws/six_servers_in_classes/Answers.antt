use Rattle.std.proofs.Common.{refl}
use Rattle.program_rows.proofs.laws.six_servers_in_classes.Goals as goal

pub returns : goal.returns
returns c = refl
