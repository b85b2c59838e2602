use Rattle.std.proofs.Common.{refl}
use Rattle.program_rows.proofs.laws.six_servers_single.Goals as goal

pub returns : goal.returns
returns c = refl
