use Rattle.std.proofs.Common.{refl}
use Rattle.search_rows.proofs.programs.chain_of_eight.Goals as goal

pub invariant_of-result : goal.invariant_of-result
invariant_of-result c = rw (c.in_ok-rows.ensures, c.in_ok-columns.ensures) (record { kept = refl })
