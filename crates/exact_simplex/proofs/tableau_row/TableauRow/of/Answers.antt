use Rattle.std.proofs.Common.{arith}
use Rattle.exact_simplex.proofs.KeptFacts.{few_kept}
use Rattle.exact_simplex.proofs.tableau_row.TableauRow.of.Goals as goal

pub from_vec-requires : goal.from_vec-requires
from_vec-requires c =
    let few = few_kept 0 c.args.kept.items c.args.size c.requires.rising c.requires.below (omega arith) in
    let small = c.ranges.size.fits in
    omega arith
