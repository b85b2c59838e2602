use Rattle.std.proofs.Common.{ap, arith, length, take}
use Rattle.std.proofs.lemmas.List.{length-map, length-take}
use Rattle.first_plans.specs.Kept.{kept_at}
use Rattle.first_plans.proofs.kept.kept_plan.Goals as goal

pub from_vec-requires : goal.from_vec-requires
from_vec-requires c =
    omega (
      arith,
      ap length c.loop-server.invariant,
      length-map (take c.loop-server.server c.args.case.now.places) (kept_at c.args.case.now),
      length-take c.loop-server.server c.args.case.now.places,
    )
