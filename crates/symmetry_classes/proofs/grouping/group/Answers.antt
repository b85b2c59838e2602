use Rattle.std.proofs.Common.{arith, take}
use Rattle.plan_model.proofs.SumLemmas.{few-places}
use Rattle.std.proofs.lemmas.List.{length-take}
use Rattle.symmetry_classes.specs.Groups.{flagged_servers}
use Rattle.symmetry_classes.proofs.Found.{classes-few, length-flagged}
use Rattle.symmetry_classes.proofs.grouping.group.Goals as goal

pub from_vec-requires : goal.from_vec-requires
from_vec-requires c =
    omega (arith, classes-few c.args.how c.args.racks c.args.case.now (flagged_servers (take c.loop-server.server c.args.movable.now)) 0 c.loop-server.found.keys.keys c.loop-server.found.classes.items c.loop-server.invariant, length-flagged (take c.loop-server.server c.args.movable.now), length-take c.loop-server.server c.args.movable.now, few-places c.args.case.now)
