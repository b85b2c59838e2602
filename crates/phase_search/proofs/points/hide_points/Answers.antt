use Rattle.std.proofs.Common.{◌<◌, length, arith, ap, sym, ◌∙◌}
use Rattle.std.specs.Prelude.{slice_set}
use Rattle.std.proofs.lemmas.List.Edits.{map_over_more}
use Rattle.plan_checker.specs.Points.{without_point}
use Rattle.phase_search.proofs.points.hide_points.Goals as goal

pub loop-node-preserved : goal.loop-node-preserved
loop-node-preserved c =
    let within : c.loop-node.node-index < length c.args.nodes.now = omega arith in
    let here = c.node-item.is in
    ap (slice_set c.loop-node.nodes c.loop-node.node-index) (c.hide_point.ensures ∙ ap without_point (sym here))
    ∙ map_over_more without_point c.args.nodes.now c.loop-node.nodes c.loop-node.node-index c.node-item.result within c.loop-node.invariant here
