use Rattle.std.proofs.Common.{◌≤◌, length, arith}
use Rattle.ip_model.proofs.RuleFacts.{program_limits}
use Rattle.bound_certificate.specs.declared.multipliers.Top.{Top}
use Rattle.bound_certificate.proofs.Combined.{rising_few}
use Rattle.bound_certificate.proofs.RuleFacts.{rule_of}
use Rattle.closed_boxes.proofs.Weights.{range_kept, weighs_none}
use Rattle.closed_boxes.proofs.boxes.duals_of.Goals as goal

pub from_vec-requires : goal.from_vec-requires
from_vec-requires c =
    let few : length c.loop-row.tops.items ≤ c.loop-row.row = rising_few (λ (t : Top). t.row) c.loop-row.tops.items c.loop-row.row c.loop-row.invariant.rising c.loop-row.invariant.before in
    let end = c.loop-row.auto.row-end in
    let rows = (program_limits c.args.program.now).few_rows in
    omega (arith, c.len-row-end.ensures)

pub invariant_of-result : goal.invariant_of-result
invariant_of-result c = rw c.from_vec.ensures (record { kept = rule_of 1 c.loop-row.tops.items (range_kept c.args.program.now c.args.point.now c.loop-row.row c.loop-row.tops.items c.loop-row.left.items c.loop-row.invariant) })

pub loop-row-init : goal.loop-row-init
loop-row-init c = rw c.new-tops.ensures.items (weighs_none c.args.program.now c.args.point.now c.in_ok-left.left.items c.in_ok-left.ensures.size c.in_ok-left.ensures.costs)
