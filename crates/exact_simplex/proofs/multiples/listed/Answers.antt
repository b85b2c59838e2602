use Rattle.std.proofs.Common.{arith, ◌≤◌, length}
use Rattle.bound_certificate.specs.declared.multipliers.Top.{Top}
use Rattle.bound_certificate.proofs.Combined.{rising_few}
use Rattle.bound_certificate.proofs.RuleFacts.{rule_of}
use Rattle.exact_simplex.proofs.multiples.listed.Goals as goal

pub from_vec-requires : goal.from_vec-requires
from_vec-requires c =
    let few : length c.loop-i.tops.items ≤ c.loop-i.i = rising_few (λ (t : Top). t.row) c.loop-i.tops.items c.loop-i.i c.loop-i.invariant.listed.range.rising c.loop-i.invariant.listed.below in
    let end = c.loop-i.auto.i-end in
    let most = c.requires.few in
    omega arith

pub invariant_of-result : goal.invariant_of-result
invariant_of-result c = rw c.from_vec.ensures (record { kept = rule_of c.args.den c.loop-i.tops.items c.loop-i.invariant.listed.range })
