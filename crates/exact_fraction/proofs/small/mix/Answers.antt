use Rattle.std.proofs.Common.{to_z-of_z, rules, FitsSigned}
use Rattle.std.specs.Int.{w128}
use Rattle.exact_fraction.proofs.Mixes.{mix_from}
use Rattle.exact_fraction.proofs.small.mix.Goals as goal

pub returns-in-Some-product : goal.returns-in-Some-product
returns-in-Some-product c =
    let a : FitsSigned w128 c.args.a = c.ranges.a in
    let d : FitsSigned w128 c.args.d = c.ranges.d in
    let b : FitsSigned w128 c.args.b = c.ranges.b in
    let e : FitsSigned w128 c.args.c = c.ranges.c in
    let l : FitsSigned w128 c.in-Some.left = search rules in
    let m : FitsSigned w128 c.in-Some-product.right = search rules in
    let left = simp to_z-of_z at c.in-Some.ensures in
    let right = simp to_z-of_z at c.in-Some-product.ensures in
    let both = simp to_z-of_z at c.sum.ensures in
    mix_from c.sum.result c.args.a c.args.d c.args.c c.args.b c.in-Some.left c.in-Some-product.right left.0 right.0 left.1 right.1 both
