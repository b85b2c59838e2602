use Rattle.std.proofs.Common.{rules, subst, to_z-of_z, ◌≡◌, ◌*ℤ◌, FitsSigned, w64}
use Rattle.std.specs.Int.{w128}
use Rattle.exact_fraction.specs.Sizes.{IsSmall}
use Rattle.exact_fraction.proofs.small.product.Goals as goal

pub returns-then-b-le9223372036854775807 : goal.returns-then-b-le9223372036854775807
returns-then-b-le9223372036854775807 c =
    let wide_a : FitsSigned w128 c.args.a = c.ranges.a in
    let wide_b : FitsSigned w128 c.args.b = c.ranges.b in
    let a : FitsSigned w64 c.args.a = search rules in
    let b : FitsSigned w64 c.args.b = search rules in
    let r : FitsSigned w128 c.narrow_product.result = search rules in
    let value : c.narrow_product.result ≡ c.args.a *ℤ c.args.b = simp to_z-of_z at c.narrow_product.ensures.value in
    (subst IsSmall value c.narrow_product.ensures.small, simp to_z-of_z value)
