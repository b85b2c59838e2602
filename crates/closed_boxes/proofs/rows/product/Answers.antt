use Rattle.std.proofs.Common.{arith, rules, to_z-of_z, FitsSigned}
use Rattle.std.proofs.lemmas.Int.{ints}
use Rattle.std.specs.Int.{w128}
use Rattle.ip_model.proofs.Rows.{product_size, product_fits}
use Rattle.closed_boxes.proofs.rows.product.Goals as goal

pub returns-clause-size : goal.returns-clause-size
returns-clause-size c =
    let factor : FitsSigned w128 c.from.result = search rules in
    let number : FitsSigned w128 c.from-2.result = search rules in
    let small = product_size c.from.result c.from-2.result (omega (arith, ints)) (omega (arith, ints)) in
    let fits = product_fits c.from.result c.from-2.result small in
    simp to_z-of_z small
