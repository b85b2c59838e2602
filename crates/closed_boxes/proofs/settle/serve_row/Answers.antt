use Rattle.std.proofs.Common.{◌≡◌, pos, ◌+ℤ◌, ◌<ℤ◌, ◌∙◌, ap, rules, arith, to_z-of_z, FitsSigned, slice_index}
use Rattle.std.proofs.lemmas.Int.{ints}
use Rattle.std.specs.Int.{w128}
use Rattle.closed_boxes.proofs.Serving.{lack_of, helper_raised, raised_small}
use Rattle.closed_boxes.proofs.settle.serve_row.Goals as goal

pub raised-requires-clause-most : goal.raised-requires-clause-most
raised-requires-clause-most c =
    let fits : FitsSigned w128 c.lacking-lack.result = search rules in
    let small = raised_small c.args.program.now c.args.row c.args.point.now c.in-Some.helper c.requires.row c.requires.so_far c.in-Some.ensures.some in
    simp to_z-of_z (rw c.lacking-lack.ensures small)

pub returns-clause-served : goal.returns-clause-served
returns-clause-served c =
    let program = c.args.program.now in
    let point = c.args.point.now in
    let fits : FitsSigned w128 c.lacking-lack.result = search rules in
    let some = simp to_z-of_z at c.if-lack-le0.false in
    let above : pos 0 <ℤ c.lacking-lack.result = omega (arith, ints, some) in
    let there : pos 0 <ℤ lack_of program point c.args.row = rw (← c.lacking-lack.ensures) above in
    let raised : pos c.raised.result ≡ pos (slice_index point c.in-Some.helper) +ℤ c.lacking-lack.result = simp to_z-of_z at c.raised.ensures in
    let is = raised ∙ ap (λ z. pos (slice_index point c.in-Some.helper) +ℤ z) c.lacking-lack.ensures in
    λ _. helper_raised program c.args.row point c.in-Some.helper c.raised.result c.requires.row c.requires.so_far c.in-Some.ensures.some there is
