use Rattle.std.proofs.Common.{◌≡◌, ◌++◌, ◌∙◌, take, drop, length}
use Rattle.closed_boxes.proofs.Settlement.{counts_of, least_point, short_row, written}
use Rattle.closed_boxes.proofs.settle.settle_helpers.Goals as goal

pub returns-in-Some : goal.returns-in-Some
returns-in-Some c =
    let kept = rw c.as_mut_slice.ensures.value at c.in-Some.ensures.counts in
    short_row c.args.program.now c.args.counts.now c.serve_rows.new.point c.in-Some.row c.in-Some.ensures.short (counts_of c.args.program.now c.args.counts.now c.in_ok-point.point.items c.serve_rows.new.point c.in_ok-point.ensures.numbers kept)

pub returns : goal.returns
returns c =
    let kept = rw c.as_mut_slice.ensures.value at c.serve_rows.ensures.counts in
    let served = c.in_default.ensures.served in
    let same : take c.in_ok-point.point.len (c.serve_rows.new.point ++ drop (length c.serve_rows.new.point) c.in_ok-point.point.items) ≡ c.serve_rows.new.point = written c.serve_rows.new.point (drop (length c.serve_rows.new.point) c.in_ok-point.point.items) c.in_ok-point.point.len (c.serve_rows.auto.point ∙ c.as_mut_slice.ensures.len) in
    rw (c.from_vec.ensures, same) (least_point c.args.program.now c.args.counts.now c.serve_rows.new.point served (counts_of c.args.program.now c.args.counts.now c.in_ok-point.point.items c.serve_rows.new.point c.in_ok-point.ensures.numbers kept))
