use Rattle.std.proofs.Common.{refl, ◌∙◌}
use Rattle.closed_boxes.proofs.tests.two_helpers.Goals as goal

pub invariant_of-result : goal.invariant_of-result
invariant_of-result c =
    let columns = c.from_vec-5.ensures ∙ c.in_ok-columns.ensures.items in
    let both = c.from_vec.ensures ∙ c.in_ok-both.ensures.items in
    let first = c.from_vec-2.ensures ∙ c.in_ok-first.ensures.items in
    let second = c.from_vec-3.ensures ∙ c.in_ok-second.ensures.items in
    let over = c.from_vec-4.ensures ∙ c.in_ok-over.ensures.items in
    let rows = c.from_vec-6.ensures ∙ c.in_ok-rows.ensures.items in
    record { kept = rw (columns, rows, both, first, second, over) refl }
