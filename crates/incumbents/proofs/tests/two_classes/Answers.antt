use Rattle.std.proofs.Common.{refl, ◌∙◌}
use Rattle.incumbents.proofs.tests.two_classes.Goals as goal

pub invariant_of-result : goal.invariant_of-result
invariant_of-result c =
    let columns = c.from_vec-4.ensures ∙ c.in_ok-columns.ensures.items in
    let first = c.from_vec.ensures ∙ c.in_ok-first.ensures.items in
    let second = c.from_vec-2.ensures ∙ c.in_ok-second.ensures.items in
    let total = c.from_vec-3.ensures ∙ c.in_ok-total.ensures.items in
    let rows = c.from_vec-5.ensures ∙ c.in_ok-rows.ensures.items in
    record { kept = rw (columns, rows, first, second, total) refl }
