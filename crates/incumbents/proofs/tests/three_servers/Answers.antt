use Rattle.std.proofs.Common.{refl, ◌∙◌, inl, inr}
use Rattle.incumbents.proofs.tests.three_servers.Goals as goal

pub invariant_of-result : goal.invariant_of-result
invariant_of-result c =
    let columns = c.from_vec-5.ensures ∙ c.in_ok-columns.ensures.items in
    let most = c.from_vec.ensures ∙ c.in_ok-most.ensures.items in
    let least = c.from_vec-2.ensures ∙ c.in_ok-least.ensures.items in
    let total = c.from_vec-3.ensures ∙ c.in_ok-total.ensures.items in
    let share = c.from_vec-4.ensures ∙ c.in_ok-share.ensures.items in
    let rows = c.from_vec-6.ensures ∙ c.in_ok-rows.ensures.items in
    record { kept = rw (columns, rows, most, least, total, share) (elim c.requires [ inl e ↦ rw e refl | inr e ↦ rw e refl ]) }
