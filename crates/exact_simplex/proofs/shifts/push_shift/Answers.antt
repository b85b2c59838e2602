use Rattle.std.proofs.Common.{◌≡◌, ◌≢◌, ◌∙◌, sym, ap, ◌++◌, List, rules, ℤ, pos, ◌-ℤ◌, to_z-of_z, FitsSigned}
use Rattle.std.specs.Int.{w64}
use Rattle.exact_simplex.specs.declared.shifts.Shift.{Shift}
use Rattle.exact_simplex.specs.Rebounds.{shifts_at}
use Rattle.exact_simplex.proofs.ShiftSteps.{no_shift, none_added, one_shift}
use Rattle.exact_simplex.proofs.shifts.push_shift.Goals as goal

pub returns-in_ok-push : goal.returns-in_ok-push
returns-in_ok-push c =
    let some : c.rise-by.result ≢ pos 0 = search rules in
    let fits : FitsSigned w64 c.rise-by.result = search rules in
    let items = simp to_z-of_z at c.in_ok-push.ensures.items in
    items ∙ ap (λ (xs : List Shift). c.args.shifts.now.items ++ xs) (one_shift c.args.units.now c.args.row c.args.low c.rise-by.result c.unit_of-unit.result c.unit_of-unit.ensures some ∙ ap (λ (z : ℤ). shifts_at c.args.units.now c.args.row c.args.low z) c.rise-by.ensures)

pub returns-else-by-ne0 : goal.returns-else-by-ne0
returns-else-by-ne0 c =
    let none : c.rise-by.result ≡ pos 0 = search rules in
    sym (ap (λ (xs : List Shift). c.args.shifts.now.items ++ xs) (no_shift c.args.units.now c.args.row c.args.low (pos c.args.new -ℤ pos c.args.old) (sym c.rise-by.ensures ∙ none)) ∙ none_added c.args.shifts.now.items)
