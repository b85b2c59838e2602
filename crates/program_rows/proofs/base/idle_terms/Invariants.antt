use Rattle.std.proofs.Common.{◌≡◌, ◌≤◌, ◌*◌, cond}
use Rattle.std.specs.Prelude.{sum_by, not}
use Rattle.std.specs.List.{range_with_len}
use Rattle.plan_model.specs.Costs.{terms_cost}
use Rattle.program_rows.specs.Settings.{setting_of, makes_active}
use Rattle.program_rows.proofs.base.idle_terms.Given as goal

abbrev pub invariant-loop-r : goal.invariant-loop-r
invariant-loop-r l =
    (l.sum ≡ sum_by (λ r. cond (not (makes_active l.phase r)) (terms_cost l.case (setting_of l.case l.phase).start r) 0) (range_with_len 0 l.r)) × (l.sum ≤ 2000000000000 * l.r)
