use Rattle.std.proofs.Common.{◌≡◌, false}
use Rattle.std.specs.Prelude.{◌&&◌, nat_lt}
use Rattle.std.specs.List.{list_any, range_with_len}
use Rattle.plan_model.specs.Units.{value_for}
use Rattle.program_rows.specs.Settings.{makes_active}
use Rattle.program_rows.proofs.servers.some_value.Given as goal

abbrev pub invariant-loop-r : goal.invariant-loop-r
invariant-loop-r l = list_any (λ r. makes_active l.phase r && nat_lt 0 (value_for l.case r l.kind)) (range_with_len 0 l.r) ≡ false
