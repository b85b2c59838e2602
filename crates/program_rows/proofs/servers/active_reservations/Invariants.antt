use Rattle.std.proofs.Common.{◌≡◌}
use Rattle.std.specs.Prelude.{filter}
use Rattle.std.specs.List.{range_with_len}
use Rattle.program_rows.specs.Settings.{makes_active}
use Rattle.program_rows.proofs.servers.active_reservations.Given as goal

abbrev pub invariant-loop-r : goal.invariant-loop-r
invariant-loop-r l = l.active.items ≡ filter (makes_active l.phase) (range_with_len 0 l.r)
