use Rattle.std.proofs.Common.{◌≡◌, take}
use Rattle.program_rows.specs.Settings.{setting_of, movable_flags}
use Rattle.program_rows.proofs.servers.movables.Given as goal

abbrev pub invariant-loop-server : goal.invariant-loop-server
invariant-loop-server l = l.flags.items ≡ take l.server (movable_flags l.case (setting_of l.case l.phase))
