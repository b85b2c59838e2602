use Rattle.std.proofs.Common.{◌≡◌, ℕ, ◌<◌, false, length, get_or, take}
use Rattle.program_rows.specs.Reach.{numbers_at, reaches_at}
use Rattle.program_rows.proofs.reach.flags_at.Given as goal

abbrev pub invariant-loop-server : goal.invariant-loop-server
invariant-loop-server l =
    (length l.flags.items ≡ numbers_at l.level l.case)
    × ((k : ℕ) → k < numbers_at l.level l.case → get_or l.flags.items k false ≡ reaches_at l.case (take l.server-index l.servers) l.r l.level k)
