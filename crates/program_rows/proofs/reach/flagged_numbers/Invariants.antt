use Rattle.std.proofs.Common.{◌≡◌, take}
use Rattle.symmetry_classes.specs.Groups.{flagged_servers}
use Rattle.program_rows.proofs.reach.flagged_numbers.Given as goal

abbrev pub invariant-loop-number : goal.invariant-loop-number
invariant-loop-number l = l.numbers.items ≡ flagged_servers (take l.number l.flags)
