use Rattle.std.proofs.Common.{◌≡◌, ◌+◌, drop, length}
use Rattle.ras_inventory.specs.Lines.{lines_from, lines_of}
use Rattle.ras_inventory.specs.Registers.{IsRegisterOf}
use Rattle.ras_inventory.proofs.lines.read_lines.Given as goal

abbrev pub invariant-loop-i : goal.invariant-loop-i
invariant-loop-i l =
    (lines_from (l.i + 1) l.list (drop l.i l.records) ≡ lines_of l.records) × IsRegisterOf l.list l.register × (length l.list + 1 ≡ l.i)
