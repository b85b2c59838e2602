use Rattle.std.proofs.Common.{take}
use Rattle.ras_inventory.specs.Regions.{AreLabelsOf}
use Rattle.ras_inventory.proofs.labels.labels_of.Given as goal

abbrev pub invariant-loop-line : goal.invariant-loop-line
invariant-loop-line l = AreLabelsOf (take l.line-index l.lines) l.labels
