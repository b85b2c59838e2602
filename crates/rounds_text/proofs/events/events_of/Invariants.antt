use Rattle.std.proofs.Common.{◌≡◌, take}
use Rattle.rounds_text.specs.Scripts.{events_of}
use Rattle.rounds_text.proofs.events.events_of.Given as goal

abbrev pub invariant-loop-entry : goal.invariant-loop-entry
invariant-loop-entry l = l.items.items ≡ events_of l.number (take l.entry-index l.entry-items)
