use Rattle.std.proofs.Common.{List, length, ap, arith}
use Rattle.online_mover.specs.declared.timed.Timed.{Timed}
use Rattle.ras_rounds.specs.declared.entries.Entry.{Entry}
use Rattle.rounds_text.proofs.EventFacts.{few-events}
use Rattle.rounds_text.proofs.events.events_of.Goals as goal

pub from_vec-requires : goal.from_vec-requires
from_vec-requires c =
    omega (
      arith,
      ap (λ (xs : List Timed). length xs) c.loop-entry.invariant,
      few-events c.args.number c.loop-entry.entry-index c.as_slice-entry-items.result.now,
      ap (λ (xs : List Entry). length xs) c.as_slice-entry-items.ensures.items,
      c.as_slice-entry-items.ensures.few,
    )
