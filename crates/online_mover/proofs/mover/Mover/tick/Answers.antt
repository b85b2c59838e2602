use Rattle.std.proofs.Common.{sym, ◌∙◌}
use Rattle.online_mover.proofs.Ticks.{ticked-counts, ticked-flight, ticked-rule}
use Rattle.online_mover.proofs.mover.Mover.tick.Goals as goal

pub invariant_of-self : goal.invariant_of-self
invariant_of-self c = (
  ticked-rule (record { case = c.self.inside.counting.case; at_once = c.self.inside.at_once; servers = c.self.inside.servers }) c.ticked.new.servers c.self.invariant.0 c.ticked.ensures,
  c.self.invariant.1 ∙ sym (ticked-counts c.self.inside.servers c.ticked.new.servers c.ticked.ensures),
  c.self.invariant.2 ∙ sym (ticked-flight c.self.inside.servers c.ticked.new.servers c.ticked.ensures),
)
