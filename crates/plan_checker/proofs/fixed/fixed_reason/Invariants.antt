use Rattle.std.proofs.Common.{◌≡◌, ℕ, ◌<◌, false, get_or, None, zip}
use Rattle.std.specs.Prelude.{not}
use Rattle.plan_model.specs.Rack.{keeps_to_chosen}
use Rattle.plan_model.specs.Units.{servers_with_places, no_place}
use Rattle.plan_checker.proofs.fixed.fixed_reason.Given as goal

abbrev pub invariant-loop-server : goal.invariant-loop-server
invariant-loop-server l = (k : ℕ) → k < l.server → not (keeps_to_chosen l.case l.chosen (get_or (zip (servers_with_places l.case l.region) l.a.of) k ((no_place, None), None))) ≡ false
