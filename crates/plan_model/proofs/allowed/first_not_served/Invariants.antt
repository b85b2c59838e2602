use Rattle.std.proofs.Common.{◌≡◌, ℕ, ◌<◌, false, get_or, None}
use Rattle.std.specs.Prelude.{not}
use Rattle.plan_model.specs.Allowed.{serves}
use Rattle.plan_model.specs.Units.{servers_with_places, no_place}
use Rattle.plan_model.proofs.allowed.first_not_served.Given as goal

abbrev pub invariant-loop-server : goal.invariant-loop-server
invariant-loop-server l = (k : ℕ) → k < l.server → not (serves l.case (get_or (servers_with_places l.case l.a) k (no_place, None))) ≡ false
