use Rattle.std.proofs.Common.{◌≡◌, ◌≤◌, ◌*◌, take}
use Rattle.std.specs.Prelude.{sum_by}
use Rattle.plan_model.specs.Units.{servers_with_places}
use Rattle.program_rows.specs.Settings.{setting_of}
use Rattle.program_rows.specs.Bases.{fixed_cost}
use Rattle.program_rows.proofs.base.fixed_moves.Given as goal

abbrev pub invariant-loop-server : goal.invariant-loop-server
invariant-loop-server l =
    (l.sum ≡ sum_by (fixed_cost l.case (setting_of l.case l.phase)) (take l.server (servers_with_places l.case (setting_of l.case l.phase).start))) × (l.sum ≤ 10000 * l.server)
