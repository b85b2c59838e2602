use Rattle.std.proofs.Common.{◌≡◌, ◌++◌, take}
use Rattle.std.specs.Prelude.{map}
use Rattle.plan_model.specs.Units.{want_of}
use Rattle.plan_model.specs.Losses.{loss_at}
use Rattle.program_rows.specs.Programs.{loss_line}
use Rattle.program_rows.proofs.lines.push_losses.Given as goal

abbrev pub invariant-loop-number : goal.invariant-loop-number
invariant-loop-number l =
    l.rows.items
    ≡ l.initial.rows.items
    ++ map (λ number. loss_line l.case l.classes l.columns l.reach.reservation (loss_at (want_of l.case l.reach.reservation).protection number)) (take l.number-index l.reach.losses)
