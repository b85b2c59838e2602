use Rattle.std.proofs.Common.{◌≡◌, ◌++◌, take}
use Rattle.std.specs.Prelude.{map}
use Rattle.plan_model.specs.Units.{want_of}
use Rattle.ip_model.specs.declared.parts.Mark.TheVariants.{RackExcess}
use Rattle.program_rows.specs.Programs.{helper_column}
use Rattle.program_rows.proofs.columns.push_rack_excess.Given as goal

abbrev pub invariant-loop-rack : goal.invariant-loop-rack
invariant-loop-rack l =
    l.columns.items ≡ l.initial.columns.items
    ++ map (λ rack. helper_column (RackExcess l.reach.reservation rack) (want_of l.case l.reach.reservation).rack_weight l.reach.value)
    (take l.rack-index l.reach.racks)
