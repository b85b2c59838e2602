use Rattle.std.proofs.Common.{◌≡◌, ◌++◌, take}
use Rattle.std.specs.Prelude.{map}
use Rattle.plan_model.specs.Units.{want_of}
use Rattle.ip_model.specs.declared.parts.Mark.TheVariants.{BoardExcess}
use Rattle.program_rows.specs.Programs.{helper_column}
use Rattle.program_rows.specs.Reach.{reach_excess}
use Rattle.program_rows.proofs.columns.push_board_excess.Given as goal

abbrev pub invariant-loop-board : goal.invariant-loop-board
invariant-loop-board l =
    l.columns.items ≡ l.initial.columns.items
    ++ map (λ board. helper_column (BoardExcess l.reach.reservation board) (want_of l.case l.reach.reservation).spread_weight l.reach.value)
    (take l.board-index (reach_excess l.case l.reach))
