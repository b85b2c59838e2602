use Rattle.std.proofs.Common.{◌≡◌, ℕ, ◌<◌, false, length, get_or, take}
use Rattle.std.specs.Prelude.{◌==◌, ◌&&◌}
use Rattle.std.specs.List.{list_any}
use Rattle.plan_model.specs.Units.{is_for}
use Rattle.program_rows.proofs.lines.boards_in.Given as goal

abbrev pub invariant-loop-place : goal.invariant-loop-place
invariant-loop-place l =
    (length l.flags.items ≡ l.case.boards)
    × ((k : ℕ) → k < l.case.boards → get_or l.flags.items k false ≡ list_any (λ s. (s.board == k) && is_for s.center l.center) (take l.place-index l.case.places))
