use Rattle.std.proofs.Common.{◌≡◌, ℕ, ◌<◌, ◌≤◌, suc}
use Rattle.exact_simplex.specs.Cells.{cell_of, row_of}
use Rattle.exact_simplex.specs.Choices.{ChoiceFits, IsCandidate, IsHeld, IsSetting}
use Rattle.exact_simplex.specs.Kept.{IsRising, value_of}
use Rattle.exact_simplex.specs.Tableaus.{Scaled}
use Rattle.exact_simplex.proofs.picks.choose.Given as goal

abbrev pub invariant-loop-other : goal.invariant-loop-other
invariant-loop-other l = record {
  within : l.held < l.other;
  candidate : IsCandidate l.cells l.place (suc l.held);
  held : (t : Scaled) → IsSetting l.units l.cells t → IsHeld l.cells t l.place l.other l.held × ChoiceFits l.other l.cells t l.place;
  rising : IsRising (suc l.other) l.rest;
  values : (c : ℕ) → suc l.other ≤ c → value_of l.rest c ≡ cell_of (row_of l.cells l.place) c;
}
