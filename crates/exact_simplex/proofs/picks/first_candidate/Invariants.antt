use Rattle.std.proofs.Common.{◌≡◌, ℕ, ◌<◌, ◌≤◌, suc}
use Rattle.exact_simplex.specs.Cells.{cell_of, row_of}
use Rattle.exact_simplex.specs.Choices.{IsCandidate}
use Rattle.exact_simplex.specs.Kept.{IsRising, value_of}
use Rattle.exact_simplex.proofs.picks.first_candidate.Given as goal

abbrev pub invariant-loop-k : goal.invariant-loop-k
invariant-loop-k l = record {
  none : (k : ℕ) → k < l.k → IsCandidate l.cells l.place (suc k) → ⊥;
  rising : IsRising (suc l.k) l.rest;
  values : (c : ℕ) → suc l.k ≤ c → value_of l.rest c ≡ cell_of (row_of l.cells l.place) c;
}
