use Rattle.std.proofs.Common.{◌≡◌, ℕ, ◌≤◌}
use Rattle.exact_simplex.specs.Kept.{IsRising, value_of}
use Rattle.exact_simplex.proofs.picks.kept_from.Given as goal

abbrev pub invariant-loop-place : goal.invariant-loop-place
invariant-loop-place l = record {
  rising : IsRising l.place l.rest;
  values : (c : ℕ) → l.place ≤ c → value_of l.rest c ≡ value_of l.kept c;
}
