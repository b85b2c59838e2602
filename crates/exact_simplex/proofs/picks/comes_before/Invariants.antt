use Rattle.std.proofs.Common.{ℕ, ◌<◌}
use Rattle.exact_simplex.specs.Choices.{SameQuotients, ShowsPair}
use Rattle.exact_simplex.specs.Tableaus.{Scaled}
use Rattle.exact_simplex.proofs.PickSteps.{RowCompareFits}
use Rattle.exact_simplex.proofs.picks.comes_before.Given as goal

abbrev pub invariant-loop-i : goal.invariant-loop-i
invariant-loop-i l = (n : ℕ) (t : Scaled) → ShowsPair n l.cells t l.place l.held l.other → (i : ℕ) → i < l.i → SameQuotients t l.place l.held l.other i × RowCompareFits l.cells l.place l.held l.other i
