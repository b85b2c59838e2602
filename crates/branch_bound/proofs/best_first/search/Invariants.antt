use Rattle.std.proofs.Common.{◌≤◌, ◌-◌, length}
use Rattle.std.specs.Option.{option_copied}
use Rattle.branch_bound.specs.Openings.{IsBestSince}
use Rattle.branch_bound.specs.Searching.{IsSearch}
use Rattle.branch_bound.proofs.best_first.search.Given as goal

abbrev pub invariant-loop-search : goal.invariant-loop-search
invariant-loop-search l = record {
  right : IsSearch l.program l.search.tree l.search.frontier l.search.best;
  within : length l.search.tree ≤ l.nodes;
  best : IsBestSince l.program (option_copied l.fn.first) l.search.best;
}

abbrev pub decreases-loop-search : goal.decreases-loop-search
decreases-loop-search l = l.nodes - length l.search.tree
