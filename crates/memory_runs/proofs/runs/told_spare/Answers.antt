use Rattle.std.proofs.Common.{ℕ, List, ◌&&◌, string_bytes, subst}
use Rattle.std.specs.declared.alloc.Global.{Global}
use Rattle.std.specs.declared.string.String.{String}
use Rattle.memory_runs.specs.Files.{are_short, files_in, is_line}
use Rattle.memory_runs.specs.Runs.{IsTold, RunsTo}
use Rattle.memory_runs.proofs.runs.told_spare.Goals as goal

-- the search would read the words of `spare` to their end
pub returns : goal.returns
returns c =
    subst
    (λ (ws : List (List ℕ)). RunsTo {T = String Global} (λ t. IsTold (files_in c.args.texts c.args.failures.now) ws (string_bytes t)) (is_line ws && are_short c.args.texts c.args.failures.now) (files_in c.args.texts c.args.failures.now) ws c.told_over.result)
    c.in_ok-words.ensures
    c.told_over.ensures
