use Rattle.std.proofs.Common.{◌&&◌, []}
use Rattle.memory_runs.specs.Files.{are_short, is_line, words_in}
use Rattle.memory_runs.specs.Runs.{ended}
use Rattle.memory_runs.proofs.Checked.{check-fails, not-both}
use Rattle.memory_runs.proofs.solves.solve.Goals as goal

-- Where `check` is not told, the first run and its document say why.
pub returns-in-Err : goal.returns-in-Err
returns-in-Err c =
    check-fails c.args.texts (words_in c.args.line.now) (is_line (words_in c.args.line.now) && are_short c.args.texts []) (ended c.in_ok-first.first)
    c.as_str-plan.result.now c.in_ok-first.ensures c.as_str-plan.ensures.value c.in-Err.fault c.in-Err.ensures

-- The two runs are those that differ.
pub returns-then-not-is_same : goal.returns-then-not-is_same
returns-then-not-is_same c = (
  ended c.in_ok-first.first,
  ended c.in_ok-second.second,
  c.in_ok-first.ensures,
  c.in_ok-second.ensures,
  λ e. not-both c.is_same.result (c.is_same.ensures.1 e) c.if-not-is_same.true,
)
