use Rattle.closed_boxes.specs.Helpers.{KeepsCounts, ServesBefore}
use Rattle.closed_boxes.proofs.settle.serve_rows.Given as goal

abbrev pub invariant-loop-row : goal.invariant-loop-row
invariant-loop-row l = record {
  served : ServesBefore l.program l.row l.point;
  counts : KeepsCounts l.program.columns l.initial.point l.point;
}
