use Rattle.std.proofs.Common.{◌≡◌, ℕ, ◌<◌, false, slice_index, IfNone, IfSome}
use Rattle.ip_model.specs.Limits.{helper_at}
use Rattle.branch_bound.specs.Columns.{IsFractional}
use Rattle.branch_bound.proofs.gains.split_column.Given as goal

abbrev pub invariant-loop-column : goal.invariant-loop-column
invariant-loop-column l = record {
  some : IfSome l.held (λ choice. IsFractional l.program l.point choice.column);
  none : IfNone l.held ((k : ℕ) → k < l.column → helper_at l.program.columns k ≡ false → slice_index l.point.part k ≡ 0);
}
