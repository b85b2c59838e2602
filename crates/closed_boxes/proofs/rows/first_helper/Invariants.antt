use Rattle.std.proofs.Common.{◌≡◌, ℕ, ◌<◌, false, get_or}
use Rattle.ip_model.specs.declared.parts.Term.{Term}
use Rattle.ip_model.specs.Limits.{helper_at}
use Rattle.closed_boxes.proofs.rows.first_helper.Given as goal

abbrev pub invariant-loop-term : goal.invariant-loop-term
invariant-loop-term l = (k : ℕ) (d : Term) → k < l.term-index → helper_at l.columns (get_or l.terms k d).column ≡ false
