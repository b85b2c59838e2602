use Rattle.std.proofs.Common.{◌≡◌, ◌≤◌, length}
use Rattle.program_rows.specs.Sums.{factor_of}
use Rattle.program_rows.proofs.Terms.{terms_up_to}
use Rattle.program_rows.proofs.sums.written.Given as goal

abbrev pub invariant-loop-j : goal.invariant-loop-j
invariant-loop-j l = (l.terms.items ≡ terms_up_to l.columns (factor_of l.case l.classes l.row.sum) l.j) × (length l.terms.items ≤ l.j)
