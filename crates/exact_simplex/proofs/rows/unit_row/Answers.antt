use Rattle.std.proofs.Common.{subst, sym, List, [], ◌≡◌}
use Rattle.exact_fraction.specs.declared.fraction.Fraction.{Fraction}
use Rattle.exact_simplex.specs.Changes.{IsUnitRow}
use Rattle.exact_simplex.specs.declared.tableau_row.Kept.{Kept}
use Rattle.exact_simplex.proofs.MergeFacts.{unit_made, KeptNext}
use Rattle.exact_simplex.proofs.rows.unit_row.Goals as goal

pub returns : goal.returns
returns c =
    let none : c.in_ok-kept.kept.items ≡ [] = c.in_ok-kept.ensures.items in
    let next : KeptNext [] c.keep.new.kept.items c.args.column c.whole.result = subst (λ (xs : List Kept). KeptNext xs c.keep.new.kept.items c.args.column c.whole.result) none (record { rising = c.in_ok-keep.ensures.rising; below = c.in_ok-keep.ensures.below; num = c.in_ok-keep.ensures.num; den = c.in_ok-keep.ensures.den; others = c.in_ok-keep.ensures.others }) in
    subst (λ (xs : List Fraction). IsUnitRow xs c.args.column c.args.size) (sym c.of.ensures) (unit_made c.args.size c.args.column c.keep.new.kept.items c.whole.result c.whole.ensures.num c.whole.ensures.den c.requires next)
