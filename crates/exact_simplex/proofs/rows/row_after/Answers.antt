use Rattle.std.proofs.Common.{◌≡◌, ◌==◌, sym, subst, List, []}
use Rattle.exact_fraction.specs.declared.fraction.Fraction.{Fraction}
use Rattle.exact_simplex.specs.Changes.{CellFor, CellForFits, IsRowAfter}
use Rattle.exact_simplex.specs.declared.tableau_row.Kept.{Kept}
use Rattle.exact_simplex.proofs.MergeFacts.{RowUpTo, row_end, row_next, row_stuck}
use Rattle.exact_simplex.proofs.rows.row_after.Goals as goal

pub returns-in_default-cell_after-clause-none : goal.returns-in_default-cell_after-clause-none
returns-in_default-cell_after-clause-none c =
    row_stuck c.args.row.now c.args.shares.now c.args.column c.args.pivot c.loop-place.left.now c.loop-place.right.now c.loop-place.new.items c.in-Some.place c.taken_at.result.0 c.taken_at-in-Some.result.0 c.loop-place.invariant c.in-Some.ensures.first c.taken_at.ensures.value c.taken_at-in-Some.ensures.value
    (subst (λ (f : Fraction). CellForFits (c.in-Some.place == c.args.column) c.taken_at.result.0 f c.taken_at-in-Some.result.0 c.args.pivot → ⊥) c.cell-factor.ensures c.in_default-cell_after.ensures.none)

pub loop-place-preserved : goal.loop-place-preserved
loop-place-preserved c =
    row_next c.args.row.now c.args.shares.now c.args.column c.args.pivot c.loop-place.left.now c.loop-place.right.now c.loop-place.new.items c.taken_at.result.1.now c.taken_at-in-Some.result.1.now c.keep.new.kept.items c.in-Some.place c.taken_at.result.0 c.taken_at-in-Some.result.0 c.in-Some-cell_after.cell c.loop-place.invariant c.in-Some.ensures.first
    (record { value_is = c.taken_at.ensures.value; rising = c.taken_at.ensures.rising; later = c.taken_at.ensures.later; below = c.taken_at.ensures.below })
    (record { value_is = c.taken_at-in-Some.ensures.value; rising = c.taken_at-in-Some.ensures.rising; later = c.taken_at-in-Some.ensures.later; below = c.taken_at-in-Some.ensures.below })
    (subst (λ (f : Fraction). CellFor (c.in-Some.place == c.args.column) c.in-Some-cell_after.cell c.taken_at.result.0 f c.taken_at-in-Some.result.0 c.args.pivot) c.cell-factor.ensures c.in-Some-cell_after.ensures.cell)
    (record { rising = c.in_ok-keep.ensures.rising; below = c.in_ok-keep.ensures.below; num = c.in_ok-keep.ensures.num; den = c.in_ok-keep.ensures.den; others = c.in_ok-keep.ensures.others })

pub returns-clause-row : goal.returns-clause-row
returns-clause-row c =
    let left : c.loop-place.left.now ≡ [] = c.in_default.ensures.none.0 in
    let right : c.loop-place.right.now ≡ [] = c.in_default.ensures.none.1 in
    let h = subst (λ (xs : List Kept). RowUpTo c.args.row.now c.args.shares.now c.args.column c.args.pivot [] xs c.loop-place.new.items) right
    (subst (λ (xs : List Kept). RowUpTo c.args.row.now c.args.shares.now c.args.column c.args.pivot xs c.loop-place.right.now c.loop-place.new.items) left c.loop-place.invariant) in
    subst (λ (xs : List Fraction). IsRowAfter xs c.args.row.now c.args.shares.now c.args.column c.args.pivot) (sym c.of.ensures) (row_end c.args.row.now c.args.shares.now c.args.column c.args.pivot c.loop-place.new.items c.size.result c.size.ensures h)
