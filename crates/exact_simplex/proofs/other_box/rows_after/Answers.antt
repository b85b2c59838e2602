use Rattle.std.proofs.Common.{sym, subst, List, All}
use Rattle.exact_fraction.specs.declared.fraction.Fraction.{Fraction}
use Rattle.exact_simplex.specs.Cells.{cell_of, row_of}
use Rattle.exact_simplex.specs.Rebounds.{IsRowShifted, IsUnitWithin, ValueFits}
use Rattle.exact_simplex.proofs.CopyFacts.{each_more, row_there}
use Rattle.exact_simplex.proofs.Pushes.{row_pushed}
use Rattle.exact_simplex.proofs.other_box.rows_after.Goals as goal

pub value_after-requires-clause-units : goal.value_after-requires-clause-units
value_after-requires-clause-units c =
    let same = row_there c.args.cells.now c.loop-place.place c.index-cells-place.result c.loop-place-test.true c.index-cells-place.is in
    subst (λ (row : List Fraction). All (λ s. IsUnitWithin row s) c.args.shifts.now) (sym same) (c.requires.units c.loop-place.place c.loop-place-test.true)

pub loop-place-preserved : goal.loop-place-preserved
loop-place-preserved c =
    let cells = c.args.cells.now in
    let shifts = c.args.shifts.now in
    let place = c.loop-place.place in
    let same = row_there cells place c.index-cells-place.result c.loop-place-test.true c.index-cells-place.is in
    let here : IsRowShifted place c.in_ok-new.new (row_of cells place) shifts = subst (λ (row : List Fraction). IsRowShifted place c.in_ok-new.new row shifts) same (record { value = c.in-Some.value; has = c.in_ok-new.ensures; after = c.in-Some.ensures.value }) in
    let fits : ValueFits place (row_of cells place) shifts (cell_of (row_of cells place) 0) = subst (λ (row : List Fraction). ValueFits place row shifts (cell_of row 0)) same c.in-Some.ensures.fits in
    record {
      listed = rw c.in_ok-push.ensures.items (row_pushed (λ i row. IsRowShifted i row (row_of cells i) shifts) c.loop-place.rows.items c.in_ok-new.new place c.loop-place.invariant.listed here);
      fits = each_more (λ i. ValueFits i (row_of cells i) shifts (cell_of (row_of cells i) 0)) place c.loop-place.invariant.fits fits;
    }
