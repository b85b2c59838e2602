use Rattle.std.proofs.Common.{◌≡◌, ◌∙◌, ap, sym, subst, List, slice_get, Some, length, refl}
use Rattle.std.proofs.lemmas.Option.{slice_get_past, slice_get_read}
use Rattle.exact_fraction.specs.declared.fraction.Fraction.{Fraction}
use Rattle.exact_simplex.specs.Cells.{cell_of, no_fraction}
use Rattle.exact_simplex.specs.Kept.{IsRising, value_of}
use Rattle.exact_simplex.specs.declared.tableau_row.Kept.{Kept}
use Rattle.exact_simplex.proofs.KeptFacts.{cell_is, found_there, found_other, found_none}
use Rattle.exact_simplex.proofs.tableau_row.TableauRow.cell.Goals as goal
use Rattle.exact_simplex.proofs.tableau_row.TableauRow.cell.Goals.{in_default-via-in-Some+else-cell-column, in_default-via-in_default}

pub returns-in-Some : goal.returns-in-Some
returns-in-Some c =
    let same : c.as_slice-kept.result.now ≡ c.self.inside.kept = c.as_slice-kept.ensures.items in
    let rising : IsRising 0 c.as_slice-kept.result.now = subst (λ (xs : List Kept). IsRising 0 xs) (sym same) c.self.invariant.rising in
    let there : slice_get c.as_slice-kept.result.now c.first_from.result ≡ Some c.in-Some.cell.now = slice_get_read c.as_slice-kept.result.now (length c.as_slice-kept.result.now) c.first_from.result c.in-Some.cell.now refl (c.in-Some.ensures.lookup.3.0) (c.in-Some.ensures.lookup.1) in
    found_there c.as_slice-kept.result.now c.args.column c.first_from.result c.in-Some.cell.now rising there c.if-cell-column.true
    ∙ ap (λ (xs : List Kept). value_of xs c.args.column) same ∙ cell_is c.self.inside.size c.self.inside.kept c.self.invariant.below c.args.column ∙ ap (λ (xs : List Fraction). cell_of xs c.args.column) c.self.view_is

pub returns-in_default : goal.returns-in_default
returns-in_default c =
    let same : c.as_slice-kept.result.now ≡ c.self.inside.kept = c.as_slice-kept.ensures.items in
    let rising : IsRising 0 c.as_slice-kept.result.now = subst (λ (xs : List Kept). IsRising 0 xs) (sym same) c.self.invariant.rising in
    let none : no_fraction ≡ value_of c.as_slice-kept.result.now c.args.column = elim c.in_default.branch [
      | in_default-via-in-Some+else-cell-column w ↦ found_other c.as_slice-kept.result.now c.args.column c.first_from.result w.in-Some.cell.now rising c.first_from.ensures (slice_get_read c.as_slice-kept.result.now (length c.as_slice-kept.result.now) c.first_from.result w.in-Some.cell.now refl (w.in-Some.ensures.lookup.3.0) (w.in-Some.ensures.lookup.1)) w.if-cell-column.false
      | in_default-via-in_default w ↦ found_none c.as_slice-kept.result.now c.args.column c.first_from.result c.first_from.ensures (slice_get_past c.as_slice-kept.result.now c.first_from.result w.in_default.ensures.lookup.3)
    ] in
    c.nothing.ensures ∙ none ∙ ap (λ (xs : List Kept). value_of xs c.args.column) same ∙ cell_is c.self.inside.size c.self.inside.kept c.self.invariant.below c.args.column ∙ ap (λ (xs : List Fraction). cell_of xs c.args.column) c.self.view_is
