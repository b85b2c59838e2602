use Rattle.std.proofs.Common.{◌≡◌, ◌∙◌, sym}
use Rattle.exact_simplex.specs.Cells.{no_fraction}
use Rattle.exact_simplex.specs.Kept.{value_of}
use Rattle.exact_simplex.proofs.KeptFacts.{first_none, first_other}
use Rattle.exact_simplex.proofs.merge.taken_at.Goals as goal
use Rattle.exact_simplex.proofs.merge.taken_at.Goals.{in_default-via-in-Some+else-first-column, in_default-via-in_default}

pub returns-in_default-clause-value : goal.returns-in_default-clause-value
returns-in_default-clause-value c =
    let none : no_fraction ≡ value_of c.args.kept.now c.args.column = elim c.in_default.branch [
      | in_default-via-in-Some+else-first-column w ↦ first_other c.args.column c.args.kept.now w.in-Some.first.now c.requires.rising (sym w.in-Some.ensures.value) w.if-first-column.false
      | in_default-via-in_default w ↦ first_none c.args.column c.args.kept.now (sym w.in_default.ensures.value)
    ] in
    c.nothing.ensures ∙ none
