use Rattle.std.proofs.Common.{◌≡◌, ◌++◌, [], ◌∷◌, ap, ◌∙◌, arith, to_z, w32}
use Rattle.std.specs.Prelude.{pos}
use Rattle.std.proofs.lemmas.Int.{ints}
use Rattle.program_rows.proofs.CenterBoards.{short-row}
use Rattle.program_rows.specs.Sums.{short_line}
use Rattle.program_rows.proofs.lines.push_center_short.Goals as goal

pub returns : goal.returns
returns c =
    let case = c.args.case.now in
    let classes = c.args.classes.now in
    let columns = c.args.columns.now in
    let least : to_z w32 c.args.goal.least ≡ pos c.args.goal.least = omega (arith, ints, c.requires.least) in
    let row = short-row case classes columns c.args.r c.args.entry c.args.goal.center (to_z w32 c.args.goal.least) c.as_slice.result.now (c.as_slice.ensures.value ∙ c.in_ok-flags.ensures) in
    c.in_ok-push_row.ensures
    ∙ ap (λ l. c.args.rows.now.items ++ l ∷ []) (row ∙ ap (λ k. record { terms = (short_line case classes columns c.args.r (c.args.entry, c.args.goal)).terms; least = k; kind = (short_line case classes columns c.args.r (c.args.entry, c.args.goal)).kind }) least)
