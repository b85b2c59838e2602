use Rattle.std.proofs.Common.{◌≡◌, ℕ, ◌<◌, true, List, All, None, get_or, length, ap, sym, ◌∙◌, arith, subst}
use Rattle.std.specs.Prelude.{map}
use Rattle.std.proofs.lemmas.List.{take_all}
use Rattle.std.proofs.lemmas.List.Elements.{All-get_or}
use Rattle.plan_model.proofs.SumLemmas.{length-fits}
use Rattle.symmetry_classes.specs.declared.groups.Class.{Class}
use Rattle.ip_model.specs.declared.parts.Column.{Column}
use Rattle.ip_model.specs.declared.parts.Mark.TheVariants.{Count}
use Rattle.program_rows.proofs.Pushes.{pushed}
use Rattle.program_rows.proofs.Steps.{map-more}
use Rattle.class_expand.specs.Lifting.{mark_in_range, number_among}
use Rattle.class_expand.proofs.Counted.{classes-within, columns-in_range, point-of}
use Rattle.class_expand.proofs.Started.{starts-fit}
use Rattle.class_expand.proofs.counting.counts.Goals as goal

pub number-requires-clause-members : goal.number-requires-clause-members
number-requires-clause-members c =
    let case = c.args.case.now in
    let size = length-fits case c.args.a.now c.requires.fitting in
    subst (λ (cs : List Class). All (λ class. All (λ s. s < length c.args.a.now.of) class.members) cs) (sym c.as_slice-list.ensures.items)
    (classes-within case c.args.phase.now c.args.classes.now.list (length c.args.a.now.of) (starts-fit case c.args.phase.now c.requires.start) c.requires.grouped size)

pub number-requires-clause-in_range : goal.number-requires-clause-in_range
number-requires-clause-in_range c =
    let case = c.args.case.now in
    let d : Column = record { cost = 0; top = 0; mark = Count 0 None } in
    let all = columns-in_range case c.args.phase.now c.args.classes.now.list c.args.program.now (starts-fit case c.args.phase.now c.requires.start) c.requires.grouped c.requires.program in
    All-get_or (λ col. mark_in_range case col.mark ≡ true) c.as_slice-column-items.result.now c.loop-column.column-index d c.loop-column-test.true
    (subst (λ (cs : List Column). All (λ col. mark_in_range case col.mark ≡ true) cs) (sym c.as_slice-column-items.ensures.items) all)

pub loop-column-preserved : goal.loop-column-preserved
loop-column-preserved c =
    let case = c.args.case.now in
    let d : Column = record { cost = 0; top = 0; mark = Count 0 None } in
    let columns = c.args.program.now.columns in
    let i = c.loop-column.column-index in
    let same = c.as_slice-column-items.ensures.items in
    let within : i < length columns = omega (arith, ap length same) in
    let make : Column → ℕ = λ col. number_among case c.args.classes.now.list c.args.a.now col.mark in
    pushed c.in_ok-push.ensures.items c.loop-column.invariant
    (c.number.ensures
    ∙ ap (λ cs. number_among case cs c.args.a.now (get_or c.as_slice-column-items.result.now i d).mark) c.as_slice-list.ensures.items
    ∙ ap (λ cols. make (get_or cols i d)) same)
    (map-more make columns i d within)

pub returns-clause-whole_point : goal.returns-clause-whole_point
returns-clause-whole_point c =
    let case = c.args.case.now in
    let make : Column → ℕ = λ col. number_among case c.args.classes.now.list c.args.a.now col.mark in
    let columns = c.args.program.now.columns in
    let point = c.from_vec-point.ensures ∙ c.loop-column.invariant
    ∙ ap (map make) (take_all c.loop-column.column-index columns (omega (arith, ap length c.as_slice-column-items.ensures.items))) in
    (point-of case c.args.phase.now c.args.classes.now.list c.args.program.now c.args.a.now c.from_vec-point.result c.requires.start c.requires.grouped c.requires.program c.requires.allowed point).0

pub returns-clause-value : goal.returns-clause-value
returns-clause-value c =
    let case = c.args.case.now in
    let make : Column → ℕ = λ col. number_among case c.args.classes.now.list c.args.a.now col.mark in
    let columns = c.args.program.now.columns in
    let point = c.from_vec-point.ensures ∙ c.loop-column.invariant
    ∙ ap (map make) (take_all c.loop-column.column-index columns (omega (arith, ap length c.as_slice-column-items.ensures.items))) in
    (point-of case c.args.phase.now c.args.classes.now.list c.args.program.now c.args.a.now c.from_vec-point.result c.requires.start c.requires.grouped c.requires.program c.requires.allowed point).1
