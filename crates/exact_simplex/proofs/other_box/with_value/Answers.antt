use Rattle.std.proofs.Common.{◌≡◌, ◌∙◌, ◌+◌, ◌≤◌, ◌∷◌, ap, sym, subst, arith, List, [], length, drop}
use Rattle.std.proofs.lemmas.List.{drop_more}
use Rattle.exact_fraction.specs.declared.fraction.Fraction.{Fraction}
use Rattle.exact_simplex.specs.declared.tableau_row.Kept.{Kept}
use Rattle.exact_simplex.specs.Rebounds.{HasValue}
use Rattle.exact_simplex.proofs.CopyFacts.{CopyUpTo, copy_below, copy_done, copy_end, copy_kept, copy_next, copy_start}
use Rattle.exact_simplex.proofs.MergeFacts.{KeptNext}
use Rattle.exact_simplex.proofs.other_box.with_value.Goals as goal

pub loop-cell-init : goal.loop-cell-init
loop-cell-init c =
    let none : c.in_ok-kept.kept.items ≡ [] = c.in_ok-kept.ensures.items in
    let some : 1 ≤ length c.args.row.now = c.requires in
    copy_start c.args.row.now c.args.value c.kept.result.now c.taken_at.result.1.now c.keep.new.kept.items some c.kept.ensures.kept c.kept.ensures.values c.taken_at.ensures.rising c.taken_at.ensures.later c.taken_at.ensures.below
    (subst (λ (xs : List Kept). KeptNext xs c.keep.new.kept.items 0 c.args.value) none (record { rising = c.in_ok-keep.ensures.rising; below = c.in_ok-keep.ensures.below; num = c.in_ok-keep.ensures.num; den = c.in_ok-keep.ensures.den; others = c.in_ok-keep.ensures.others }))

pub keep-requires-in-loop-cell-clause-rising : goal.keep-requires-in-loop-cell-clause-rising
keep-requires-in-loop-cell-clause-rising c = c.loop-cell.invariant.rising

pub keep-requires-in-loop-cell-clause-below : goal.keep-requires-in-loop-cell-clause-below
keep-requires-in-loop-cell-clause-below c =
    let cells = c.taken_at.result.1.now in
    let i = c.loop-cell.cell-index in
    let split : drop i cells ≡ c.cell-item.result ∷ drop (i + 1) cells = drop_more cells i c.cell-item.result c.loop-cell-test.true ∙ ap (λ (x : Kept). x ∷ drop (i + 1) cells) (sym c.cell-item.is) in
    copy_below c.args.row.now c.args.value c.loop-cell.kept.items c.cell-item.result (drop (i + 1) cells) (subst (λ (xs : List Kept). CopyUpTo c.args.row.now c.args.value c.loop-cell.kept.items xs) split c.loop-cell.invariant)

pub loop-cell-preserved : goal.loop-cell-preserved
loop-cell-preserved c =
    let cells = c.taken_at.result.1.now in
    let i = c.loop-cell.cell-index in
    let split : drop i cells ≡ c.cell-item.result ∷ drop (i + 1) cells = drop_more cells i c.cell-item.result c.loop-cell-test.true ∙ ap (λ (x : Kept). x ∷ drop (i + 1) cells) (sym c.cell-item.is) in
    copy_next c.args.row.now c.args.value c.loop-cell.kept.items c.keep-in-loop-cell.new.kept.items c.cell-item.result (drop (i + 1) cells)
    (subst (λ (xs : List Kept). CopyUpTo c.args.row.now c.args.value c.loop-cell.kept.items xs) split c.loop-cell.invariant)
    (record { rising = c.in_ok-keep-2.ensures.rising; below = c.in_ok-keep-2.ensures.below; num = c.in_ok-keep-2.ensures.num; den = c.in_ok-keep-2.ensures.den; others = c.in_ok-keep-2.ensures.others })

pub of-requires : goal.of-requires
of-requires c =
    let past = c.loop-cell-test.false in
    let within = c.loop-cell.auto.cell-index-end in
    copy_kept c.args.row.now c.args.value c.loop-cell.kept.items c.size.result c.size.ensures (copy_done c.args.row.now c.args.value c.loop-cell.kept.items c.taken_at.result.1.now c.loop-cell.cell-index (omega arith) c.loop-cell.invariant)

pub returns : goal.returns
returns c =
    let past = c.loop-cell-test.false in
    let within = c.loop-cell.auto.cell-index-end in
    subst (λ (xs : List Fraction). HasValue xs c.args.row.now c.args.value) (sym c.of.ensures) (copy_end c.args.row.now c.args.value c.loop-cell.kept.items c.size.result c.size.ensures (copy_done c.args.row.now c.args.value c.loop-cell.kept.items c.taken_at.result.1.now c.loop-cell.cell-index (omega arith) c.loop-cell.invariant))
