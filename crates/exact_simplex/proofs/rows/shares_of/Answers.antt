use Rattle.std.proofs.Common.{◌≡◌, ◌∙◌, ℕ, ◌+◌, ◌∷◌, ap, sym, subst, arith, List, [], length, drop}
use Rattle.std.proofs.Math.Seq.{drop-length}
use Rattle.std.proofs.lemmas.List.{drop_more}
use Rattle.exact_fraction.specs.declared.fraction.Fraction.{Fraction}
use Rattle.exact_simplex.specs.Changes.{AreShares}
use Rattle.exact_simplex.specs.declared.tableau_row.Kept.{Kept}
use Rattle.exact_simplex.proofs.MergeFacts.{SharesUpTo, shares_end, shares_next}
use Rattle.exact_simplex.proofs.rows.shares_of.Goals as goal

pub loop-cell-preserved : goal.loop-cell-preserved
loop-cell-preserved c =
    let kept = c.kept-kept.result.now in
    let i = c.loop-cell.cell-index in
    let split : drop i kept ≡ c.cell-item.result ∷ drop (i + 1) kept = drop_more kept i c.cell-item.result c.loop-cell-test.true ∙ ap (λ (x : Kept). x ∷ drop (i + 1) kept) (sym c.cell-item.is) in
    shares_next c.args.row.now c.args.column c.args.pivot c.loop-cell.shares.items c.keep.new.kept.items c.cell-item.result (drop (i + 1) kept) c.in-Some.share
    (subst (λ (xs : List Kept). SharesUpTo c.args.row.now c.args.column c.args.pivot c.loop-cell.shares.items xs) split c.loop-cell.invariant) c.in-Some.ensures.share
    (record { rising = c.in_ok-keep.ensures.rising; below = c.in_ok-keep.ensures.below; num = c.in_ok-keep.ensures.num; den = c.in_ok-keep.ensures.den; others = c.in_ok-keep.ensures.others })

pub returns-clause-shares : goal.returns-clause-shares
returns-clause-shares c =
    let kept = c.kept-kept.result.now in
    let past = c.loop-cell-test.false in
    let within = c.loop-cell.auto.cell-index-end in
    let at_end : length kept ≡ c.loop-cell.cell-index = omega arith in
    let none : drop c.loop-cell.cell-index kept ≡ [] = subst (λ (n : ℕ). drop n kept ≡ []) at_end (drop-length kept) in
    let h = subst (λ (xs : List Kept). SharesUpTo c.args.row.now c.args.column c.args.pivot c.loop-cell.shares.items xs) none c.loop-cell.invariant in
    subst (λ (xs : List Fraction). AreShares xs c.args.row.now c.args.column c.args.pivot) (sym c.of.ensures) (shares_end c.args.row.now c.args.column c.args.pivot c.loop-cell.shares.items c.size.result c.size.ensures h)
