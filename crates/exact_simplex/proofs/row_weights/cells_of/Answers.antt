use Rattle.std.proofs.Common.{◌≡◌, ◌∙◌, ℕ, ◌<◌, ◌++◌, ◌∷◌, ap, sym, arith, List, [], length, take}
use Rattle.std.proofs.Math.Seq.{take-length}
use Rattle.std.proofs.lemmas.List.{take_more}
use Rattle.exact_fraction.specs.declared.fraction.Fraction.{Fraction}
use Rattle.exact_simplex.specs.Cells.{no_fraction}
use Rattle.exact_simplex.proofs.row_weights.cells_of.Goals as goal

pub loop-c-preserved : goal.loop-c-preserved
loop-c-preserved c =
    let size = c.size-size.ensures in
    let test = c.loop-c-test.true in
    let there : c.loop-c.c < length c.args.row.now = omega arith in
    record { so_far = c.in_ok-push.ensures.items ∙ ap (λ (xs : List Fraction). xs ++ c.cell.result ∷ []) c.loop-c.invariant.so_far ∙ ap (λ (f : Fraction). take c.loop-c.c c.args.row.now ++ f ∷ []) c.cell.ensures ∙ sym (take_more c.args.row.now c.loop-c.c no_fraction there) }

pub returns : goal.returns
returns c =
    let size = c.size-size.ensures in
    let past = c.loop-c-test.false in
    let within = c.loop-c.auto.c-end in
    let at_end : c.loop-c.c ≡ length c.args.row.now = omega arith in
    c.loop-c.invariant.so_far ∙ ap (λ (n : ℕ). take n c.args.row.now) at_end ∙ take-length c.args.row.now
