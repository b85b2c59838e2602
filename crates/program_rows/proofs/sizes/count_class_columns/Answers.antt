use Rattle.std.proofs.Common.{◌++◌, take, length, ap, sym, ◌∙◌, arith}
use Rattle.std.specs.Prelude.{flat_map}
use Rattle.std.specs.List.{enumerate_from}
use Rattle.std.proofs.lemmas.List.{length-append}
use Rattle.program_rows.specs.Reach.{columns_of_class}
use Rattle.program_rows.proofs.Steps.{numbered-more, length-class_columns}
use Rattle.program_rows.proofs.sizes.count_class_columns.Goals as goal

pub loop-class-preserved : goal.loop-class-preserved
loop-class-preserved c =
    let f = columns_of_class c.args.case.now c.args.active.now in
    let i = c.loop-class.class-index in
    let classes = c.args.classes.now in
    let class = c.class-item.result in
    let before = flat_map f (enumerate_from 0 (take i classes)) in
    let more = ap length (numbered-more f classes i class c.loop-class-test.true ∙ ap (λ k. before ++ f (i, k)) (sym c.class-item.is)) in
    let sum = length-append before (f (i, class)) in
    let step = length-class_columns c.args.case.now c.args.active.now (i, class) in (
      omega (arith, more, sum, step, c.loop-class.invariant.0, c.count_destinations.ensures.count),
      omega (arith, c.loop-class.invariant.1, c.count_destinations.ensures.most),
    )
