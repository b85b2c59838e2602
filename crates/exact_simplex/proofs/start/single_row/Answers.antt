use Rattle.std.proofs.Common.{◌≡◌, ◌+◌, subst, List, [], arith, to_z-of_z, FitsSigned}
use Rattle.std.specs.Int.{w64}
use Rattle.exact_simplex.specs.declared.tableau_row.Kept.{Kept}
use Rattle.exact_simplex.proofs.MergeFacts.{KeptNext}
use Rattle.exact_simplex.proofs.StartSteps.{single_when}
use Rattle.exact_simplex.proofs.start.single_row.Goals as goal

pub returns : goal.returns
returns c =
    let value : FitsSigned w64 c.args.value = c.ranges.value in
    let factor : FitsSigned w64 c.args.factor = c.ranges.factor in
    let first_num = simp to_z-of_z at c.whole.ensures.num in
    let second_num = simp to_z-of_z at c.whole-2.ensures.num in
    let none : c.in_ok-kept.kept.items ≡ [] = c.in_ok-kept.ensures.items in
    let first : KeptNext [] c.keep.new.kept.items 0 c.whole.result = subst (λ (xs : List Kept). KeptNext xs c.keep.new.kept.items 0 c.whole.result) none (record { rising = c.in_ok-keep.ensures.rising; below = c.in_ok-keep.ensures.below; num = c.in_ok-keep.ensures.num; den = c.in_ok-keep.ensures.den; others = c.in_ok-keep.ensures.others }) in
    let second : KeptNext c.keep.new.kept.items c.keep-2.new.kept.items (c.args.place + 1) c.whole-2.result = record { rising = c.in_ok-keep-2.ensures.rising; below = c.in_ok-keep-2.ensures.below; num = c.in_ok-keep-2.ensures.num; den = c.in_ok-keep-2.ensures.den; others = c.in_ok-keep-2.ensures.others } in
    single_when c.args.columns (c.args.columns + 1) c.args.place c.args.value c.args.factor c.keep.new.kept.items c.keep-2.new.kept.items c.whole.result c.whole-2.result (c.args.place + 1) c.of.result c.of.ensures (omega arith) c.requires.place (omega arith) (first_num, c.whole.ensures.den) (second_num, c.whole-2.ensures.den) first second
