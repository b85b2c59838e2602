use Rattle.std.proofs.Common.{◌≡◌, ◌+◌, subst, sym, List, length, pos, get_or, arith, rules, to_z-of_z, FitsSigned}
use Rattle.std.specs.Int.{w64}
use Rattle.exact_fraction.specs.declared.fraction.Fraction.{Fraction}
use Rattle.exact_simplex.specs.Beginning.{IsWholeRow}
use Rattle.exact_simplex.proofs.MergeFacts.{KeptNext}
use Rattle.exact_simplex.proofs.Pushes.{whole_end, whole_next}
use Rattle.exact_simplex.proofs.start.whole_row.Goals as goal

pub loop-k-preserved : goal.loop-k-preserved
loop-k-preserved c =
    let value : FitsSigned w64 c.args.value = c.ranges.value in
    let slope : FitsSigned w64 (get_or c.args.slopes.now c.loop-k.k (pos 0)) = search rules in
    let num = simp to_z-of_z at c.whole-in-loop-k.ensures.num in
    let before = simp to_z-of_z at c.loop-k.invariant in
    let next : KeptNext c.loop-k.kept.items c.keep-in-loop-k.new.kept.items (c.loop-k.k + 1) c.whole-in-loop-k.result = record { rising = c.in_ok-keep-2.ensures.rising; below = c.in_ok-keep-2.ensures.below; num = c.in_ok-keep-2.ensures.num; den = c.in_ok-keep-2.ensures.den; others = c.in_ok-keep-2.ensures.others } in
    simp to_z-of_z (whole_next c.args.value c.args.slopes.now c.loop-k.kept.items c.keep-in-loop-k.new.kept.items c.whole-in-loop-k.result c.loop-k.k (c.loop-k.k + 1) (omega arith) before (num, c.whole-in-loop-k.ensures.den) next)

pub returns : goal.returns
returns c =
    let value : FitsSigned w64 c.args.value = c.ranges.value in
    let before = simp to_z-of_z at c.loop-k.invariant in
    let past = c.loop-k-test.false in
    let within = c.loop-k.auto.k-end in
    let at_end : c.loop-k.k ≡ length c.args.slopes.now = omega arith in
    subst (λ (xs : List Fraction). IsWholeRow xs c.args.value c.args.slopes.now) (sym c.of.ensures) (whole_end c.args.value c.args.slopes.now c.loop-k.kept.items (length c.args.slopes.now + 1) c.loop-k.k at_end (omega arith) before)
