use Rattle.std.proofs.Common.{arith, sym, ◌∙◌, Some, length, ap, ◌≡◌, min}
use Rattle.plan_checker.proofs.Loops.{end-other}
use Rattle.plan_checker.proofs.lists.first_difference.Goals as goal

pub returns : goal.returns
returns c =
    let i = c.loop-i.i in
    let end : i ≡ min (length c.args.stated.now) (length c.args.right.now) = omega (arith, c.loop-i-test.false, c.loop-i.auto.i-end, c.min-both.ensures, c.len.ensures, c.len-2.ensures) in
    let same : c.min-both.result ≡ i = omega (arith, c.loop-i-test.false, c.loop-i.auto.i-end) in
    ap Some same ∙ sym (end-other c.args.stated.now c.args.right.now i end (λ e. c.if-len.false (c.len-3.ensures ∙ e ∙ sym c.len-4.ensures))) ∙ c.loop-i.invariant
