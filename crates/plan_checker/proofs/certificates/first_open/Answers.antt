use Rattle.std.proofs.Common.{◌≡◌, ap, arith, length, true, get_or, ◌∙◌, sym, None}
use Rattle.std.specs.Prelude.{not}
use Rattle.bound_certificate.specs.declared.tree.Node.{Node}
use Rattle.bound_certificate.specs.declared.tree.Node.TheVariants.{Split}
use Rattle.plan_model.proofs.NumberLemmas.{position_at, position_none}
use Rattle.plan_checker.specs.Reasons.{is_closed}
use Rattle.plan_checker.proofs.certificates.first_open.Goals as goal

pub returns-then-not-is_closed : goal.returns-then-not-is_closed
returns-then-not-is_closed c =
    let node = c.node-item.result in
    let read = c.as_slice-node-items.ensures.items in
    let at : node ≡ get_or c.args.nodes.now c.loop-i.i node = rw read at c.node-item.is in
    let fails : not (is_closed node) ≡ true = cc in
    sym (position_at (λ (n : Node). not (is_closed n)) c.args.nodes.now c.loop-i.i node (omega (arith, c.loop-i-test.true, ap length read))
    (λ k lt. c.loop-i.invariant k node lt) (ap (λ (n : Node). not (is_closed n)) (sym at) ∙ fails))

pub returns : goal.returns
returns c =
    let none : Node = Split 0 0 0 0 None in
    sym (position_none (λ (n : Node). not (is_closed n)) c.args.nodes.now none
    (λ k within. c.loop-i.invariant k none (omega (arith, within, c.loop-i-test.false, ap length c.as_slice-node-items.ensures.items))))
