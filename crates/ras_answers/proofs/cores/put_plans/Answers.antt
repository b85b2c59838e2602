use Rattle.std.proofs.Common.{arith}
use Rattle.ras_answers.proofs.CoreLemmas.{adds-all, adds-plan, can-show-plan}
use Rattle.ras_answers.proofs.cores.put_plans.Goals as goal

pub put_document-requires : goal.put_document-requires
put_document-requires c =
    can-show-plan c.args.files.now c.args.members.now c.args.plans.now c.loop-n.n c.in_ok-fewer.fewer c.index-as_slice-n.result
    (omega (arith, c.loop-n-test.true, c.len-n-end.ensures)) c.in_ok-fewer.ensures (rw c.as_slice.ensures.items at c.index-as_slice-n.is) c.requires.each

pub loop-n-preserved : goal.loop-n-preserved
loop-n-preserved c =
    adds-plan c.args.files.now c.args.members.now c.args.plans.now c.loop-n.n c.in_ok-fewer.fewer c.index-as_slice-n.result
    c.args.text.now.items c.loop-n.text.items c.put_document.new.text.items
    (omega (arith, c.loop-n-test.true, c.len-n-end.ensures)) c.in_ok-fewer.ensures (rw c.as_slice.ensures.items at c.index-as_slice-n.is)
    c.loop-n.invariant c.in_ok-put_document.ensures

pub returns : goal.returns
returns c =
    adds-all c.args.files.now c.args.members.now c.args.plans.now c.loop-n.n c.args.text.now.items c.loop-n.text.items
    (omega (arith, c.loop-n-test.false, c.len-n-end.ensures)) c.loop-n.invariant
