use Rattle.std.proofs.Common.{ap, arith, sym, ◌∙◌, length, subst, ◌≡◌, true, false, rules}
use Rattle.std.proofs.Math.ListN.{length-set}
use Rattle.bound_certificate.specs.Pending.{nodes_before}
use Rattle.bound_certificate.proofs.WalkSteps.{visited, held_after_visit}
use Rattle.bound_certificate.proofs.Rules.{rule_says}
use Rattle.bound_certificate.proofs.ShownSteps.{sound_here, unshown_found, unshown_next}
use Rattle.bound_certificate.proofs.shown.first_unshown.Goals as goal

pub node_shows-requires-clause-is_box : goal.node_shows-requires-clause-is_box
node_shows-requires-clause-is_box c =
    (visited c.args.program.now c.args.tree.now.nodes c.as_slice-nodes.result.now c.loop-i.i c.index-nodes-i.result c.in-Some.bounds c.loop-i.places.items c.index_mut-in-loop-i.result.now c.take.result
    c.as_slice-nodes.ensures.items c.loop-i-test.true c.index-nodes-i.is c.loop-i.invariant.size c.loop-i.invariant.held c.index_mut-in-loop-i.ensures.value c.take.ensures.value c.in-Some.is).is_box

pub node_shows-requires-clause-fits : goal.node_shows-requires-clause-fits
node_shows-requires-clause-fits c =
    let program = c.args.program.now in
    let nodes = c.args.tree.now.nodes in
    let node = c.index-nodes-i.result in
    let box = c.in-Some.bounds in
    let here = visited program nodes c.as_slice-nodes.result.now c.loop-i.i node box c.loop-i.places.items c.index_mut-in-loop-i.result.now c.take.result
    c.as_slice-nodes.ensures.items c.loop-i-test.true c.index-nodes-i.is c.loop-i.invariant.size c.loop-i.invariant.held c.index_mut-in-loop-i.ensures.value c.take.ensures.value c.in-Some.is in
    let sound = sound_here program nodes c.loop-i.i node box here c.loop-i.invariant.sound in
    rw c.as_slice-nodes.ensures.items (rule_says program (length nodes) (nodes_before nodes c.loop-i.i) box node sound.rule)

pub returns-then-not-node_shows : goal.returns-then-not-node_shows
returns-then-not-node_shows c =
    let program = c.args.program.now in
    let nodes = c.args.tree.now.nodes in
    let node = c.index-nodes-i.result in
    let box = c.in-Some.bounds in
    let here = visited program nodes c.as_slice-nodes.result.now c.loop-i.i node box c.loop-i.places.items c.index_mut-in-loop-i.result.now c.take.result
    c.as_slice-nodes.ensures.items c.loop-i-test.true c.index-nodes-i.is c.loop-i.invariant.size c.loop-i.invariant.held c.index_mut-in-loop-i.ensures.value c.take.ensures.value c.in-Some.is in
    let not : c.node_shows.result ≡ false = search rules in
    unshown_found program c.args.lower nodes c.loop-i.i node box c.node_shows.result _ here c.node_shows.ensures not c.loop-i.invariant.unshown

pub put_children-requires-clause-fits : goal.put_children-requires-clause-fits
put_children-requires-clause-fits c =
    let program = c.args.program.now in
    let nodes = c.args.tree.now.nodes in
    let node = c.index-nodes-i.result in
    let box = c.in-Some.bounds in
    let here = visited program nodes c.as_slice-nodes.result.now c.loop-i.i node box c.loop-i.places.items c.index_mut-in-loop-i.result.now c.take.result
    c.as_slice-nodes.ensures.items c.loop-i-test.true c.index-nodes-i.is c.loop-i.invariant.size c.loop-i.invariant.held c.index_mut-in-loop-i.ensures.value c.take.ensures.value c.in-Some.is in
    let sound = sound_here program nodes c.loop-i.i node box here c.loop-i.invariant.sound in
    rw (length-set, c.loop-i.invariant.size) (rule_says program (length nodes) (nodes_before nodes c.loop-i.i) box node sound.rule)

pub put_children-requires-clause-is_box : goal.put_children-requires-clause-is_box
put_children-requires-clause-is_box c =
    (visited c.args.program.now c.args.tree.now.nodes c.as_slice-nodes.result.now c.loop-i.i c.index-nodes-i.result c.in-Some.bounds c.loop-i.places.items c.index_mut-in-loop-i.result.now c.take.result
    c.as_slice-nodes.ensures.items c.loop-i-test.true c.index-nodes-i.is c.loop-i.invariant.size c.loop-i.invariant.held c.index_mut-in-loop-i.ensures.value c.take.ensures.value c.in-Some.is).is_box

pub loop-i-preserved : goal.loop-i-preserved
loop-i-preserved c =
    let program = c.args.program.now in
    let nodes = c.args.tree.now.nodes in
    let i = c.loop-i.i in
    let node = c.index-nodes-i.result in
    let box = c.in-Some.bounds in
    let here = visited program nodes c.as_slice-nodes.result.now i node box c.loop-i.places.items c.index_mut-in-loop-i.result.now c.take.result
    c.as_slice-nodes.ensures.items c.loop-i-test.true c.index-nodes-i.is c.loop-i.invariant.size c.loop-i.invariant.held c.index_mut-in-loop-i.ensures.value c.take.ensures.value c.in-Some.is in
    let sound = sound_here program nodes i node box here c.loop-i.invariant.sound in
    let shows : c.node_shows.result ≡ true = search rules in
    let after = held_after_visit program nodes i node box c.loop-i.places.items c.put_children.new.places.items here c.loop-i.invariant.size c.loop-i.invariant.held sound.rule (rw c.take.ensures.after at c.in_ok-put_children.ensures) in
    record {
      size = after.0;
      held = after.1;
      sound = sound.later;
      unshown = unshown_next program c.args.lower nodes i node box c.node_shows.result _ here c.node_shows.ensures shows c.loop-i.invariant.unshown;
    }
