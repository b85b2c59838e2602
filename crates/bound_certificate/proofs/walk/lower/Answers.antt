use Rattle.std.proofs.Common.{ap, arith, sym, ◌∙◌, length, subst}
use Rattle.std.proofs.Math.ListN.{length-set}
use Rattle.ip_model.specs.Points.{value_of}
use Rattle.bound_certificate.specs.declared.tree.Least.{Least}
use Rattle.bound_certificate.specs.Pending.{nodes_before}
use Rattle.bound_certificate.specs.Trees.{LiesUnder}
use Rattle.bound_certificate.proofs.WalkSteps.{visited, rule_is_fault, fault_found, no_fault_next, found_next, held_after_visit, none_left, walk_end}
use Rattle.bound_certificate.proofs.Rules.{rule_says}
use Rattle.bound_certificate.proofs.TreeBound.{bound_of_tree_under}
use Rattle.bound_certificate.proofs.walk.lower.Goals as goal

pub broken_rule_of-requires-clause-is_box : goal.broken_rule_of-requires-clause-is_box
broken_rule_of-requires-clause-is_box c =
    (visited c.args.program.now c.args.tree.now.nodes c.as_slice-nodes.result.now c.loop-i.i c.index-nodes-i.result c.in-Some.bounds c.loop-i.places.items c.index_mut-in-loop-i.result.now c.take.result
    c.as_slice-nodes.ensures.items c.loop-i-test.true c.index-nodes-i.is c.loop-i.invariant.size c.loop-i.invariant.held c.index_mut-in-loop-i.ensures.value c.take.ensures.value c.in-Some.is).is_box

pub returns-in-Some-broken_rule_of-clause-answer : goal.returns-in-Some-broken_rule_of-clause-answer
returns-in-Some-broken_rule_of-clause-answer c =
    let program = c.args.program.now in
    let nodes = c.args.tree.now.nodes in
    let node = c.index-nodes-i.result in
    let box = c.in-Some.bounds in
    let here = visited program nodes c.as_slice-nodes.result.now c.loop-i.i node box c.loop-i.places.items c.index_mut-in-loop-i.result.now c.take.result
    c.as_slice-nodes.ensures.items c.loop-i-test.true c.index-nodes-i.is c.loop-i.invariant.size c.loop-i.invariant.held c.index_mut-in-loop-i.ensures.value c.take.ensures.value c.in-Some.is in
    let fault = rule_is_fault program nodes c.as_slice-nodes.result.now c.loop-i.i node box c.broken_rule_of.result here c.as_slice-nodes.ensures.items c.broken_rule_of.ensures.rule in
    fault_found program nodes c.loop-i.i node box c.in-Some-broken_rule_of.why _ here (fault ∙ c.in-Some-broken_rule_of.is) c.loop-i.invariant.no_fault

pub visit-requires-clause-fits : goal.visit-requires-clause-fits
visit-requires-clause-fits c =
    let program = c.args.program.now in
    let nodes = c.args.tree.now.nodes in
    let node = c.index-nodes-i.result in
    let box = c.in-Some.bounds in
    let here = visited program nodes c.as_slice-nodes.result.now c.loop-i.i node box c.loop-i.places.items c.index_mut-in-loop-i.result.now c.take.result
    c.as_slice-nodes.ensures.items c.loop-i-test.true c.index-nodes-i.is c.loop-i.invariant.size c.loop-i.invariant.held c.index_mut-in-loop-i.ensures.value c.take.ensures.value c.in-Some.is in
    let none = sym (rw c.as_slice-nodes.ensures.items at c.broken_rule_of.ensures.rule) ∙ none_left c.broken_rule_of.result c.in_default-broken_rule_of.not-Some in
    rw (length-set, c.loop-i.invariant.size) (rule_says program (length nodes) (nodes_before nodes c.loop-i.i) box node none)

pub visit-requires-clause-is_box : goal.visit-requires-clause-is_box
visit-requires-clause-is_box c =
    (visited c.args.program.now c.args.tree.now.nodes c.as_slice-nodes.result.now c.loop-i.i c.index-nodes-i.result c.in-Some.bounds c.loop-i.places.items c.index_mut-in-loop-i.result.now c.take.result
    c.as_slice-nodes.ensures.items c.loop-i-test.true c.index-nodes-i.is c.loop-i.invariant.size c.loop-i.invariant.held c.index_mut-in-loop-i.ensures.value c.take.ensures.value c.in-Some.is).is_box

pub loop-i-preserved : goal.loop-i-preserved
loop-i-preserved c =
    let program = c.args.program.now in
    let nodes = c.args.tree.now.nodes in
    let i = c.loop-i.i in
    let node = c.index-nodes-i.result in
    let box = c.in-Some.bounds in
    let here = visited program nodes c.as_slice-nodes.result.now i node box c.loop-i.places.items c.index_mut-in-loop-i.result.now c.take.result
    c.as_slice-nodes.ensures.items c.loop-i-test.true c.index-nodes-i.is c.loop-i.invariant.size c.loop-i.invariant.held c.index_mut-in-loop-i.ensures.value c.take.ensures.value c.in-Some.is in
    let no_rule = none_left c.broken_rule_of.result c.in_default-broken_rule_of.not-Some in
    let none = sym (rw c.as_slice-nodes.ensures.items at c.broken_rule_of.ensures.rule) ∙ no_rule in
    let fault = rule_is_fault program nodes c.as_slice-nodes.result.now i node box c.broken_rule_of.result here c.as_slice-nodes.ensures.items c.broken_rule_of.ensures.rule in
    let after = held_after_visit program nodes i node box c.loop-i.places.items c.visit.new.places.items here c.loop-i.invariant.size c.loop-i.invariant.held none (rw c.take.ensures.after at c.in_ok-here.ensures.places) in
    record {
      sums = omega (arith, c.in_ok-here.ensures.sums, c.broken_rule_of.ensures.sums, c.loop-i.invariant.sums);
      size = after.0;
      held = after.1;
      no_fault = no_fault_next program nodes i node box _ here (fault ∙ no_rule) c.loop-i.invariant.no_fault;
      found = found_next program nodes i node box c.loop-i.found c.in_ok-here.here c.lesser-found.result _ here c.in_ok-here.ensures.bound c.lesser-found.ensures c.loop-i.invariant.found;
    }

pub returns-clause-under : goal.returns-clause-under
returns-clause-under c = λ point is.
    let program = c.args.program.now in
    let nodes = c.args.tree.now.nodes in
    let end = walk_end program nodes c.loop-i.i c.loop-i.found (omega (arith, c.loop-i-test.false, ap length c.as_slice-nodes.ensures.items)) c.loop-i.invariant.no_fault c.loop-i.invariant.found in
    subst (λ (l : Least). LiesUnder l (value_of program point)) (sym end.1) (bound_of_tree_under program nodes point c.args.tree.now.has_root end.0 is)
