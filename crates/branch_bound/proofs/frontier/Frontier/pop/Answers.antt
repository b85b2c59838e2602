use Rattle.std.proofs.Common.{◌≡◌, ◌∙◌, ap, sym, refl, subst, arith, List, Option, None, slice_get, slice_set, heap_items}
use Rattle.std.proofs.lemmas.List.{nil_from_length}
use Rattle.std.proofs.lemmas.Option.{same_Some}
use Rattle.branch_bound.specs.declared.leaf.NumberedLeaf.{NumberedLeaf}
use Rattle.branch_bound.specs.declared.leaf.OpenLeaf.{OpenLeaf}
use Rattle.branch_bound.specs.Keys.{IsLeastOpen}
use Rattle.branch_bound.proofs.KeyFacts.{popped_open, popped_least, holds_removed, none_open, some_of}
use Rattle.branch_bound.proofs.SlotFacts.{writes_of, numbered_removed, leaves_removed}
use Rattle.branch_bound.proofs.frontier.Frontier.pop.Goals as goal

pub remove-node-requires : goal.remove-node-requires
remove-node-requires c =
    let w = popped_open c.self.inside.slots.slots _ _ c.in-Some.field-0 c.self.invariant.1 c.in-Some.ensures.permutation in
    some_of _ w.numbered w.is

pub invariant_of-self-in-Some : goal.invariant_of-self-in-Some
invariant_of-self-in-Some c =
    let slots = c.self.inside.slots.slots in
    let writes = writes_of slots c.self.inside.slots c.remove-node.new.self c.in-Some.field-0.0.2 None refl c.remove-node.ensures.updates in (
      (c.in-Some.ensures.heap_order c.self.invariant.0).0,
      holds_removed slots c.remove-node.new.self.slots _ _ c.in-Some.field-0 c.self.invariant.1 c.in-Some.ensures.permutation writes,
      numbered_removed slots c.remove-node.new.self.slots c.self.inside.nodes c.in-Some.field-0.0.2 c.self.invariant.2 writes,
      c.self.invariant.3,
    )

pub returns-in-None-clause-none : goal.returns-in-None-clause-none
returns-in-None-clause-none c = λ k leaf is.
    none_open c.self.inside.slots.slots c.self.inside.nodes (heap_items c.self.inside.keys) c.self.invariant.1 (nil_from_length (heap_items c.self.inside.keys) (omega (arith, c.in-None.ensures.none))) k leaf (ap (λ (ls : List (Option OpenLeaf)). slice_get ls k) c.self.view_is ∙ is)

pub returns-in-Some-clause-least : goal.returns-in-Some-clause-least
returns-in-Some-clause-least c =
    let slots = c.self.inside.slots.slots in
    let key = c.in-Some.field-0 in
    let w = popped_open slots _ _ key c.self.invariant.1 c.in-Some.ensures.permutation in
    let bound_is : c.remove-node.result.leaf.bound ≡ key.0.0 = ap (λ (a : NumberedLeaf). a.leaf.bound) (same_Some _ _ (sym c.remove-node.ensures.value ∙ w.is)) ∙ w.bound_is in
    subst (λ (ls : List (Option OpenLeaf)). IsLeastOpen ls c.remove-node.result.node c.remove-node.result.leaf) c.self.view_is
    (popped_least slots c.self.inside.nodes _ key c.remove-node.result c.self.invariant.1 (c.in-Some.ensures.heap_order c.self.invariant.0).1 c.self.invariant.2 c.remove-node.ensures.value bound_is)

pub returns-in-Some-clause-taken : goal.returns-in-Some-clause-taken
returns-in-Some-clause-taken c =
    let slots = c.self.inside.slots.slots in
    let writes = writes_of slots c.self.inside.slots c.remove-node.new.self c.in-Some.field-0.0.2 None refl c.remove-node.ensures.updates in
    leaves_removed slots c.remove-node.new.self.slots c.self.inside.nodes c.in-Some.field-0.0.2 c.remove-node.result c.self.invariant.2 c.remove-node.ensures.value writes
    ∙ ap (λ (ls : List (Option OpenLeaf)). slice_set ls c.remove-node.result.node None) c.self.view_is
