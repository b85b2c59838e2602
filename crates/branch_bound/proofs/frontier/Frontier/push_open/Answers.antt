use Rattle.std.proofs.Common.{◌≡◌, ℕ, ◌∙◌, ◌++◌, ap, sym, refl, subst, arith, List, [], ◌∷◌, Option, Some, None, length, get_or, heap_items}
use Rattle.slab.specs.Slab.{Slab}
use Rattle.branch_bound.specs.declared.leaf.NumberedLeaf.{NumberedLeaf}
use Rattle.branch_bound.specs.declared.leaf.OpenLeaf.{OpenLeaf}
use Rattle.branch_bound.proofs.KeyFacts.{holds_inserted}
use Rattle.branch_bound.proofs.SlotFacts.{Slots, Writes, writes_of, length-leaves, numbered_inserted, leaves_inserted}
use Rattle.branch_bound.proofs.frontier.Frontier.push_open.Goals as goal

pub overflow_add-self : goal.overflow_add-self
overflow_add-self c = omega (arith, length-leaves c.self.inside.slots.slots c.self.inside.nodes, ap length c.self.view_is, c.requires)

pub invariant_of-self-2 : goal.invariant_of-self-2
invariant_of-self-2 c =
    let slots = c.self.inside.slots.slots in
    let n = c.self.inside.nodes in
    let same : c.reserve.new.self.slots ≡ slots = ap (λ (s : Slab NumberedLeaf). s.slots) c.reserve.ensures.rest_kept in
    let slot : c.insert_reserved.result ≡ c.vacant_key.result = c.insert_reserved.ensures.key ∙ sym c.vacant_key.ensures.value in
    let writes = subst (λ (s : ℕ). Writes slots c.insert_reserved.new.self.slots s (Some (record { node = n; leaf = c.args.leaf }))) slot (writes_of slots c.reserve.new.self c.insert_reserved.new.self c.insert_reserved.result _ same c.insert_reserved.ensures.updates) in
    let vacant : get_or slots c.vacant_key.result None ≡ None = ap (λ (ls : Slots). get_or ls c.vacant_key.result None) (sym same) ∙ c.vacant_key.ensures.vacant in (
      c.in_ok-push.ensures.heap_order c.self.invariant.0,
      holds_inserted slots c.insert_reserved.new.self.slots (heap_items c.self.inside.keys) (heap_items c.push.new.self) _ _ c.self.invariant.1 c.in_ok-push.ensures.permutation vacant writes refl refl,
      numbered_inserted slots c.insert_reserved.new.self.slots n c.vacant_key.result _ c.self.invariant.2 writes refl,
      omega (arith, length-leaves slots n, ap length c.self.view_is, c.requires),
    )

pub returns : goal.returns
returns c =
    let slots = c.self.inside.slots.slots in
    let n = c.self.inside.nodes in
    let same : c.reserve.new.self.slots ≡ slots = ap (λ (s : Slab NumberedLeaf). s.slots) c.reserve.ensures.rest_kept in
    let writes = writes_of slots c.reserve.new.self c.insert_reserved.new.self c.insert_reserved.result _ same c.insert_reserved.ensures.updates in
    let vacant : get_or slots c.insert_reserved.result None ≡ None = ap (λ (ls : Slots). get_or ls c.insert_reserved.result None) (sym same) ∙ c.insert_reserved.ensures.was_vacant in
    leaves_inserted slots c.insert_reserved.new.self.slots n c.insert_reserved.result _ c.self.invariant.2 vacant writes refl
    ∙ ap (λ (ls : List (Option OpenLeaf)). ls ++ Some c.args.leaf ∷ []) c.self.view_is
