use Rattle.std.proofs.Common.{rules, ◌≡◌, ◌∙◌, ◌++◌, ap, arith, List, [], ◌∷◌, Option, None, length}
use Rattle.branch_bound.specs.declared.leaf.OpenLeaf.{OpenLeaf}
use Rattle.branch_bound.proofs.SlotFacts.{length-leaves, numbered_more, leaves_more}
use Rattle.branch_bound.proofs.frontier.Frontier.push.Goals as goal

pub overflow_add-self : goal.overflow_add-self
overflow_add-self c = omega (arith, length-leaves c.self.inside.slots.slots c.self.inside.nodes, ap length c.self.view_is, c.requires)

pub invariant_of-self : goal.invariant_of-self
invariant_of-self c = (
  c.self.invariant.0,
  c.self.invariant.1,
  numbered_more c.self.inside.slots.slots c.self.inside.nodes c.self.invariant.2,
  omega (arith, length-leaves c.self.inside.slots.slots c.self.inside.nodes, ap length c.self.view_is, c.requires),
)

pub returns : goal.returns
returns c =
    let closed : None ≡ c.args.leaf = search rules in
    leaves_more c.self.inside.slots.slots c.self.inside.nodes c.self.invariant.2
    ∙ ap (λ (ls : List (Option OpenLeaf)). ls ++ None ∷ []) c.self.view_is
    ∙ ap (λ (l : Option OpenLeaf). c.args.self.now ++ l ∷ []) closed
