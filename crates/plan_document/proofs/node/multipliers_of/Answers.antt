use Rattle.std.proofs.Common.{rules, ◌≡◌, ◌∙◌, sym, ap, subst, true, option_map, Option, map, List, All}
use Rattle.std.specs.Prelude.{IfSome}
use Rattle.bound_certificate.proofs.RuleFacts.{rule_of}
use Rattle.bound_certificate.specs.Rising.{TopInRange}
use Rattle.bound_certificate.specs.declared.multipliers.Top.{Top}
use Rattle.plan_document.specs.Seen.{seen_top}
use Rattle.plan_document.specs.Shapes.{is_den, if_all, pair_fits}
use Rattle.plan_document.proofs.NodesLemmas.{keeps-range}
use Rattle.plan_document.proofs.node.multipliers_of.Goals as goal

pub invariant_of-result : goal.invariant_of-result
invariant_of-result c =
    let good : is_den c.args.weights.now.den ≡ true = search rules in
    let found = c.in_ok-tops.ensures in
    let seen = ap (option_map (map seen_top)) (sym c.in-Some.is) ∙ (found.is ∙ ap (if_all pair_fits) c.as_slice.ensures.items) in
    let nums : All TopInRange c.in-Some.tops = subst (λ (o : Option (List Top)). IfSome o (All TopInRange)) c.in-Some.is found.range in
    record { kept = rule_of c.args.weights.now.den c.in-Some.tops (keeps-range c.args.weights.now.den c.in-Some.tops c.args.weights.now.pairs good nums seen c.requires) }
