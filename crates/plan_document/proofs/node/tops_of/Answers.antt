use Rattle.std.proofs.Common.{arith, length-append, rules, ◌≡◌, ◌∙◌, ◌<◌, ◌+◌, subst, ap, sym, refl, true, ◌++◌, ◌∷◌, [], List, All, map, drop, length, get_or, ℕ}
use Rattle.std.proofs.lemmas.List.Elements.{All-push}
use Rattle.bound_certificate.specs.Rising.{TopInRange}
use Rattle.bound_certificate.specs.declared.multipliers.Top.{Top}
use Rattle.plan_document.specs.Seen.{seen_top}
use Rattle.plan_document.specs.Shapes.{pair_fits, is_den}
use Rattle.plan_document.specs.declared.shape.Pair.{Pair}
use Rattle.plan_document.proofs.NodesLemmas.{top-in-range, all-step, seen-step}
use Rattle.plan_document.proofs.node.tops_of.Goals as goal

pub loop-pair-preserved : goal.loop-pair-preserved
loop-pair-preserved c =
    let pairs : List Pair = c.args.pairs.now in
    let i : ℕ = c.loop-pair.pair-index in
    let d : Pair = record { row = 0; num = 0 } in
    let t : Top = record { row = (get_or pairs i d).row; num = (get_or pairs i d).num } in
    let less : i < length pairs = search rules in
    let fit : pair_fits (get_or pairs i d) ≡ true = search rules in
    let good : is_den t.num ≡ true = search rules in
    let items : c.push.new.self.items ≡ c.loop-pair.tops.items ++ t ∷ [] = c.in_ok-push.ensures.items in
    let kept = c.loop-pair.invariant in (
      all-step pair_fits pairs i d _ less fit kept.0,
      ap (λ (ts : List Top). map seen_top ts ++ drop (i + 1) pairs) items ∙ seen-step seen_top c.loop-pair.tops.items t pairs i d less refl kept.1,
      subst (All TopInRange) (sym items) (All-push TopInRange c.loop-pair.tops.items t kept.2 (top-in-range t good)),
      omega (arith, ap length items, length-append c.loop-pair.tops.items (t ∷ []), kept.3),
    )
