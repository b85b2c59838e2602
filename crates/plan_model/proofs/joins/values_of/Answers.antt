use Rattle.std.proofs.Common.{◌≡◌, ◌<◌, ◌∙◌, ap, sym, arith, Some, ◌++◌, ◌∷◌, [], take, length}
use Rattle.std.specs.Prelude.{map, slice_get}
use Rattle.std.specs.Option.{option_copied}
use Rattle.plan_model.specs.Joined.{units_for}
use Rattle.plan_model.proofs.JoinLemmas.{units-more, pushed}
use Rattle.plan_model.proofs.joins.values_of.Goals as goal

pub loop-k-preserved : goal.loop-k-preserved
loop-k-preserved c =
    let read : slice_get c.args.types.now c.loop-k.k ≡ Some c.unwrap-name.result.now = sym c.name.ensures ∙ ap option_copied c.unwrap-name.ensures in
    let within : c.loop-k.k < length c.args.types.now = omega arith in
    pushed c.push.result c.is_err.result _ c.is_err.ensures.value c.if-is_err.false c.push.ensures.ok
    ∙ ap (λ us. us ++ c.units_of.result ∷ []) c.loop-k.invariant
    ∙ ap (λ u. map (units_for c.args.values.now) (take c.loop-k.k c.args.types.now) ++ u ∷ []) (c.units_of.ensures ∙ ap (units_for c.args.values.now) c.bytes.ensures.bytes)
    ∙ sym (units-more c.args.values.now c.args.types.now c.loop-k.k c.unwrap-name.result.now read within)
