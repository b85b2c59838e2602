use Rattle.std.proofs.Common.{◌<◌, length, ◌∙◌, ap, sym, arith, ◌++◌, ◌∷◌, [], take}
use Rattle.std.specs.Prelude.{map, zip}
use Rattle.plan_model.specs.Joined.{joined_place}
use Rattle.plan_model.proofs.SumLemmas.{take-zip_all}
use Rattle.plan_model.proofs.JoinLemmas.{map-zip_more, pushed}
use Rattle.plan_model.proofs.joins.places_of.Goals as goal

pub loop-i-preserved : goal.loop-i-preserved
loop-i-preserved c =
    let within : c.loop-i.i < length c.as_slice-bound.result.now = omega (arith, ap length c.as_slice-server-items.ensures.items, ap length c.as_slice-bound.ensures.items) in
    let more = map-zip_more (joined_place c.args.requests.now.list) c.as_slice-server-items.result.now c.as_slice-bound.result.now c.loop-i.i c.server-item.result c.index-bound-i.result c.loop-i-test.true within c.server-item.is c.index-bound-i.is in
    pushed c.push.result c.is_err.result _ c.is_err.ensures.value c.if-is_err.false c.push.ensures.ok
    ∙ ap (λ ps. ps ++ c.place_of.result ∷ []) c.loop-i.invariant
    ∙ ap (λ p. map (joined_place c.args.requests.now.list) (take c.loop-i.i (zip c.as_slice-server-items.result.now c.as_slice-bound.result.now)) ++ p ∷ []) c.place_of.ensures
    ∙ sym more

pub returns : goal.returns
returns c =
    let all = take-zip_all c.as_slice-server-items.result.now c.as_slice-bound.result.now c.loop-i.i c.loop-i-test.false in
    cc
