use Rattle.std.proofs.Common.{◌<◌, ◌≤◌, length, arith, ap, ◌∙◌, map}
use Rattle.plan_model.proofs.SumLemmas.{take-zip_all}
use Rattle.ras_rounds.specs.Rounds.{placed_after, places_after}
use Rattle.ras_rounds.proofs.PlacesMore.{placed-more}
use Rattle.ras_rounds.proofs.places.places_after.Goals as goal

pub loop-server-preserved : goal.loop-server-preserved
loop-server-preserved c =
    let s = c.loop-server.server in
    let within : s < length c.args.mover.now.servers = omega (arith, c.requires, c.loop-server-test.true) in
    let inside : s < length c.as_slice-places.result.now = omega (arith, c.loop-server-test.true, c.len-server-end.ensures, ap length c.as_slice-places.ensures.items) in
    let more = placed-more c.as_slice-places.result.now c.args.mover.now.servers s inside within in
    grind (arith, more, c.in_ok-push.ensures.items, c.loop-server.invariant, c.place_after.ensures, c.stand.ensures, c.is_up.ensures)

pub returns : goal.returns
returns c =
    let past : length c.as_slice-places.result.now ≤ c.loop-server.server = omega (arith, c.loop-server-test.false, c.len-server-end.ensures, ap length c.as_slice-places.ensures.items) in
    let all = take-zip_all c.as_slice-places.result.now c.args.mover.now.servers c.loop-server.server past in
    c.from_vec.ensures ∙ c.loop-server.invariant ∙ ap (map placed_after) all ∙ ap (λ ps. places_after ps c.args.mover.now.servers) c.as_slice-places.ensures.items
