use Rattle.std.proofs.Common.{◌≡◌, ◌<◌, ◌∙◌, ap, length, get_or, List, arith}
use Rattle.ras_inventory.specs.RegionRule.{server_names}
use Rattle.ras_requests.specs.RequestsRule.{reservation_names}
use Rattle.online_mover.specs.declared.stands.Event.TheVariants.{Tick}
use Rattle.online_mover.specs.declared.timed.Timed.{Timed}
use Rattle.online_mover.proofs.Sizes.{step-within, step-length}
use Rattle.move_text.proofs.RunFacts.{tells-next, stale-few}
use Rattle.move_text.proofs.runs.put_steps.Goals as goal

no_event : Timed
no_event = record { at = 0; event = Tick }

pub put_step-requires : goal.put_step-requires
unfolding no_event
put_step-requires c =
    let timed : Timed = get_or c.as_slice-timed-items.result.now c.loop-timed.timed-index no_event in
    step-within c.loop-timed.mover c.step-taken.new.self timed.event c.step-taken.result c.step-taken.new.out c.step-taken.ensures

pub loop-timed-preserved : goal.loop-timed-preserved
unfolding no_event
loop-timed-preserved c =
    let items : List Timed = c.as_slice-timed-items.result.now in
    let i = c.loop-timed.timed-index in
    let timed : Timed = get_or items i no_event in
    let more : c.from.result ≡ length c.step-taken.new.out = c.from.ensures ∙ c.len.ensures in (
      tells-next (server_names c.args.region.now.servers) (reservation_names c.args.requests.now.list) c.args.mover.now c.loop-timed.mover c.step-taken.new.self items i no_event
          c.step-taken.result c.step-taken.new.out c.args.text.now.items c.loop-timed.text.items c.put_step.new.text.items
          c.loop-timed.totals.commands c.loop-timed.totals.stales c.from.result c.stale_count.result
          c.loop-timed-test.true c.loop-timed.invariant.0 c.step-taken.ensures c.in_ok-put_step.ensures more c.stale_count.ensures,
      step-length c.loop-timed.mover c.step-taken.new.self timed.event c.step-taken.result c.step-taken.new.out c.step-taken.ensures ∙ c.loop-timed.invariant.1,
      omega (arith, c.loop-timed.invariant.2, c.from.ensures),
      omega (arith, c.loop-timed.invariant.3, stale-few c.step-taken.result c.stale_count.result c.stale_count.ensures),
    )
