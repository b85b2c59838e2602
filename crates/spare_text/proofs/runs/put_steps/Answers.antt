use Rattle.std.proofs.Common.{◌≡◌, ◌<◌, ◌∙◌, ap, length, get_or, List, arith}
use Rattle.ras_inventory.specs.RegionRule.{server_names}
use Rattle.ras_requests.specs.RequestsRule.{reservation_names}
use Rattle.spare_pool.specs.declared.standings.Change.TheVariants.{Fail}
use Rattle.spare_pool.specs.declared.failure.Failure.{Failure}
use Rattle.spare_text.proofs.RunFacts.{tells-next, short-few}
use Rattle.spare_text.proofs.runs.put_steps.Goals as goal

no_failure : Failure
no_failure = record { at = 0; change = Fail 0 }

pub loop-failure-preserved : goal.loop-failure-preserved
unfolding no_failure
loop-failure-preserved c =
    let items : List Failure = c.as_slice-failure-items.result.now in
    let i = c.loop-failure.failure-index in (
      tells-next (server_names c.args.region.now.servers) (reservation_names c.args.requests.now.list) c.args.pool.now c.loop-failure.pool c.change-outcome.new.self items i no_failure
          c.change-outcome.result c.args.text.now.items c.loop-failure.text.items c.put_step.new.text.items
          c.loop-failure.shorts c.short_count-shorts.result
          c.loop-failure-test.true c.loop-failure.invariant.0 c.change-outcome.ensures.step c.in_ok-put_step.ensures c.short_count-shorts.ensures,
      c.change-outcome.ensures.servers ∙ c.loop-failure.invariant.1,
      omega (arith, c.loop-failure.invariant.2, short-few c.change-outcome.result c.short_count-shorts.result c.short_count-shorts.ensures),
    )
