use Rattle.std.proofs.Common.{◌∙◌, ◌+◌, ◌∷◌, [], List, ℕ, sym, ap, ap₂, arith, length, drop, length-append}
use Rattle.ras_inventory.specs.RegionRule.{server_names}
use Rattle.spare_pool.specs.FailureFiles.{failures_from, failure_at}
use Rattle.spare_pool.specs.declared.failure.Failure.{Failure}
use Rattle.spare_pool.proofs.FailureFileFacts.{failures-go, on-ok}
use Rattle.spare_pool.proofs.failures.failures_in.Goals as goal

pub loop-i-preserved : goal.loop-i-preserved
loop-i-preserved c =
    let names : List (List ℕ) = server_names c.args.region.now.servers in
    let i = c.loop-i.i in
    let failures = c.loop-i.failures in
    let failure = c.in_ok-failure.failure in
    let records = c.args.records.now in
    let push = on-ok c.push.result c.if-is_err.ensures.value c.push.ensures.ok in
    let read = sym (ap₂ (failure_at names (i + 1)) c.as_slice.ensures.items c.index-records-i.is) ∙ c.in_ok-failure.ensures in
    let longer = ap length push ∙ length-append failures (failure ∷ []) in (
      ap (λ (l : List Failure). failures_from names (i + 1 + 1) l (drop (i + 1) records)) push
          ∙ failures-go names i failures records c.index-records-i.result failure _ (omega arith) c.loop-i.invariant.0 read,
      omega (arith, longer, c.loop-i.invariant.1),
    )
