use Rattle.std.proofs.Common.{◌∙◌, ◌+◌, ◌∷◌, [], List, ℕ, sym, ap, ap₂, arith, length, drop, length-append}
use Rattle.ras_inventory.specs.RegionRule.{server_names}
use Rattle.online_mover.specs.EventFiles.{events_from, timed_at}
use Rattle.online_mover.specs.declared.timed.Timed.{Timed}
use Rattle.online_mover.proofs.EventFileFacts.{events-go, on-ok}
use Rattle.online_mover.proofs.events.events_in.Goals as goal

pub loop-i-preserved : goal.loop-i-preserved
loop-i-preserved c =
    let names : List (List ℕ) = server_names c.args.region.now.servers in
    let i = c.loop-i.i in
    let events = c.loop-i.events in
    let timed = c.in_ok-timed.timed in
    let records = c.args.records.now in
    let push = on-ok c.push.result c.if-is_err.ensures.value c.push.ensures.ok in
    let read = sym (ap₂ (timed_at names (i + 1)) c.as_slice.ensures.items c.index-records-i.is) ∙ c.in_ok-timed.ensures in
    let longer = ap length push ∙ length-append events (timed ∷ []) in (
      ap (λ (l : List Timed). events_from names (i + 1 + 1) l (drop (i + 1) records)) push
          ∙ events-go names i events records c.index-records-i.result timed _ (omega arith) c.loop-i.invariant.0 read,
      omega (arith, longer, c.loop-i.invariant.1),
    )
