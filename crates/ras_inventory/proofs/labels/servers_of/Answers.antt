use Rattle.std.proofs.Common.{◌∙◌, ap, arith, length}
use Rattle.ras_inventory.proofs.LinesLemmas.{on-ok}
use Rattle.ras_inventory.proofs.RegionLemmas.{server-is, servers-next, few-servers}
use Rattle.ras_inventory.proofs.labels.servers_of.Goals as goal

pub push-requires : goal.push-requires
push-requires c = omega (arith, ap length c.loop-line.invariant, few-servers c.loop-line.line-index c.args.lines.now, c.requires.few)

pub loop-line-preserved : goal.loop-line-preserved
loop-line-preserved c =
    let lines = c.args.lines.now in
    let line = c.line-item.result in
    let labels = c.requires.labels in
    let server = server-is lines line c.in_ok-copy.field-0 c.place_in.result c.place_in-in-loop-line.result c.place_in-in-loop-line-2.result c.place_in-in-loop-line-3.result
    c.args.labels.now.types c.args.labels.now.racks c.args.labels.now.boards c.args.labels.now.centers labels.types labels.racks labels.boards labels.centers
    c.in_ok-copy.ensures c.place_in.ensures c.place_in-in-loop-line.ensures c.place_in-in-loop-line-2.ensures c.place_in-in-loop-line-3.ensures in
    let push = on-ok c.push.result c.if-is_err.ensures.value c.push.ensures.ok in
    push ∙ servers-next c.loop-line.line-index lines line line c.loop-line.servers _ (omega arith) c.loop-line.invariant c.line-item.is server
