use Rattle.std.proofs.Common.{◌∙◌, arith}
use Rattle.ras_inventory.specs.Bounds.{binding_for}
use Rattle.ras_inventory.specs.declared.server.Server.{Server}
use Rattle.ras_inventory.proofs.LinesLemmas.{on-ok, mapped-next}
use Rattle.ras_inventory.proofs.bind.bindings_from.Goals as goal

pub loop-server-preserved : goal.loop-server-preserved
loop-server-preserved c =
    let server = c.server-item.result in
    let push = on-ok c.push.result c.if-is_err.ensures.value c.push.ensures.ok in
    push ∙ mapped-next (λ (s : Server). binding_for c.args.bounds.now.list s.name) c.args.servers.now c.loop-server.server-index server server c.loop-server.list _ (omega arith) c.loop-server.invariant c.server-item.is
    c.in_ok-binding.ensures
