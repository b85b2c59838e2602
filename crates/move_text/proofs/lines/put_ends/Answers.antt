use Rattle.std.proofs.Common.{◌≡◌}
use Rattle.ras_inventory.specs.RegionRule.{server_names}
use Rattle.ras_requests.specs.RequestsRule.{reservation_names}
use Rattle.online_mover.specs.Causes.{cause_of}
use Rattle.move_text.specs.Lines.{end_line}
use Rattle.move_text.proofs.LineFacts.{numbers-more}
use Rattle.move_text.proofs.lines.put_ends.Goals as goal

pub loop-server-preserved : goal.loop-server-preserved
loop-server-preserved c =
    numbers-more (λ s. end_line (server_names c.args.region.now.servers) (reservation_names c.args.requests.now.list) s (cause_of c.args.mover.now s))
    c.loop-server.server c.args.text.now.items c.loop-server.text.items c.put_end.new.text.items c.loop-server.invariant c.in_ok-put_end.ensures
