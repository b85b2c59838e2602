use Rattle.std.proofs.Common.{sym, map}
use Rattle.ras_inventory.specs.declared.server.Server.{Server}
use Rattle.ras_texts.proofs.Absent.{none-map, past-end}
use Rattle.ras_texts.proofs.names.server_name.Goals as goal

pub returns-in-None : goal.returns-in-None
returns-in-None c = sym (past-end (map (λ (s : Server). s.name) c.args.region.now.servers) c.args.server (none-map (λ (s : Server). s.name) c.args.region.now.servers c.args.server c.in-None.ensures.item))
