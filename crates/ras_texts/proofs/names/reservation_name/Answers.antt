use Rattle.std.proofs.Common.{sym, map}
use Rattle.ras_requests.specs.declared.requests.Reservation.{Reservation}
use Rattle.ras_texts.proofs.Absent.{none-map, past-end}
use Rattle.ras_texts.proofs.names.reservation_name.Goals as goal

pub returns-in-None : goal.returns-in-None
returns-in-None c = sym (past-end (map (λ (r : Reservation). r.name) c.args.requests.now.list) c.args.r (none-map (λ (r : Reservation). r.name) c.args.requests.now.list c.args.r c.in-None.ensures.item))
