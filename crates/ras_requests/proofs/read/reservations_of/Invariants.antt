use Rattle.std.proofs.Common.{◌≡◌, ◌+◌, drop, map, length, []}
use Rattle.serde_json.specs.View.{view}
use Rattle.ras_requests.specs.Requested.{reservations_from}
use Rattle.ras_requests.specs.Within.{AreReservations}
use Rattle.ras_requests.proofs.read.reservations_of.Given as goal

abbrev pub invariant-loop-i : goal.invariant-loop-i
invariant-loop-i l = (reservations_from l.format (l.i + 1) l.list (map view (drop l.i l.entries)) ≡ reservations_from l.format 1 [] (map view l.entries)) × (length l.list ≡ l.i) × AreReservations l.list
