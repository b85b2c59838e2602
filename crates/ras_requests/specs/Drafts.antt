-- What is seen of the parts of a reservation before its limits are tested.
use Rattle.std.specs.Prelude.{List, map, Vec}
use Rattle.std.specs.declared.alloc.Global.{Global}
use Rattle.ras_requests.specs.declared.requests.Moves.{Moves}
use Rattle.ras_requests.specs.declared.requests.Value.{Value}
use Rattle.ras_requests.specs.declared.requests.Near.{Near}
use Rattle.ras_requests.specs.declared.requests.Reservation.{Reservation}
use Rattle.ras_requests.specs.declared.draft.Costs.{Costs}
use Rattle.ras_requests.specs.declared.draft.Units.{Units}
use Rattle.ras_requests.specs.declared.draft.Aim.{Aim}
use Rattle.ras_requests.specs.declared.draft.Draft.{Draft}

abbrev pub seen_costs : Costs → Moves
seen_costs c = record { take = c.take; idle = c.idle; busy = c.busy }

abbrev pub seen_units : Units → Value
seen_units u = record { kind = u.kind; units = u.units }

abbrev pub seen_values : Vec Units Global → List Value
seen_values v = map seen_units v.items

abbrev pub seen_aim : Aim → Near
seen_aim a = record { center = a.center; least = a.least; weight = a.weight }

abbrev pub seen_aims : Vec Aim Global → List Near
seen_aims v = map seen_aim v.items

abbrev pub seen_draft : Draft → Reservation
seen_draft d = record {
  name = d.name;
  need = d.need;
  values = seen_values d.values;
  buffer_weight = d.penalties.buffer_weight;
  spread_limit = d.penalties.spread_limit;
  spread_weight = d.penalties.spread_weight;
  rack_limit = d.penalties.rack_limit;
  rack_weight = d.penalties.rack_weight;
  near = seen_aims d.near;
  protection = d.protection;
}
