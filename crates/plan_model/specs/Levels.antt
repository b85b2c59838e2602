-- The parts of a region at one level: its switchboards, its racks or its datacenters, each by its number.
use Rattle.std.specs.Prelude.{ℕ, ◌==◌, List, map}
use Rattle.std.specs.List.{range_with_len}
use Rattle.plan_model.specs.declared.cases.Place.{Place}
use Rattle.plan_model.specs.declared.cases.Case.{Case}
use Rattle.plan_model.specs.declared.cases.Assignment.{Assignment}
use Rattle.plan_model.specs.declared.levels.Level.{Level}
use Rattle.plan_model.specs.declared.levels.Level.TheVariants.{Board, Rack, Center}
use Rattle.plan_model.specs.Units.{units_where}

-- the number of the switchboard, rack or datacenter in which a server stands
abbrev pub number_at : Level → Place → ℕ
number_at Board s = s.board
number_at Rack s = s.rack
number_at Center s = s.center

-- the units that a reservation has in the part of that number
abbrev pub units_at : Level → Case → Assignment → ℕ → ℕ → ℕ
units_at level case a r number = units_where (λ s. number_at level s == number) case a r

-- in each of so many parts, from one number on
abbrev pub units_in_each : Level → Case → Assignment → ℕ → ℕ → ℕ → List ℕ
units_in_each level case a r first count = map (units_at level case a r) (range_with_len first count)
