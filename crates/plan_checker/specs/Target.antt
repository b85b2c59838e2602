-- Where the servers are to be, as a document says.
use Rattle.std.specs.Prelude.{Option, Some, None, option_and_then, option_map}
use Rattle.plan_model.specs.declared.cases.Assignment.{Assignment}
use Rattle.plan_document.specs.declared.document.Document.{Document}
use Rattle.plan_document.specs.declared.part.Planned.{Planned}

-- the assignment that a plan has
abbrev pub planned_of : Option Planned → Option Assignment
planned_of plan = option_map (λ p. p.of) plan

-- the first that is there
abbrev pub first_of : {A : Type 0} → Option A → Option A → Option A
first_of (Some x) other = Some x
first_of None other = other

-- where the servers are to be: the assignment of the part of the racks where it has one, else that of the region's part
abbrev pub target_of : Document → Option Assignment
target_of document = first_of (option_and_then (λ rack. planned_of rack.part.plan) document.rack) (planned_of document.region.plan)
