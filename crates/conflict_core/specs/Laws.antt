-- What holds of sets of reservations.
use Rattle.std.specs.Prelude.{ℕ, ◌≡◌, ◌<◌, true, List, length}
use Rattle.std.specs.List.{remove}
use Rattle.ras_inventory.specs.declared.region.Region.{Region}
use Rattle.ras_inventory.specs.declared.bindings.Bindings.{Bindings}
use Rattle.ras_requests.specs.declared.all.Requests.{Requests}
use Rattle.plan_model.specs.declared.cases.Case.{Case}
use Rattle.plan_model.specs.declared.cases.Assignment.{Assignment}
use Rattle.plan_model.specs.Allowed.{region_allowed}
use Rattle.plan_model.specs.Joined.{IsJoined}
use Rattle.conflict_core.specs.Kept.{AreMembers, IsKeptTo}
use Rattle.conflict_core.specs.Cases.{IsKeptCase, kept_assignment}
use Rattle.conflict_core.specs.Cores.{CanBeMet, CannotBeMet}

-- an allowed assignment stays allowed where only some reservations are kept
abbrev pub KeptStaysAllowed : Type 0
KeptStaysAllowed =
    (members : List ℕ) (case other : Case) (a : Assignment) → AreMembers (length case.wants) members → IsKeptCase members case other
    → region_allowed case a ≡ true → region_allowed other (kept_assignment members a) ≡ true

-- what a region, the kept requests and the bindings join to is the case of the members of what all the requests join to
abbrev pub KeptJoins : Type 0
KeptJoins =
    (region : Region) (requests kept : Requests) (bindings : Bindings) (members : List ℕ) (case other : Case) → AreMembers (length requests.list) members
    → IsKeptTo requests members kept → IsJoined region requests bindings case → IsJoined region kept bindings other → IsKeptCase members case other

-- a set that can be met can be met without any one of its members
abbrev pub FewerCanBeMet : Type 0
FewerCanBeMet =
    (region : Region) (requests : Requests) (bindings : Bindings) (members : List ℕ) (n : ℕ) → AreMembers (length requests.list) members → n < length members
    → CanBeMet region requests bindings members → CanBeMet region requests bindings (remove members n)

-- no set both can be met and can't
abbrev pub MetOrNot : Type 0
MetOrNot =
    (region : Region) (requests : Requests) (bindings : Bindings) (members : List ℕ)
    → CanBeMet region requests bindings members → CannotBeMet region requests bindings members → ⊥
