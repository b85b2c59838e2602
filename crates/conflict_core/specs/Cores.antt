-- Sets of reservations that can be met, and those that clash.
use Rattle.std.specs.Prelude.{ℕ, ◌≡◌, ◌<◌, true, List, length}
use Rattle.std.specs.List.{remove}
use Rattle.ras_inventory.specs.declared.region.Region.{Region}
use Rattle.ras_inventory.specs.declared.bindings.Bindings.{Bindings}
use Rattle.ras_requests.specs.declared.all.Requests.{Requests}
use Rattle.plan_model.specs.declared.cases.Case.{Case}
use Rattle.plan_model.specs.declared.cases.Assignment.{Assignment}
use Rattle.plan_model.specs.Allowed.{region_allowed}
use Rattle.plan_model.specs.Joined.{IsJoined}
use Rattle.conflict_core.specs.Kept.{AreMembers, IsKeptTo}

-- The case of a set of reservations: the region and the bindings with the requests kept to the set.
pub record IsCaseOf (region : Region) (requests : Requests) (bindings : Bindings) (members : List ℕ) (case : Case) : Type 0 where
  pub kept : Requests
  pub is_kept : IsKeptTo requests members kept
  pub joined : IsJoined region kept bindings case

-- some assignment is allowed in the case of the set
pub record CanBeMet (region : Region) (requests : Requests) (bindings : Bindings) (members : List ℕ) : Type 0 where
  pub case : Case
  pub is_case : IsCaseOf region requests bindings members case
  pub a : Assignment
  pub allowed : region_allowed case a ≡ true

-- there is a case of the set, and no assignment is allowed in it
pub record CannotBeMet (region : Region) (requests : Requests) (bindings : Bindings) (members : List ℕ) : Type 0 where
  pub case : Case
  pub is_case : IsCaseOf region requests bindings members case
  pub none : (a : Assignment) → region_allowed case a ≡ true → ⊥

-- a set that can't be met, and can without any one of its members
pub record IsCore (region : Region) (requests : Requests) (bindings : Bindings) (members : List ℕ) : Type 0 where
  pub those : AreMembers (length requests.list) members
  pub clash : CannotBeMet region requests bindings members
  pub without : (n : ℕ) → n < length members → CanBeMet region requests bindings (remove members n)
