-- What is answered where the programs fit and the budget suffices.
use Rattle.std.specs.Prelude.{ℕ, ◌≡◌, ◌≤◌, ◌+◌, ◌*◌, ◌↔◌, Bool, true, false, List, length, None}
use Rattle.ras_inventory.specs.declared.region.Region.{Region}
use Rattle.ras_inventory.specs.declared.bindings.Bindings.{Bindings}
use Rattle.ras_requests.specs.declared.all.Requests.{Requests}
use Rattle.plan_model.specs.declared.cases.Case.{Case}
use Rattle.plan_model.specs.declared.cases.Grouping.TheVariants.{Class}
use Rattle.program_rows.specs.declared.fault.SizeFault.{SizeFault}
use Rattle.program_rows.specs.declared.fault.SizeFault.TheVariants.{Memory}
use Rattle.program_rows.specs.Settings.{region_setting, phase_classes}
use Rattle.program_rows.specs.Sizes.{size_fault_of}
use Rattle.plan_checker.specs.Solution.{phase_choices}
use Rattle.conflict_core.specs.declared.answer.CoreAnswer.{CoreAnswer}
use Rattle.conflict_core.specs.declared.answer.CoreAnswer.TheVariants.{Core, Fits, Limit}
use Rattle.conflict_core.specs.Kept.{AreMembers, all_members}
use Rattle.conflict_core.specs.Cores.{CanBeMet, CannotBeMet, IsCaseOf}
use Rattle.conflict_core.specs.Answers.{IsCoreAnswer, IsFaultOf}

-- the program of each set of the reservations fits
abbrev pub AllFit : Region → Requests → Bindings → Type 0
AllFit region requests bindings =
    (members : List ℕ) (case : Case) → AreMembers (length requests.list) members → IsCaseOf region requests bindings members case
    → size_fault_of case (region_setting case) (phase_classes case (region_setting case) Class) ≡ None

-- a budget that always suffices, for each set of the reservations
abbrev pub IsEnough : Region → Requests → Bindings → ℕ → Type 0
IsEnough region requests bindings nodes =
    (members : List ℕ) (case : Case) → AreMembers (length requests.list) members → IsCaseOf region requests bindings members case
    → 2 * phase_choices case (region_setting case) ≤ nodes + 1

abbrev pub is_core : CoreAnswer → Bool
is_core (Core members refutation plans) = true
is_core (Fits plan) = false
is_core (Limit over document) = false

abbrev pub is_fitting : CoreAnswer → Bool
is_fitting (Core members refutation plans) = false
is_fitting (Fits plan) = true
is_fitting (Limit over document) = false

-- a core exactly where the reservations can't all be met, and a plan for all exactly where they can
pub record IsDecided (region : Region) (requests : Requests) (bindings : Bindings) (answer : CoreAnswer) : Type 0 where
  pub core : (is_core answer ≡ true) ↔ CannotBeMet region requests bindings (all_members requests)
  pub fits : (is_fitting answer ≡ true) ↔ CanBeMet region requests bindings (all_members requests)

-- with a budget that suffices for each set it is decided whether all reservations can be met
abbrev pub EnoughIsDecided : Type 0
EnoughIsDecided =
    (region : Region) (requests : Requests) (bindings : Bindings) (nodes : ℕ) (answer : CoreAnswer) → IsEnough region requests bindings nodes → IsCoreAnswer region requests bindings nodes answer → IsDecided region requests bindings answer

-- where all programs fit, memory alone can be wanting
abbrev pub FittingHasMemoryFaults : Type 0
FittingHasMemoryFaults =
    (region : Region) (requests : Requests) (bindings : Bindings) (fault : SizeFault) → AllFit region requests bindings → IsFaultOf region requests bindings fault → fault ≡ Memory
