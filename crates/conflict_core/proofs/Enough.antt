-- With a budget that suffices it is decided whether all reservations can be met.
use Rattle.std.proofs.Common.{◌≡◌, ℕ, ◌+◌, ◌*◌, ◌<◌, ◌≤◌, arith, sym, ◌∙◌, refl, List, length, Option, Some, None}
use Rattle.ras_inventory.specs.declared.region.Region.{Region}
use Rattle.ras_inventory.specs.declared.bindings.Bindings.{Bindings}
use Rattle.ras_requests.specs.declared.all.Requests.{Requests}
use Rattle.plan_model.specs.declared.cases.Case.{Case}
use Rattle.program_rows.specs.declared.fault.SizeFault.{SizeFault}
use Rattle.program_rows.specs.declared.fault.SizeFault.TheVariants.{Columns, Rows, Memory}
use Rattle.program_rows.specs.Settings.{region_setting}
use Rattle.plan_document.specs.declared.part.Planned.{Planned}
use Rattle.plan_document.specs.declared.part.RackPart.{RackPart}
use Rattle.plan_checker.specs.Solution.{IsTooFew, phase_choices}
use Rattle.conflict_core.specs.declared.answer.CoreAnswer.TheVariants.{Core, Fits, Limit}
use Rattle.conflict_core.specs.Kept.{AreMembers, all_members}
use Rattle.conflict_core.specs.Cores.{CanBeMet, CannotBeMet}
use Rattle.conflict_core.specs.Answers.{HasSize, IsLimitOf}
use Rattle.conflict_core.specs.Enough.{AllFit, EnoughIsDecided, FittingHasMemoryFaults, IsEnough}
use Rattle.conflict_core.proofs.Documents.{can}
use Rattle.conflict_core.proofs.Fewer.{all-members, case-of, joined-case, kept-requests, met-or-not, some-met}

-- where a set can't be met, all can't
all-cannot : (region : Region) (requests : Requests) (bindings : Bindings) (members : List ℕ) → AreMembers (length requests.list) members
    → CannotBeMet region requests bindings members → CannotBeMet region requests bindings (all_members requests)
all-cannot region requests bindings members those not =
    let every : AreMembers (length requests.list) (all_members requests) = all-members (length requests.list) in
    record {
      case = joined-case region (kept-requests requests (all_members requests) every) bindings;
      is_case = case-of region requests bindings (all_members requests) every;
      none = λ a allowed. met-or-not region requests bindings members
          (some-met region requests bindings members those
          (record { case = joined-case region (kept-requests requests (all_members requests) every) bindings; is_case = case-of region requests bindings (all_members requests) every; a = a; allowed = allowed }))
          not;
    }

too-few : (case : Case) (nodes : ℕ) (plan : Option Planned) (rack : Option RackPart) → plan ≡ None → IsTooFew case nodes plan rack
    → nodes + 1 < 2 * phase_choices case (region_setting case)
too-few case nodes None None e h = h
too-few case nodes None (Some rack) e h = absurd h
too-few case nodes (Some plan) rack e h = cc

no-limit : (region : Region) (requests : Requests) (bindings : Bindings) (nodes : ℕ) (over : List ℕ) → IsEnough region requests bindings nodes → AreMembers (length requests.list) over
    → (document : _) → IsLimitOf region requests bindings over nodes document → ⊥
no-limit region requests bindings nodes over enough those document h =
    let few : nodes + 1 < 2 * phase_choices h.is.case (region_setting h.is.case) =
    too-few h.is.case nodes document.region.plan document.rack h.no_plan (h.is.solution.too_few h.answer) in
    let much : 2 * phase_choices h.is.case (region_setting h.is.case) ≤ nodes + 1 = enough over h.is.case those h.is.is_case in
    omega (arith, few, much)

pub enough-is-decided : EnoughIsDecided
enough-is-decided region requests bindings nodes (Core members refutation plans) enough h =
    let not : CannotBeMet region requests bindings (all_members requests) = all-cannot region requests bindings members h.0.those h.0.clash in
    record {
      core = (λ e. not, λ k. refl);
      fits = (λ e. cc, λ met. absurd (met-or-not region requests bindings (all_members requests) met not));
    }
enough-is-decided region requests bindings nodes (Fits plan) enough h =
    let met : CanBeMet region requests bindings (all_members requests) = can region requests bindings (all_members requests) nodes plan h in
    record {
      core = (λ e. cc, λ not. absurd (met-or-not region requests bindings (all_members requests) met not));
      fits = (λ e. met, λ k. refl);
    }
enough-is-decided region requests bindings nodes (Limit over document) enough h = absurd (no-limit region requests bindings nodes over enough h.0 document h.1)

no-size : (region : Region) (requests : Requests) (bindings : Bindings) (fault : SizeFault) → AllFit region requests bindings → HasSize region requests bindings fault → ⊥
no-size region requests bindings fault fit h =
    let none = fit h.members h.case h.those h.is_case in
    let both : Some fault ≡ None = sym h.size ∙ none in
    cc

pub fitting-has-memory-faults : FittingHasMemoryFaults
fitting-has-memory-faults region requests bindings Memory fit h = refl
fitting-has-memory-faults region requests bindings (Columns n) fit h = absurd (no-size region requests bindings (Columns n) fit h)
fitting-has-memory-faults region requests bindings (Rows n) fit h = absurd (no-size region requests bindings (Rows n) fit h)
