-- What documents say of sets.
use Rattle.std.proofs.Common.{◌≡◌, ℕ, zero, suc, ◌+◌, ◌<◌, ◌++◌, ◌∷◌, ◌∙◌, ap, sym, arith, refl, subst, List, [], length, get_or, take, Option, Some, None, is_some, Bool, true, false}
use Rattle.std.specs.Prelude.{Result, Ok, Err, is_err, is_ok, if◌then◌else◌, IfErr, IfOk, IfSome, drop}
use Rattle.std.specs.List.{remove}
use Rattle.std.proofs.lemmas.List.{length-append}
use Rattle.ras_inventory.specs.declared.region.Region.{Region}
use Rattle.ras_inventory.specs.declared.bindings.Bindings.{Bindings}
use Rattle.ras_requests.specs.declared.all.Requests.{Requests}
use Rattle.plan_model.specs.declared.cases.Case.{Case}
use Rattle.plan_model.specs.declared.cases.Assignment.{Assignment}
use Rattle.plan_model.specs.declared.cases.Grouping.TheVariants.{Class}
use Rattle.plan_model.specs.Allowed.{region_allowed}
use Rattle.plan_model.specs.Costs.{region_cost}
use Rattle.program_rows.specs.declared.fault.SizeFault.{SizeFault}
use Rattle.program_rows.specs.declared.fault.SizeFault.TheVariants.{Columns, Rows, Memory}
use Rattle.program_rows.specs.Settings.{region_setting, phase_classes}
use Rattle.program_rows.specs.Sizes.{size_fault_of, IsFault}
use Rattle.plan_document.specs.declared.document.Document.{Document}
use Rattle.plan_document.specs.declared.part.Planned.{Planned}
use Rattle.plan_checker.specs.Accepted.{IsRightPlan}
use Rattle.plan_checker.specs.Shape.{HasPlan}
use Rattle.plan_checker.specs.Solution.{IsSolution}
use Rattle.conflict_core.specs.Kept.{AreMembers}
use Rattle.conflict_core.specs.Cores.{IsCaseOf, CanBeMet, CannotBeMet, IsCore}
use Rattle.conflict_core.specs.Answers.{IsDocumentOf, IsFaultOf, IsPlanFor, IsRefutationOf, ArePlans}

pub has-plan : (plan : Option Planned) (b : Bool) → b ≡ is_some plan → b ≡ true → HasPlan plan
has-plan (Some plan) b e h = tt
has-plan None b e h = cc

pub no-plan : (plan : Option Planned) (b : Bool) → b ≡ is_some plan → b ≡ false → plan ≡ None
no-plan (Some plan) b e h = cc
no-plan None b e h = refl

-- after a push that was not refused
pub after-push : {T E : Type 0} (r : Result T E) (refused : Bool) (was now : List Document) (document : Document) → refused ≡ is_err r → refused ≡ false
    → now ≡ (if is_ok r then was ++ document ∷ [] else was) → now ≡ was ++ document ∷ []
after-push (Ok x) refused was now document e h is = is
after-push (Err y) refused was now document e h is = cc

at-push : (P : Document → Type 0) (plans : List Document) (document : Document) (n : ℕ) (d : Document) → n < suc (length plans) → (n < length plans → P (get_or plans n d))
    → (n ≡ length plans → P document) → P (get_or (plans ++ document ∷ []) n d)
at-push P [] document zero d within before last = last refl
at-push P [] document (suc n) d within before last = absurd (omega arith)
at-push P (p ∷ plans) document zero d within before last = before (omega arith)
at-push P (p ∷ plans) document (suc n) d within before last =
    at-push P plans document n d (omega arith) (λ h. before (omega (arith, h))) (λ e. last (ap suc e))

allowed-there : (allows : Assignment → Bool) (cost : Assignment → ℕ) (lower : Option ℕ) (plan : Option Planned) → HasPlan plan → IfSome plan (IsRightPlan allows cost lower)
    → (a : Assignment) × (allows a ≡ true)
allowed-there allows cost lower (Some plan) has right = (plan.of, right.allowed)
allowed-there allows cost lower None has right = absurd has

module _ (region : Region) (requests : Requests) (bindings : Bindings) where
  fault-of : (members : List ℕ) (case : Case) (fault : SizeFault) → AreMembers (length requests.list) members → IsCaseOf region requests bindings members case
      → IsFault (size_fault_of case (region_setting case) (phase_classes case (region_setting case) Class)) fault → IsFaultOf region requests bindings fault
  fault-of members case Memory those is h = tt
  fault-of members case (Columns n) those is h = record { members = members; those = those; case = case; is_case = is; size = h }
  fault-of members case (Rows n) those is h = record { members = members; those = those; case = case; is_case = is; size = h }

  pub faults-of : {A : Type 0} (members : List ℕ) (case : Case) (r : Result A SizeFault) → AreMembers (length requests.list) members
      → IsCaseOf region requests bindings members case
      → IfErr r (IsFault (size_fault_of case (region_setting case) (phase_classes case (region_setting case) Class))) → IfErr r (IsFaultOf region requests bindings)
  faults-of members case (Ok x) those is h = tt
  faults-of members case (Err e) those is h = fault-of members case e those is h

  pub documents-of : {E : Type 0} (members : List ℕ) (nodes : ℕ) (case : Case) (r : Result Document E) → IsCaseOf region requests bindings members case
      → IfOk r (IsSolution case 1000000000000 nodes 0) → IfOk r (IsDocumentOf region requests bindings members nodes)
  documents-of members nodes case (Ok document) is h = record { case = case; is_case = is; solution = h }
  documents-of members nodes case (Err e) is h = tt

  -- a document with an assignment says that the set can be met
  pub can : (members : List ℕ) (nodes : ℕ) (document : Document) → IsPlanFor region requests bindings members nodes document → CanBeMet region requests bindings members
  can members nodes document h =
      let there = allowed-there (region_allowed h.is.case) (region_cost h.is.case) document.region.lower document.region.plan h.plan h.is.solution.accepted.region.plan in
      record { case = h.is.case; is_case = h.is.is_case; a = there.0; allowed = there.1 }

  -- one with answer infeasible says that it can't
  pub cannot : (members : List ℕ) (nodes : ℕ) (document : Document) → IsRefutationOf region requests bindings members nodes document → CannotBeMet region requests bindings members
  cannot members nodes document h = record { case = h.is.case; is_case = h.is.is_case; none = h.is.solution.none h.answer }

  -- and with one for each member that is left out, the set is a core
  pub core-is : (members : List ℕ) (nodes : ℕ) (refutation : Document) (plans : List Document) → AreMembers (length requests.list) members
      → IsRefutationOf region requests bindings members nodes refutation → ArePlans region requests bindings members nodes (length members) plans
      → IsCore region requests bindings members
  core-is members nodes refutation plans those refuted are = record {
    those = those;
    clash = cannot members nodes refutation refuted;
    without = λ n within. can (remove members n) nodes (get_or plans n refutation) (are.each n refutation within);
  }

  module _ (members : List ℕ) (nodes : ℕ) where
    pub none-yet : (plans : List Document) → plans ≡ [] → ArePlans region requests bindings members nodes 0 plans
    none-yet plans e = record { many = ap length e; each = λ n d within. absurd (omega (arith, within)) }

    more-plans : (plans : List Document) (document : Document) (count : ℕ) → IsPlanFor region requests bindings (remove members count) nodes document
        → ArePlans region requests bindings members nodes count plans → ArePlans region requests bindings members nodes (count + 1) (plans ++ document ∷ [])
    more-plans plans document count is h = record {
      many = omega (arith, h.many, length-append plans (document ∷ []));
      each = λ n d within.
          at-push (IsPlanFor region requests bindings (remove members n) nodes) plans document n d (omega (arith, within, h.many))
          (λ inside. h.each n d (omega (arith, inside, h.many)))
          (λ same.
          let here : count ≡ n = omega (arith, same, h.many) in
          subst (λ k. IsPlanFor region requests bindings (remove members k) nodes document) here is);
    }

    -- one more, for the set without the next member
    pub one-more : (plans now : List Document) (document : Document) (count : ℕ) (fewer : List ℕ) → now ≡ plans ++ document ∷ [] → fewer ≡ take count members ++ drop (count + 1) members
        → IsPlanFor region requests bindings fewer nodes document → ArePlans region requests bindings members nodes count plans
        → ArePlans region requests bindings members nodes (count + 1) now
    one-more plans now document count fewer e cut is h =
        let next : count + 1 ≡ suc count = omega arith in
        let same : fewer ≡ remove members count = cut ∙ ap (λ k. take count members ++ drop k members) next in
        subst (λ (ds : List Document). ArePlans region requests bindings members nodes (count + 1) ds) (sym {A = List Document} e)
        (more-plans plans document count (subst (λ (xs : List ℕ). IsPlanFor region requests bindings xs nodes document) same is) h)
