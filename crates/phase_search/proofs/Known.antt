-- What is known of the leaves of a search that was stopped, by the plan that was made of its best point.
use Rattle.std.proofs.Common.{◌≡◌, ℕ, ◌≤◌, List, [], ◌∷◌, length, subst, arith, Some, None, inl, inr}
use Rattle.std.specs.Prelude.{Option}
use Rattle.ip_model.specs.declared.program.Program.{Program}
use Rattle.bound_certificate.specs.declared.tree.Node.{Node}
use Rattle.bound_certificate.specs.declared.tree.Node.TheVariants.{Split, Bound, Refute}
use Rattle.bound_certificate.specs.Bound.{leaf_bound}
use Rattle.bound_certificate.specs.Trees.{box_of}
use Rattle.exact_simplex.specs.Reasons.{AreKnown}
use Rattle.plan_document.specs.declared.part.Planned.{Planned}
use Rattle.branch_bound.specs.declared.found.Best.{Best}
use Rattle.branch_bound.specs.Openings.{HasWithin}
use Rattle.plan_checker.specs.Causes.{HasPlanWithin}

-- what is known of leaves is known of them where more is within reach
pub known-wider : (program : Program) (narrow wide : ℕ → Type 0) → ((value : ℕ) → narrow value → wide value) → (earlier nodes : List Node)
    → AreKnown program narrow earlier nodes → AreKnown program wide earlier nodes
known-wider program narrow wide widens earlier [] known = tt
known-wider program narrow wide widens earlier (Split column at low high shown ∷ nodes) known =
    (tt, known-wider program narrow wide widens (Split column at low high shown ∷ earlier) nodes known.1)
known-wider program narrow wide widens earlier (Bound y ∷ nodes) known = (
  elim known.0 [ inl undecided ↦ inl undecided | inr within ↦ inr (widens (leaf_bound program (box_of program earlier (length earlier)) y) within) ],
  known-wider program narrow wide widens (Bound y ∷ earlier) nodes known.1,
)
known-wider program narrow wide widens earlier (Refute y ∷ nodes) known =
    (tt, known-wider program narrow wide widens (Refute y ∷ earlier) nodes known.1)

-- a plan of at most the best point's value is within reach where that point was
within-plan : (best : Option Best) (b : Best) (plan : Planned) → best ≡ Some b → plan.value ≤ b.value → (value : ℕ) → HasWithin best value → HasPlanWithin (Some plan) value
within-plan best b plan some less value has =
    let within : b.value ≤ value = subst (λ (o : Option Best). HasWithin o value) some has in
    omega (arith, less, within)

pub known-plan : (program : Program) (best : Option Best) (b : Best) (plan : Planned) (nodes : List Node) → best ≡ Some b → plan.value ≤ b.value
    → AreKnown program (HasWithin best) [] nodes → AreKnown program (HasPlanWithin (Some plan)) [] nodes
known-plan program best b plan nodes some less known =
    known-wider program (HasWithin best) (HasPlanWithin (Some plan)) (within-plan best b plan some less) [] nodes known

-- where there is no best point nothing is within reach
pub known-none : (program : Program) (best : Option Best) (nodes : List Node) → best ≡ None → AreKnown program (HasWithin best) [] nodes → AreKnown program (HasPlanWithin None) [] nodes
known-none program best nodes none known =
    known-wider program (HasWithin best) (HasPlanWithin None) (λ value has. subst (λ (o : Option Best). HasWithin o value) none has) [] nodes known
