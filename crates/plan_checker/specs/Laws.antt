-- What it means that no reason holds, and that a document is accepted.
use Rattle.std.specs.Prelude.{◌≡◌, ℕ, true, List, length, None, IfSome}
use Rattle.plan_model.specs.declared.cases.Case.{Case}
use Rattle.plan_model.specs.Allowed.{region_allowed}
use Rattle.plan_document.specs.declared.document.Document.{Document}
use Rattle.plan_document.specs.Writable.{CanBeWritten}
use Rattle.plan_checker.specs.Reasons.{first_reason}
use Rattle.plan_checker.specs.Shape.{HasShape}
use Rattle.plan_checker.specs.Headline.{KeepsPromises}
use Rattle.plan_checker.specs.Accepted.{IsAccepted}
use Rattle.plan_checker.specs.Target.{target_of}

-- a document for which no reason holds keeps its promises
abbrev pub NoReasonKeepsPromises : Type 0
NoReasonKeepsPromises = (case : Case) (document : Document) → HasShape case document → first_reason case document ≡ None → KeepsPromises case document

-- no reason holds exactly where the document is accepted
abbrev pub NoReasonIsAccepted : Type 0
NoReasonIsAccepted = (case : Case) (document : Document) → HasShape case document → first_reason case document ≡ None → IsAccepted case document

abbrev pub AcceptedHasNoReason : Type 0
AcceptedHasNoReason = (case : Case) (document : Document) → HasShape case document → IsAccepted case document → first_reason case document ≡ None

-- a document that the format can state, over as many servers and reservations as the case has, has the shape that the verdict asks for
abbrev pub WrittenHasShape : Type 0
WrittenHasShape =
    (case : Case) (servers reservations : List (List ℕ)) (document : Document) → length servers ≡ length case.places → length reservations ≡ length case.wants
    → CanBeWritten servers reservations document → HasShape case document

-- where an accepted document puts the servers is allowed
abbrev pub TargetIsAllowed : Type 0
TargetIsAllowed = (case : Case) (document : Document) → HasShape case document → IsAccepted case document → IfSome (target_of document) (λ target. region_allowed case target ≡ true)
