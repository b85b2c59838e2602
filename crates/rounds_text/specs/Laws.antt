-- What holds of the rounds of a script.
use Rattle.std.specs.Prelude.{◌≡◌, ⊤, List, [], ◌∷◌, Option, Some, None}
use Rattle.plan_model.specs.declared.cases.Case.{Case}
use Rattle.plan_checker.specs.Accepted.{IsAccepted}
use Rattle.plan_checker.specs.Headline.{KeepsPromises}
use Rattle.plan_checker.specs.Reasons.{first_reason}
use Rattle.plan_checker.specs.Solution.{States}
use Rattle.rounds_text.specs.Rounds.{Agenda, DoneRound}
use Rattle.rounds_text.specs.Runs.{AreFirstRounds}

-- the document of a round is accepted for a case, keeps its promises there, and states what was asked for
pub record IsAcceptedIn (agenda : Agenda) (case : Case) (round : DoneRound) : Type 0 where
  pub stated : States agenda.options.gap agenda.options.nodes agenda.options.racks round.document
  pub accepted : IsAccepted case round.document
  pub no_reason : first_reason case round.document ≡ None
  pub promises : KeepsPromises case round.document

-- the first document for the first case, and each further one for the case after the round before
abbrev pub AreAccepted : Agenda → Option Case → List DoneRound → Type 0
AreAccepted agenda case [] = ⊤
AreAccepted agenda None (round ∷ rounds) = ⊥
AreAccepted agenda (Some case) (round ∷ rounds) = IsAcceptedIn agenda case round × AreAccepted agenda round.after rounds

abbrev pub RoundsLeadOn : Type 0
RoundsLeadOn = (agenda : Agenda) (first : Case) (rounds : List DoneRound) (left : Option Case) → AreFirstRounds agenda first rounds left → AreAccepted agenda (Some first) rounds
