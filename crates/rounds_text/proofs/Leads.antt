-- The documents of rounds are accepted.
use Rattle.std.proofs.Common.{ℕ, ◌+◌, List, [], ◌∷◌, Option, Some, None}
use Rattle.plan_model.specs.declared.cases.Case.{Case}
use Rattle.rounds_text.specs.Rounds.{Agenda, DoneRound, IsRound}
use Rattle.rounds_text.specs.Runs.{AreRounds}
use Rattle.rounds_text.specs.Laws.{AreAccepted, IsAcceptedIn, RoundsLeadOn}

accepted-in : (agenda : Agenda) (number : ℕ) (case : Case) (round : DoneRound) → IsRound agenda number case round → IsAcceptedIn agenda case round
accepted-in agenda number case round is =
    record { stated = is.solution.stated; accepted = is.solution.accepted; no_reason = is.solution.no_reason; promises = is.solution.promises }

all-accepted : (agenda : Agenda) (number : ℕ) (case : Option Case) (rounds : List DoneRound) (left : Option Case) → AreRounds agenda number case rounds left → AreAccepted agenda case rounds
all-accepted agenda number case [] left are = tt
all-accepted agenda number None (round ∷ rounds) left are = absurd are
all-accepted agenda number (Some case) (round ∷ rounds) left are =
    (accepted-in agenda number case round are.0, all-accepted agenda (number + 1) round.after rounds left are.1)

pub rounds-lead-on : RoundsLeadOn
rounds-lead-on agenda first rounds left h = all-accepted agenda 1 (Some first) rounds left h.are
