-- The rounds of a script, one after the other.
use Rattle.std.specs.Prelude.{ℕ, ◌≡◌, ◌+◌, ◌≤◌, ◌&&◌, ⊤, List, [], ◌∷◌, length, nat_lt, Option, Some, None, is_some, IfSome}
use Rattle.plan_model.specs.declared.cases.Case.{Case}
use Rattle.plan_document.specs.declared.document.Document.{Document}
use Rattle.rounds_text.specs.declared.done.Round.{Round}
use Rattle.rounds_text.specs.Scripts.{rounds_of}
use Rattle.rounds_text.specs.Rounds.{Agenda, DoneRound, IsRound}

-- Rounds from this number on, from a case where there is one: each next one is the round of the case after the round before. The case after the last one is left.
-- No round follows one without an assignment.
abbrev pub AreRounds : Agenda → ℕ → Option Case → List DoneRound → Option Case → Type 0
AreRounds agenda number case [] left = left ≡ case
AreRounds agenda number None (round ∷ rounds) left = ⊥
AreRounds agenda number (Some case) (round ∷ rounds) left = IsRound agenda number case round × AreRounds agenda (number + 1) round.after rounds left

-- the first rounds of the script, from the first case
pub record AreFirstRounds (agenda : Agenda) (first : Case) (rounds : List DoneRound) (left : Option Case) : Type 0 where
  pub are : AreRounds agenda 1 (Some first) rounds left
  pub few : length rounds ≤ rounds_of agenda.entries

-- there is no further round: the last document has no assignment, or every round of the script was run
abbrev pub IsOver : Agenda → ℕ → Option Case → Type 0
IsOver agenda done None = ⊤
IsOver agenda done (Some case) = done ≡ rounds_of agenda.entries

-- all rounds of the script, or those up to the first whose document has no assignment
pub record AreAllRounds (agenda : Agenda) (first : Case) (rounds : List DoneRound) (left : Option Case) : Type 0 where
  pub firsts : AreFirstRounds agenda first rounds left
  pub over : IsOver agenda (length rounds) left

-- where a run stands: how many rounds were run, and the case of the next one
pub record Run : Type 0 where
  pub agenda : Agenda
  pub done : ℕ
  pub case : Case

-- The next round of a run, and where the run stands after it. It goes on where there is a case after the round, and the round is not the last of the script.
pub record IsNext (run : Run) (round : Round) (next : Run) : Type 0 where
  pub document : Document
  pub left : Option Case
  pub is_round : IsRound run.agenda (run.done + 1) run.case (record { document = document; text = round.text.items; after = left })
  pub answer : round.answer ≡ document.answer
  pub goes_on : round.goes_on ≡ (is_some left && nat_lt (run.done + 1) (rounds_of run.agenda.entries))
  pub agenda : next.agenda ≡ run.agenda
  pub done : next.done ≡ run.done + 1
  pub case : IfSome left (λ after. next.case ≡ after)
