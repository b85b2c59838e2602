-- One round more.
use Rattle.std.proofs.Common.{ℕ, ◌≡◌, ◌+◌, ◌<◌, List, [], ◌∷◌, ◌++◌, length, length-append, arith, subst, refl, Option, Some, None}
use Rattle.plan_model.specs.declared.cases.Case.{Case}
use Rattle.rounds_text.specs.Scripts.{rounds_of}
use Rattle.rounds_text.specs.Rounds.{Agenda, DoneRound, IsRound}
use Rattle.rounds_text.specs.Runs.{AreRounds, AreFirstRounds}

rounds-more : (agenda : Agenda) (number : ℕ) (from : Option Case) (rounds : List DoneRound) (case : Case) (round : DoneRound) → AreRounds agenda number from rounds (Some case)
    → IsRound agenda (number + length rounds) case round → AreRounds agenda number from (rounds ++ round ∷ []) round.after
rounds-more agenda number from [] case round are is =
    subst (λ (o : Option Case). AreRounds agenda number o (round ∷ []) round.after) are
    (subst (λ (n : ℕ). IsRound agenda n case round) (omega arith) is, refl)
rounds-more agenda number None (first ∷ rounds) case round are is = absurd are
rounds-more agenda number (Some start) (first ∷ rounds) case round are is =
    (are.0, rounds-more agenda (number + 1) first.after rounds case round are.1 (subst (λ (n : ℕ). IsRound agenda n case round) (omega arith) is))

-- the next round of a run
pub first-more : (agenda : Agenda) (first : Case) (rounds : List DoneRound) (case : Case) (round : DoneRound) → AreFirstRounds agenda first rounds (Some case)
    → length rounds < rounds_of agenda.entries → IsRound agenda (length rounds + 1) case round → AreFirstRounds agenda first (rounds ++ round ∷ []) round.after
first-more agenda first rounds case round firsts more is =
    let next : length rounds + 1 ≡ 1 + length rounds = omega arith in
    record {
      are = rounds-more agenda 1 (Some first) rounds case round firsts.are (subst (λ (n : ℕ). IsRound agenda n case round) next is);
      few = omega (arith, more, length-append rounds (round ∷ []));
    }
