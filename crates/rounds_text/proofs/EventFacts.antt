-- The events of a round are of servers that are there, and a script has a round.
use Rattle.std.proofs.Common.{◌≡◌, ℕ, zero, suc, ◌≤◌, ◌-◌, arith, length, Option, Some, None, Bool, true, false, cond, List, [], ◌∷◌, take, refl}
use Rattle.std.specs.Prelude.{◌==◌, filter, map, max, slice_get}
use Rattle.std.specs.Option.{option_map_or}
use Rattle.std.specs.List.{list_all}
use Rattle.plan_model.proofs.CaseFacts.{and-left, and-right}
use Rattle.plan_model.proofs.JoinRule.{both}
use Rattle.online_mover.specs.declared.timed.Timed.{Timed}
use Rattle.online_mover.specs.Events.{event_within}
use Rattle.ras_rounds.specs.declared.entries.Entry.{Entry}
use Rattle.rounds_text.specs.Scripts.{at_round, events_of, rounds_of}
use Rattle.rounds_text.specs.Ready.{AreThere}

pub round-there : (servers number : ℕ) (entries : List Entry) → AreThere servers entries → list_all (λ timed. event_within servers timed.event) (events_of number entries) ≡ true
round-there servers number [] h = refl
round-there servers number (entry ∷ entries) h = by (entry.round == number) (round-there servers number entries (and-right _ _ h))
  where
    by : (b : Bool) → list_all (λ (timed : Timed). event_within servers timed.event) (events_of number entries) ≡ true
        → list_all (λ (timed : Timed). event_within servers timed.event)
        (map (at_round number) (cond b (entry ∷ filter (λ (e : Entry). e.round == number) entries) (filter (λ (e : Entry). e.round == number) entries))) ≡ true
    by true rest = both _ _ (and-left _ _ h) rest
    by false rest = rest

max-one : (n : ℕ) → 1 ≤ max n 1
max-one zero = omega arith
max-one (suc n) = omega arith

some-last : (o : Option Entry) → 1 ≤ option_map_or (λ (last : Entry). max last.round 1) o 1
some-last None = omega arith
some-last (Some last) = max-one last.round

pub some-round : (entries : List Entry) → 1 ≤ rounds_of entries
some-round entries = some-last (slice_get entries (length entries - 1))

-- a round has at most as many events as the script has entries
pub few-events : (number i : ℕ) (entries : List Entry) → length (events_of number (take i entries)) ≤ length entries
few-events number zero entries = omega arith
few-events number (suc i) [] = omega arith
few-events number (suc i) (entry ∷ entries) = by (entry.round == number) (few-events number i entries)
  where
    by : (b : Bool) → length (events_of number (take i entries)) ≤ length entries
        → length (map (at_round number)
        (cond b (entry ∷ filter (λ (e : Entry). e.round == number) (take i entries)) (filter (λ (e : Entry). e.round == number) (take i entries)))) ≤ length (entry ∷ entries)
    by true rest = omega (arith, rest)
    by false rest = omega (arith, rest)
