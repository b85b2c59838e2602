-- Each command adds one server in flight.
use Rattle.std.proofs.Common.{◌≡◌, ℕ, ◌+◌, ◌<◌, ◌≤◌, inl, inr, Bool, true, false, cond, List, [], ◌∷◌, length, arith, ap, ◌∙◌, refl}
use Rattle.std.proofs.lemmas.List.Sums.{sum_by-set}
use Rattle.online_mover.specs.declared.stands.Stand.{Stand}
use Rattle.online_mover.specs.declared.stands.Stand.TheVariants.{Joining, Draining}
use Rattle.online_mover.specs.declared.stands.Server.{Server}
use Rattle.online_mover.specs.declared.stands.Command.{Command}
use Rattle.online_mover.specs.declared.stands.Command.TheVariants.{Drain, Bind}
use Rattle.online_mover.specs.States.{State, server_of, with_server, with_stand, stand_moves, moves, in_flight, no_server}
use Rattle.online_mover.specs.Commands.{after_command, drained_stand}
use Rattle.online_mover.specs.Steps.{Gives}
use Rattle.online_mover.proofs.Given.{IsGiven, least-given}

pub flight-set : (state : State) (s : ℕ) (new : Server) → s < length state.servers
    → in_flight (with_server state s new) + cond (moves (server_of state s)) 1 0 ≡ in_flight state + cond (moves new) 1 0
flight-set state s new within = sum_by-set (λ server. cond (moves server) 1 0) state.servers s new no_server within

-- a server that was not in flight begins to be
pub flight-more : (state : State) (s : ℕ) (stand : Stand) → s < length state.servers → moves (server_of state s) ≡ false → stand_moves stand ≡ true
    → in_flight (with_stand state s stand) ≡ in_flight state + 1
flight-more state s stand within was is =
    let old : ◌≡◌ {A = ℕ} (cond (moves (server_of state s)) 1 0) 0 = ap (λ (b : Bool). let n : ℕ = cond b 1 0 in n) was in
    let new : ◌≡◌ {A = ℕ} (cond (stand_moves stand) 1 0) 1 = ap (λ (b : Bool). let n : ℕ = cond b 1 0 in n) is in
    omega (arith, flight-set state s (record (server_of state s) { stand = stand }) within, old, new)

pub command-flight : (state : State) (s : ℕ) (command : Command) → s < length state.servers → IsGiven state s command
    → in_flight (after_command state command) ≡ in_flight state + 1
command-flight state s command within given =
    elim (given.why) [
      | inl (p, (free, aims, is)) ↦ ap (λ c. in_flight (after_command state c)) is ∙ flight-more state s (Joining p) within (ap stand_moves free) refl
      | inr (q, (bound, aims, spare, is)) ↦
          ap (λ c. in_flight (after_command state c)) is
          ∙ ap (λ stand. in_flight (with_stand state s (drained_stand stand))) bound
          ∙ flight-more state s (Draining q) within (ap stand_moves bound) refl
    ]

pub same-at_once : (state : State) (command : Command) → (after_command state command).at_once ≡ state.at_once
same-at_once state (Drain s) = refl
same-at_once state (Bind s r) = refl

pub gives-at_once : (state after : State) (commands : List Command) → Gives state commands after → after.at_once ≡ state.at_once
gives-at_once state after [] h = ap (λ t. t.at_once) h
gives-at_once state after (command ∷ rest) h = gives-at_once (after_command state command) after rest h.1 ∙ same-at_once state command

-- so the commands are as many as those that are in flight more than before
pub gives-flight : (state after : State) (commands : List Command) → Gives state commands after
    → in_flight after ≡ in_flight state + length commands
gives-flight state after [] h = let none : in_flight state ≡ in_flight state + 0 = omega arith in ap in_flight h ∙ none
gives-flight state after (command ∷ rest) h =
    let given = least-given state command h.0 in
    omega (arith, gives-flight (after_command state command) after rest h.1, command-flight state given.0 command given.1.0 given.1.1)

-- and never more than may be
pub gives-room : (state after : State) (commands : List Command) → in_flight state ≤ state.at_once → Gives state commands after
    → in_flight after ≤ state.at_once
gives-room state after [] room h = omega (arith, room, ap in_flight h)
gives-room state after (command ∷ rest) room h =
    let given = least-given state command h.0 in
    let one = command-flight state given.0 command given.1.0 given.1.1 in
    let next : in_flight (after_command state command) ≤ (after_command state command).at_once =
    omega (arith, one, given.1.1.room, same-at_once state command) in
    omega (arith, gives-room (after_command state command) after rest next h.1, same-at_once state command)
