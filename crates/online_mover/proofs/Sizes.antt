-- A step keeps how many servers there are, and its commands are for some of them.
use Rattle.std.proofs.Common.{◌≡◌, ℕ, ◌<◌, true, List, [], ◌∷◌, length, arith, ap, sym, ◌∙◌, refl, subst, Some, None}
use Rattle.std.specs.Prelude.{Option, nat_lt}
use Rattle.std.specs.List.{list_all}
use Rattle.std.specs.Option.{option_map}
use Rattle.std.proofs.lemmas.Bool.Decides.{nat_tests}
use Rattle.std.proofs.lemmas.List.{length-set, length-map}
use Rattle.online_mover.specs.declared.stands.Server.{Server}
use Rattle.online_mover.specs.declared.stands.Command.{Command}
use Rattle.online_mover.specs.declared.stands.Command.TheVariants.{Drain, Bind}
use Rattle.online_mover.specs.declared.stands.Event.{Event}
use Rattle.online_mover.specs.declared.stands.Event.TheVariants.{Tick, Drained, Refused, Joined, JoinFailed, Down, Up}
use Rattle.online_mover.specs.declared.stands.Taken.{Taken}
use Rattle.online_mover.specs.States.{State, with_server}
use Rattle.online_mover.specs.Commands.{after_command}
use Rattle.online_mover.specs.Events.{after_event, after_tick}
use Rattle.online_mover.specs.Changes.{commanded}
use Rattle.online_mover.specs.Steps.{Gives, IsStepFrom, IsStep}
use Rattle.online_mover.proofs.Covers.{both}
use Rattle.online_mover.proofs.Given.{some-same}
use Rattle.online_mover.proofs.Protection.{mapped}
use Rattle.online_mover.proofs.NextCommands.{commanded-within}

command-length : (state : State) (command : Command) → length (after_command state command).servers ≡ length state.servers
command-length state (Drain s) = length-set state.servers s _
command-length state (Bind s r) = length-set state.servers s _

gives-length : (state after : State) (commands : List Command) → Gives state commands after → length after.servers ≡ length state.servers
gives-length state after [] h = ap (λ (t : State). length t.servers) h
gives-length state after (command ∷ rest) h = gives-length (after_command state command) after rest h.1 ∙ command-length state command

change-length : (state changed : State) (s : ℕ) (o : Option Server) → option_map (with_server state s) o ≡ Some changed → length changed.servers ≡ length state.servers
change-length state changed s o h =
    let m = mapped (with_server state s) o changed h in
    sym (ap (λ (t : State). length t.servers) m.1.1) ∙ length-set state.servers s m.0

event-length : (state changed : State) (event : Event) → after_event state event ≡ Some changed → length changed.servers ≡ length state.servers
event-length state changed Tick h = sym (ap (λ (t : State). length t.servers) (some-same _ changed h)) ∙ length-map state.servers after_tick
event-length state changed (Drained s) h = change-length state changed s _ h
event-length state changed (Refused s) h = change-length state changed s _ h
event-length state changed (Joined s) h = change-length state changed s _ h
event-length state changed (JoinFailed s) h = change-length state changed s _ h
event-length state changed (Down s) h = change-length state changed s _ h
event-length state changed (Up s) h = change-length state changed s _ h

from-length : (state after : State) (event : Event) (outcome : Taken) (commands : List Command) (o : Option State) → after_event state event ≡ o
    → IsStepFrom state o outcome commands after → length after.servers ≡ length state.servers
from-length state after event outcome commands None e h = ap (λ (t : State). length t.servers) h.2
from-length state after event outcome commands (Some changed) e h = gives-length changed after commands h.1.0 ∙ event-length state changed event e

pub step-length : (state after : State) (event : Event) (outcome : Taken) (commands : List Command) → IsStep state event outcome commands after → length after.servers ≡ length state.servers
step-length state after event outcome commands h = from-length state after event outcome commands (after_event state event) refl h

-- whether each command is for one of so many servers
abbrev AreFor : ℕ → List Command → Type 0
AreFor n commands = list_all (λ command. nat_lt (commanded command) n) commands ≡ true

gives-within : (n : ℕ) (state after : State) (commands : List Command) → length state.servers ≡ n → Gives state commands after → AreFor n commands
gives-within n state after [] e h = refl
gives-within n state after (command ∷ rest) e h =
    let here : commanded command < n = omega (arith, e, commanded-within state command h.0) in
    let test : nat_lt (commanded command) n ≡ true = grind (arith, nat_tests, here) in
    both (nat_lt (commanded command) n) (list_all (λ c. nat_lt (commanded c) n) rest) test
    (gives-within n (after_command state command) after rest (command-length state command ∙ e) h.1)

from-within : (n : ℕ) (state after : State) (event : Event) (outcome : Taken) (commands : List Command) (o : Option State) → length state.servers ≡ n → after_event state event ≡ o
    → IsStepFrom state o outcome commands after → AreFor n commands
from-within n state after event outcome commands None k e h = subst (λ (cs : List Command). AreFor n cs) (sym h.1) refl
from-within n state after event outcome commands (Some changed) k e h = gives-within n changed after commands (event-length state changed event e ∙ k) h.1.0

pub step-within : (state after : State) (event : Event) (outcome : Taken) (commands : List Command) → IsStep state event outcome commands after
    → list_all (λ command. nat_lt (commanded command) (length after.servers)) commands ≡ true
step-within state after event outcome commands h =
    from-within (length after.servers) state after event outcome commands (after_event state event) (sym (step-length state after event outcome commands h)) refl h
