-- Events and commands keep the rule of a state.
use Rattle.std.proofs.Common.{◌≡◌, ℕ, suc, zero, ◌<◌, ◌≤◌, inl, inr, Bool, true, List, [], ◌∷◌, length, set, arith, ap, sym, ◌∙◌, refl, subst}
use Rattle.std.specs.Prelude.{nat_lt, nat_le, ◌==◌}
use Rattle.std.specs.List.{list_all}
use Rattle.std.specs.Option.{option_map_or}
use Rattle.std.proofs.lemmas.Bool.Decides.{nat_tests}
use Rattle.std.proofs.lemmas.List.{length-set}
use Rattle.plan_model.proofs.CaseFacts.{list_all-at}
use Rattle.online_mover.specs.declared.stands.Stand.{Stand}
use Rattle.online_mover.specs.declared.stands.Stand.TheVariants.{Joining}
use Rattle.online_mover.specs.declared.stands.Server.{Server}
use Rattle.online_mover.specs.declared.stands.Command.{Command}
use Rattle.online_mover.specs.States.{State, server_of, with_server, with_stand, no_server, in_flight, server_in_range, stand_in_range, state_rule}
use Rattle.online_mover.specs.Commands.{after_command, drained_stand}
use Rattle.online_mover.specs.Steps.{Gives}
use Rattle.online_mover.proofs.Covers.{and-left, and-right, both}
use Rattle.online_mover.proofs.Given.{IsGiven, least-given}
use Rattle.online_mover.proofs.Flight.{command-flight}

-- what the rule says
pub record RuleFacts (state : State) : Type 0 where
  pub long : length state.servers ≡ length state.case.places
  pub some : 1 ≤ state.at_once
  pub few : state.at_once ≤ 64
  pub room : in_flight state ≤ state.at_once
  pub range : list_all (server_in_range (length state.case.wants)) state.servers ≡ true

pub facts-of : (state : State) → state_rule state ≡ true → RuleFacts state
facts-of state h =
    record {
      long = grind (arith, nat_tests, h);
      some = grind (arith, nat_tests, h);
      few = grind (arith, nat_tests, h);
      room = grind (arith, nat_tests, h);
      range = and-right _ _ h;
    }

eq-is : (a b : ℕ) → a ≡ b → (a == b) ≡ true
eq-is a b h = grind (arith, nat_tests, h)

le-is : (a b : ℕ) → a ≤ b → nat_le a b ≡ true
le-is a b h = grind (arith, nat_tests, h)

pub rule-of : (state : State) → RuleFacts state → state_rule state ≡ true
rule-of state f =
    both _ _ (both _ _ (both _ _ (both _ _ (eq-is (length state.servers) (length state.case.places) f.long) (le-is 1 state.at_once f.some))
    (le-is state.at_once 64 f.few)) (le-is (in_flight state) state.at_once f.room)) f.range

pub all-set : {X : Type 0} (p : X → Bool) (xs : List X) (i : ℕ) (y : X) → list_all p xs ≡ true → p y ≡ true → list_all p (set xs i y) ≡ true
all-set p [] i y h k = refl
all-set p (x ∷ xs) zero y h k = both (p y) (list_all p xs) k (and-right (p x) (list_all p xs) h)
all-set p (x ∷ xs) (suc i) y h k = both (p x) (list_all p (set xs i y)) (and-left (p x) (list_all p xs) h) (all-set p xs i y (and-right (p x) (list_all p xs) h) k)

-- one server is changed within its range, and no more are in flight than may be
pub with_server-rule : (state : State) (s : ℕ) (new : Server) → RuleFacts state → server_in_range (length state.case.wants) new ≡ true
    → in_flight (with_server state s new) ≤ state.at_once → RuleFacts (with_server state s new)
with_server-rule state s new f range room =
    record {
      long = length-set state.servers s new ∙ f.long;
      some = f.some;
      few = f.few;
      room = room;
      range = all-set (server_in_range (length state.case.wants)) state.servers s new f.range range;
    }

-- a server of the state is within its range
pub at-range : (state : State) (s : ℕ) → RuleFacts state → s < length state.servers → server_in_range (length state.case.wants) (server_of state s) ≡ true
at-range state s f within = list_all-at (server_in_range (length state.case.wants)) state.servers s no_server within f.range

stand-range : (n : ℕ) (server : Server) → server_in_range n server ≡ true → stand_in_range n server.stand ≡ true
stand-range n server h = and-left _ _ h

target-range : (n : ℕ) (server : Server) → server_in_range n server ≡ true → option_map_or (λ r. nat_lt r n) server.target true ≡ true
target-range n server h = and-right (stand_in_range n server.stand) _ h

restand-range : (n : ℕ) (server : Server) (stand : Stand) → server_in_range n server ≡ true → stand_in_range n stand ≡ true
    → server_in_range n (record server { stand = stand }) ≡ true
restand-range n server stand h k = both (stand_in_range n stand) (option_map_or (λ r. nat_lt r n) server.target true) k (target-range n server h)

pub command-range : (state : State) (s : ℕ) (command : Command) → RuleFacts state → s < length state.servers → IsGiven state s command
    → RuleFacts (after_command state command)
command-range state s command f within given =
    let here = at-range state s f within in
    let one = command-flight state s command within given in
    let room : in_flight (after_command state command) ≤ state.at_once = omega (arith, one, given.room) in
    elim (given.why) [
      | inl (p, (free, aims, is)) ↦
          let target : nat_lt p (length state.case.wants) ≡ true =
          sym (ap (λ o. option_map_or (λ r. nat_lt r (length state.case.wants)) o true) aims) ∙ target-range (length state.case.wants) (server_of state s) here in
          let less : in_flight (with_stand state s (Joining p)) ≤ state.at_once = subst (λ (c : Command). in_flight (after_command state c) ≤ state.at_once) is room in
          subst (λ (c : Command). RuleFacts (after_command state c)) (sym is)
          (with_server-rule state s _ f (restand-range (length state.case.wants) (server_of state s) (Joining p) here target) less)
      | inr (q, (bound, aims, spare, is)) ↦
          let stands : stand_in_range (length state.case.wants) (drained_stand (server_of state s).stand) ≡ true =
          ap (λ stand. stand_in_range (length state.case.wants) (drained_stand stand)) bound
          ∙ sym (ap (stand_in_range (length state.case.wants)) bound) ∙ stand-range (length state.case.wants) (server_of state s) here in
          let less : in_flight (with_stand state s (drained_stand (server_of state s).stand)) ≤ state.at_once = subst (λ (c : Command). in_flight (after_command state c) ≤ state.at_once) is room in
          subst (λ (c : Command). RuleFacts (after_command state c)) (sym is)
          (with_server-rule state s _ f (restand-range (length state.case.wants) (server_of state s) (drained_stand (server_of state s).stand) here stands) less)
    ]

pub gives-rule : (state after : State) (commands : List Command) → RuleFacts state → Gives state commands after → RuleFacts after
gives-rule state after [] f h = subst (λ (t : State). RuleFacts t) (sym h) f
gives-rule state after (command ∷ rest) f h =
    let given = least-given state command h.0 in
    gives-rule (after_command state command) after rest (command-range state given.0 command f given.1.0 given.1.1) h.1
