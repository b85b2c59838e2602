use Rattle.std.proofs.Common.{◌≡◌, true, List, length, subst, sym}
use Rattle.std.specs.List.{list_all}
use Rattle.ras_inventory.specs.RegionRule.{server_names}
use Rattle.ras_requests.specs.RequestsRule.{reservation_names}
use Rattle.online_mover.specs.declared.timed.Timed.{Timed}
use Rattle.online_mover.specs.Events.{event_within}
use Rattle.online_mover.specs.States.{State}
use Rattle.move_text.specs.Texts.{IsMoveTextTo}
use Rattle.rounds_text.specs.Scripts.{events_of}
use Rattle.rounds_text.proofs.EventFacts.{round-there}
use Rattle.rounds_text.proofs.StartFacts.{after-servers, can-be-carried}
use Rattle.rounds_text.proofs.moves.move_on.Goals as goal

pub run_text-requires-clause-there : goal.run_text-requires-clause-there
run_text-requires-clause-there c =
    subst (λ (events : List Timed). list_all (λ (timed : Timed). event_within (length c.args.region.now.servers) timed.event) events ≡ true) (sym c.in_ok-events.ensures)
    (round-there (length c.args.region.now.servers) c.args.number c.args.entries.now c.requires.there)

pub carry-requires-clause-servers : goal.carry-requires-clause-servers
carry-requires-clause-servers c =
    (can-be-carried (server_names c.args.region.now.servers) (reservation_names c.args.requests.now.list) c.args.case.now c.args.target.now c.args.options.at_once c.in_ok-mover.mover
    c.run_text.new.mover c.in_ok-events.events c.in_ok-text.text.items c.in_ok-mover.ensures c.requires.fitting c.in_ok-text.ensures).servers

pub carry-requires-clause-reservations : goal.carry-requires-clause-reservations
carry-requires-clause-reservations c =
    (can-be-carried (server_names c.args.region.now.servers) (reservation_names c.args.requests.now.list) c.args.case.now c.args.target.now c.args.options.at_once c.in_ok-mover.mover
    c.run_text.new.mover c.in_ok-events.events c.in_ok-text.text.items c.in_ok-mover.ensures c.requires.fitting c.in_ok-text.ensures).reservations

pub returns-clause-moved : goal.returns-clause-moved
returns-clause-moved c =
    let servers = server_names c.args.region.now.servers in
    let reservations = reservation_names c.args.requests.now.list in
    record {
      end = c.run_text.new.mover;
      is_text = subst (λ (start : State). IsMoveTextTo servers reservations start (events_of c.args.number c.args.entries.now) c.in_ok-text.text.items c.run_text.new.mover) c.in_ok-mover.ensures
          (subst (λ (events : List Timed). IsMoveTextTo servers reservations c.in_ok-mover.mover events c.in_ok-text.text.items c.run_text.new.mover) c.in_ok-events.ensures c.in_ok-text.ensures);
      is_after = c.in_ok-carry.ensures.after;
    }

pub returns-clause-servers : goal.returns-clause-servers
returns-clause-servers c =
    after-servers c.args.case.now c.run_text.new.mover c.carry.new.case c.in_ok-carry.ensures.after
    ((can-be-carried (server_names c.args.region.now.servers) (reservation_names c.args.requests.now.list) c.args.case.now c.args.target.now c.args.options.at_once c.in_ok-mover.mover
    c.run_text.new.mover c.in_ok-events.events c.in_ok-text.text.items c.in_ok-mover.ensures c.requires.fitting c.in_ok-text.ensures).servers)
