use Rattle.std.proofs.Common.{◌≡◌, ◌<◌, ◌≤◌, length, sym, ap, ◌∙◌, arith, below_more}
use Rattle.online_mover.specs.States.{State, in_flight}
use Rattle.online_mover.specs.Commands.{command_of}
use Rattle.online_mover.proofs.Given.{first-here}
use Rattle.online_mover.proofs.NextCommands.{none-first, full-none}
use Rattle.online_mover.proofs.mover.Mover.least_command.Goals as goal

pub returns-then-in_flight-self-clause-least : goal.returns-then-in_flight-self-clause-least
returns-then-in_flight-self-clause-least c =
    let full : c.args.self.now.at_once ≤ in_flight c.args.self.now = omega (arith, c.if-in_flight-self.true, c.in_flight.ensures.count, ap (λ (t : State). t.at_once) c.self.view_is) in
    sym (full-none c.args.self.now full)

pub loop-server-init : goal.loop-server-init
loop-server-init c = c.requires

pub returns-clause-least : goal.returns-clause-least
returns-clause-least c =
    let inside : length c.self.inside.servers ≡ length c.args.self.now.servers = ap (λ (t : State). length t.servers) c.self.view_is in
    let past : length c.args.self.now.servers ≤ c.loop-server.server = omega (arith, c.loop-server-test.false, c.len-server-end.ensures, inside) in
    sym (none-first (command_of c.args.self.now) (length c.args.self.now.servers) (λ t lt. c.loop-server.invariant t (omega (arith, lt, past))))

pub returns-in-Some-clause-least : goal.returns-in-Some-clause-least
returns-in-Some-clause-least c =
    let inside : length c.self.inside.servers ≡ length c.args.self.now.servers = ap (λ (t : State). length t.servers) c.self.view_is in
    let within : c.loop-server.server < length c.args.self.now.servers = omega (arith, c.loop-server-test.true, c.len-server-end.ensures, inside) in
    sym (first-here (command_of c.args.self.now) (length c.args.self.now.servers) c.loop-server.server c.in-Some.command within
    (none-first (command_of c.args.self.now) c.loop-server.server c.loop-server.invariant)
    (sym c.command_of.ensures ∙ c.in-Some.is))

pub loop-server-preserved : goal.loop-server-preserved
loop-server-preserved c = below_more _ _ c.loop-server.invariant (sym c.command_of.ensures ∙ c.in_default.is)
