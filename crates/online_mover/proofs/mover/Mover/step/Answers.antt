use Rattle.std.proofs.Common.{◌≡◌, ◌-◌, ◌+◌, ◌<◌, ℕ, sym, subst, ap, ◌∙◌, arith, List, Some}
use Rattle.online_mover.specs.declared.stands.Command.{Command}
use Rattle.online_mover.specs.States.{State, in_flight}
use Rattle.online_mover.specs.Commands.{after_command, least_command}
use Rattle.online_mover.specs.Changes.{NoneBelow, commanded}
use Rattle.online_mover.specs.Steps.{Gives}
use Rattle.online_mover.proofs.GivenFacts.{gives-more, room-more, room-less}
use Rattle.online_mover.proofs.NextCommands.{next-below, commanded-within}
use Rattle.online_mover.proofs.PutFacts.{few-servers}
use Rattle.online_mover.proofs.mover.Mover.step.Goals as goal

pub least_command-requires : goal.least_command-requires
least_command-requires c = c.loop-command.invariant.1

pub put-requires : goal.put-requires
put-requires c =
    room-more c.take.new.self c.loop-command.self c.loop-command.out c.in-Some.command c.loop-command.invariant.0 c.least_command.ensures.rule (sym c.least_command.ensures.least ∙ c.in-Some.is)

pub overflow_add-from : goal.overflow_add-from
overflow_add-from c =
    omega (
      arith,
      c.server_of_command-from.ensures,
      commanded-within c.loop-command.self c.in-Some.command (sym c.least_command.ensures.least ∙ c.in-Some.is),
      few-servers c.loop-command.self c.least_command.ensures.rule,
    )

pub loop-command-smaller : goal.loop-command-smaller
loop-command-smaller c =
    subst (λ (t : State). t.at_once - in_flight t < c.loop-command.self.at_once - in_flight c.loop-command.self) (sym c.carry_out.ensures)
    (room-less c.loop-command.self c.in-Some.command (sym c.least_command.ensures.least ∙ c.in-Some.is))

pub loop-command-preserved : goal.loop-command-preserved
loop-command-preserved c =
    let least : least_command c.loop-command.self ≡ Some c.in-Some.command = sym c.least_command.ensures.least ∙ c.in-Some.is in
    let next : commanded c.in-Some.command + 1 ≡ c.server_of_command-from.result + 1 = ap (λ n. n + 1) (sym c.server_of_command-from.ensures) in (
      subst (λ (t : State). Gives c.take.new.self c.put.new.self t) (sym c.carry_out.ensures)
          (subst (λ (commands : List Command). Gives c.take.new.self commands (after_command c.loop-command.self c.in-Some.command)) (sym c.put.ensures)
          (gives-more c.take.new.self c.loop-command.self c.loop-command.out c.in-Some.command c.loop-command.invariant.0 least)),
      subst (λ (t : State). NoneBelow t (c.server_of_command-from.result + 1)) (sym c.carry_out.ensures)
          (subst (λ (n : ℕ). NoneBelow (after_command c.loop-command.self c.in-Some.command) n) next (next-below c.loop-command.self c.in-Some.command least)),
    )
