-- A change of one server that keeps the rule of a state.
use Rattle.std.specs.Prelude.{◌≡◌, ◌<◌, ℕ, true, Option, Some, None}
use Rattle.online_mover.specs.declared.stands.Command.{Command}
use Rattle.online_mover.specs.declared.stands.Command.TheVariants.{Drain, Bind}
use Rattle.online_mover.specs.Commands.{command_of}
use Rattle.online_mover.specs.declared.stands.Server.{Server}
use Rattle.online_mover.specs.States.{State, state_rule, with_server}

abbrev pub ChangeKeepsRule : State → ℕ → Option Server → Type 0
ChangeKeepsRule state s change = (new : Server) → change ≡ Some new → state_rule (with_server state s new) ≡ true

-- the server that a command is for
abbrev pub commanded : Command → ℕ
commanded (Drain s) = s
commanded (Bind s r) = s

-- no server below a number has a lawful command
abbrev pub NoneBelow : State → ℕ → Type 0
NoneBelow state from = (s : ℕ) → s < from → command_of state s ≡ None
