-- Which events are lawful, and what each of them changes.
use Rattle.std.specs.Prelude.{ℕ, Bool, true, false, if◌then◌else◌, map, length, nat_lt, Option, Some, None}
use Rattle.std.specs.Option.{option_map}
use Rattle.plan_model.specs.declared.cases.Holder.TheVariants.{Held}
use Rattle.online_mover.specs.declared.stands.Stand.{Stand}
use Rattle.online_mover.specs.declared.stands.Stand.TheVariants.{Free, Joining, Bound, Draining}
use Rattle.online_mover.specs.declared.stands.Server.{Server}
use Rattle.online_mover.specs.declared.stands.Event.{Event}
use Rattle.online_mover.specs.declared.stands.Event.TheVariants.{Tick, Drained, Refused, Joined, JoinFailed, Down, Up}
use Rattle.online_mover.specs.States.{State, server_of, with_server, bound_for}
use Rattle.plan_model.specs.Units.{is_for}

-- the server after an event that is lawful for it, by its stand
abbrev pub after_drained : Server → Stand → Option Server
after_drained server (Draining q) = Some (record server { stand = Free })
after_drained server Free = None
after_drained server (Joining r) = None
after_drained server (Bound q) = None

abbrev pub after_refused : Server → Stand → Option Server
after_refused server (Draining q) = Some (record server { stand = Bound q; waits = true })
after_refused server Free = None
after_refused server (Joining r) = None
after_refused server (Bound q) = None

abbrev pub after_joined : Server → Stand → Option Server
after_joined server (Joining r) = Some (record server { stand = Bound (Held r) })
after_joined server Free = None
after_joined server (Bound q) = None
after_joined server (Draining q) = None

abbrev pub after_join_failed : Server → Stand → Option Server
after_join_failed server (Joining r) = Some (record server { stand = Free; waits = true })
after_join_failed server Free = None
after_join_failed server (Bound q) = None
after_join_failed server (Draining q) = None

abbrev pub after_down : Server → Option Server
after_down server = if server.up then Some (record server { up = false }) else None

abbrev pub after_up : Server → Option Server
after_up server = if server.up then None else Some (record server { up = true })

abbrev pub after_tick : Server → Server
after_tick server = record server { waits = false }

-- the state after an event, none where the event is not lawful
abbrev pub after_event : State → Event → Option State
after_event state Tick = Some (record { case = state.case; at_once = state.at_once; servers = map after_tick state.servers })
after_event state (Drained s) = option_map (with_server state s) (after_drained (server_of state s) (server_of state s).stand)
after_event state (Refused s) = option_map (with_server state s) (after_refused (server_of state s) (server_of state s).stand)
after_event state (Joined s) = option_map (with_server state s) (after_joined (server_of state s) (server_of state s).stand)
after_event state (JoinFailed s) = option_map (with_server state s) (after_join_failed (server_of state s) (server_of state s).stand)
after_event state (Down s) = option_map (with_server state s) (after_down (server_of state s))
after_event state (Up s) = option_map (with_server state s) (after_up (server_of state s))

-- whether an event is a lawful going down of a server that is bound to r
abbrev pub is_loss : State → Event → ℕ → Bool
is_loss state (Down s) r = if (server_of state s).up then is_for r (bound_for (server_of state s).stand) else false
is_loss state Tick r = false
is_loss state (Drained s) r = false
is_loss state (Refused s) r = false
is_loss state (Joined s) r = false
is_loss state (JoinFailed s) r = false
is_loss state (Up s) r = false

-- the event's server, where it has one, is below a number of servers
abbrev pub event_within : ℕ → Event → Bool
event_within servers Tick = true
event_within servers (Drained s) = nat_lt s servers
event_within servers (Refused s) = nat_lt s servers
event_within servers (Joined s) = nat_lt s servers
event_within servers (JoinFailed s) = nat_lt s servers
event_within servers (Down s) = nat_lt s servers
event_within servers (Up s) = nat_lt s servers

-- the event's server is in the case
abbrev pub event_in_case : State → Event → Bool
event_in_case state event = event_within (length state.servers) event
