use Rattle.std.proofs.Common.{◌≡◌, ◌∙◌, ℕ, List, subst}
use Rattle.ras_table.specs.Answers.{Gives}
use Rattle.ras_table.specs.Records.{records_of}
use Rattle.ras_inventory.specs.RegionRule.{server_names}
use Rattle.online_mover.specs.declared.timed.Timed.{Timed}
use Rattle.online_mover.specs.EventFiles.{told, events_in}
use Rattle.online_mover.proofs.EventsWithin.{gives-within}
use Rattle.online_mover.proofs.events.read_events.Goals as goal

pub returns-clause-there : goal.returns-clause-there
returns-clause-there c =
    let all : c.as_slice.result.now ≡ records_of c.args.bytes.now = c.as_slice.ensures.items ∙ c.in-Ok.ensures in
    gives-within c.args.region.now.servers c.args.bytes.now c.events_in.result
    (subst (λ (records : List (List (List ℕ))). Gives (λ (events : List Timed). events) told c.events_in.result (events_in (server_names c.args.region.now.servers) records)) all c.events_in.ensures)
