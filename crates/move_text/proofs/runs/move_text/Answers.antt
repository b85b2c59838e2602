use Rattle.std.proofs.Common.{◌≡◌, subst}
use Rattle.std.specs.Prelude.{IfOk}
use Rattle.ras_inventory.specs.RegionRule.{server_names}
use Rattle.ras_requests.specs.RequestsRule.{reservation_names}
use Rattle.online_mover.specs.States.{State}
use Rattle.move_text.specs.Texts.{IsMoveText}
use Rattle.move_text.proofs.RunFacts.{text-only}
use Rattle.move_text.proofs.runs.move_text.Goals as goal

pub returns : goal.returns
returns c =
    subst (λ (state : State). IfOk c.run_text.result (λ text. IsMoveText (server_names c.args.region.now.servers) (reservation_names c.args.requests.now.list) state c.args.events.now text.items))
    c.in_ok-mover.ensures
    (text-only (server_names c.args.region.now.servers) (reservation_names c.args.requests.now.list) c.in_ok-mover.mover c.run_text.new.mover c.args.events.now c.run_text.result c.run_text.ensures)
