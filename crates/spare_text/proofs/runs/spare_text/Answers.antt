use Rattle.std.proofs.Common.{◌≡◌, subst}
use Rattle.std.specs.Prelude.{IfOk}
use Rattle.ras_inventory.specs.RegionRule.{server_names}
use Rattle.ras_requests.specs.RequestsRule.{reservation_names}
use Rattle.spare_pool.specs.States.{State}
use Rattle.spare_text.specs.Texts.{IsSpareText}
use Rattle.spare_text.proofs.runs.spare_text.Goals as goal

pub returns : goal.returns
returns c =
    subst (λ (state : State). IfOk c.run_text.result (λ text. IsSpareText (server_names c.args.region.now.servers) (reservation_names c.args.requests.now.list) state c.args.failures.now text.items))
    c.in_ok-pool.ensures.start c.run_text.ensures
