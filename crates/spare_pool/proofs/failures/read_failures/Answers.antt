use Rattle.std.proofs.Common.{◌≡◌, ◌∙◌, ℕ, List, subst}
use Rattle.ras_table.specs.Answers.{Gives}
use Rattle.ras_table.specs.Records.{records_of}
use Rattle.ras_inventory.specs.RegionRule.{server_names}
use Rattle.spare_pool.specs.declared.failure.Failure.{Failure}
use Rattle.spare_pool.specs.FailureFiles.{told, failures_in}
use Rattle.spare_pool.proofs.FailuresWithin.{gives-within}
use Rattle.spare_pool.proofs.failures.read_failures.Goals as goal

pub returns-clause-there : goal.returns-clause-there
returns-clause-there c =
    let all : c.as_slice.result.now ≡ records_of c.args.bytes.now = c.as_slice.ensures.items ∙ c.in-Ok.ensures in
    gives-within c.args.region.now.servers c.args.bytes.now c.failures_in.result
    (subst (λ (records : List (List (List ℕ))). Gives (λ (failures : List Failure). failures) told c.failures_in.result (failures_in (server_names c.args.region.now.servers) records)) all c.failures_in.ensures)
