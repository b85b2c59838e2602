use Rattle.std.proofs.Common.{◌≡◌, ◌∙◌, ℕ, List, subst}
use Rattle.ras_table.specs.Answers.{Gives}
use Rattle.ras_table.specs.Records.{records_of}
use Rattle.ras_inventory.specs.RegionRule.{server_names}
use Rattle.ras_rounds.specs.declared.entries.Entry.{Entry}
use Rattle.ras_rounds.specs.Scripts.{told, script_in}
use Rattle.ras_rounds.proofs.ScriptWithin.{gives-within}
use Rattle.ras_rounds.proofs.script.read_script.Goals as goal

pub returns-clause-there : goal.returns-clause-there
returns-clause-there c =
    let all : c.as_slice.result.now ≡ records_of c.args.bytes.now = c.as_slice.ensures.items ∙ c.in-Ok.ensures in
    gives-within c.args.region.now.servers c.args.bytes.now c.script_in.result
    (subst (λ (records : List (List (List ℕ))). Gives (λ (entries : List Entry). entries) told c.script_in.result (script_in (server_names c.args.region.now.servers) records)) all c.script_in.ensures)
