use Rattle.ras_inventory.specs.RegionRule.{server_names}
use Rattle.ras_rounds.specs.Scripts.{script_of}
use Rattle.ras_answers.specs.Inputs.{script_line}
use Rattle.ras_answers.proofs.InputLemmas.{read-ok}
use Rattle.ras_answers.proofs.RoundsLemmas.{case-note, script-note}
use Rattle.ras_answers.proofs.rounds.read_rounds.Goals as goal

pub returns-in-Ok-script_in-clause-files : goal.returns-in-Ok-script_in-clause-files
returns-in-Ok-script_in-clause-files c = record {
  files = c.in-Ok.ensures.files;
  script_is = read-ok script_line (script_of (server_names c.in-Ok.files.region.servers) c.args.script.now) c.in-Ok-script_in.entries c.in-Ok-script_in.ensures.entries;
}

pub returns-in-Err-script_in-clause-files : goal.returns-in-Err-script_in-clause-files
returns-in-Err-script_in-clause-files c =
    script-note c.in-Err-script_in.fault c.args.inventory.now c.args.requests.now c.args.bindings.now c.args.script.now c.in-Ok.files c.in-Ok.ensures.files c.in-Err-script_in.ensures.entries

pub returns-in-Err-clause-files : goal.returns-in-Err-clause-files
returns-in-Err-clause-files c =
    case-note c.in-Err.fault c.args.inventory.now c.args.requests.now c.args.bindings.now c.args.script.now c.in-Err.ensures.files
