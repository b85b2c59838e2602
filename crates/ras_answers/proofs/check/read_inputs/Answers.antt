use Rattle.ras_inventory.specs.RegionRule.{server_names}
use Rattle.ras_requests.specs.RequestsRule.{reservation_names}
use Rattle.plan_document.specs.Documents.{seen_document, document_of}
use Rattle.ras_answers.specs.Inputs.{document_line}
use Rattle.ras_answers.proofs.InputLemmas.{read-ok, document-note, files-note}
use Rattle.ras_answers.proofs.check.read_inputs.Goals as goal

pub returns-in-Ok-document_in-clause-inputs : goal.returns-in-Ok-document_in-clause-inputs
returns-in-Ok-document_in-clause-inputs c = record {
  files = c.in-Ok.ensures.files;
  document_is = read-ok document_line (document_of (server_names c.in-Ok.files.region.servers) (reservation_names c.in-Ok.files.requests.list) c.args.plan.now)
      (seen_document c.in-Ok-document_in.document) c.in-Ok-document_in.ensures;
}

pub returns-in-Err-document_in-clause-inputs : goal.returns-in-Err-document_in-clause-inputs
returns-in-Err-document_in-clause-inputs c =
    document-note c.in-Err-document_in.fault c.args.inventory.now c.args.requests.now c.args.bindings.now c.args.plan.now c.in-Ok.files c.in-Ok.ensures.files c.in-Err-document_in.ensures

pub returns-in-Err-clause-inputs : goal.returns-in-Err-clause-inputs
returns-in-Err-clause-inputs c =
    files-note c.in-Err.fault c.args.inventory.now c.args.requests.now c.args.bindings.now c.args.plan.now c.in-Err.ensures.files
