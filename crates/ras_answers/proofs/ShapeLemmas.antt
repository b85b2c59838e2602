-- What was read as a document has the shape that the checker asks for, in a case with these servers and reservations.
use Rattle.std.proofs.Common.{ℕ, ◌≡◌, List, length, Option, Some, None, Ok}
use Rattle.serde_json.specs.Data.{Data}
use Rattle.csv.specs.Reading.{strip_bom}
use Rattle.plan_model.specs.declared.cases.Case.{Case}
use Rattle.plan_document.specs.Documents.{document_of, json_of, of_value, seen_document}
use Rattle.plan_document.specs.declared.document.Document.{Document}
use Rattle.plan_document.proofs.TopInverse.{can-be-written, document-read}
use Rattle.plan_checker.specs.Shape.{HasShape}
use Rattle.plan_checker.proofs.Written.{written-has_shape}

-- what was read can be written, and so has the shape
pub shape-read : (case : Case) (servers reservations : List (List ℕ)) → length servers ≡ length case.places → length reservations ≡ length case.wants
    → (bytes : List ℕ) (document : Document) → document_of servers reservations bytes ≡ Ok (seen_document document) → HasShape case document
shape-read case servers reservations places wants bytes document h = go (json_of (strip_bom bytes)) h
  where
    go : (o : Option Data) → of_value servers reservations o ≡ Ok (seen_document document) → HasShape case document
    go None k = absurd cc
    go (Some d) k = written-has_shape case servers reservations document places wants (can-be-written servers reservations document (document-read servers reservations d (seen_document document) k))
