-- The next round of a run, by its parts.
use Rattle.std.proofs.Common.{◌≡◌, ℕ, ◌∙◌, Bool, List, [], ◌++◌, length, append_assoc, ap, sym, Ok}
use Rattle.std.proofs.lemmas.List.{length-map}
use Rattle.ras_inventory.specs.declared.region.Region.{Region}
use Rattle.ras_inventory.specs.declared.server.Server.{Server}
use Rattle.ras_inventory.specs.RegionRule.{server_names}
use Rattle.ras_requests.specs.declared.all.Requests.{Requests}
use Rattle.ras_requests.specs.declared.requests.Reservation.{Reservation}
use Rattle.ras_requests.specs.RequestsRule.{reservation_names}
use Rattle.plan_model.specs.declared.cases.Case.{Case}
use Rattle.plan_document.specs.declared.document.Document.{Document}
use Rattle.plan_document.specs.Documents.{document_of, seen_document}
use Rattle.plan_document.specs.Writable.{CanBeWritten}
use Rattle.plan_checker.specs.Solution.{IsSolution}
use Rattle.ras_rounds.specs.Rounds.{region_classes}
use Rattle.plan_checker.specs.Target.{target_of}
use Rattle.rounds_text.specs.Rounds.{AddsMoves, Agenda, IsRound, round_line, text_of}

-- the document of a case can be written over the names of its region and its requests
pub can-write : (region : Region) (requests : Requests) (case : Case) (gap nodes racks : ℕ) (document : Document) → IsSolution case gap nodes racks document
    → length case.places ≡ length region.servers → length case.wants ≡ length requests.list → CanBeWritten (server_names region.servers) (reservation_names requests.list) document
can-write region requests case gap nodes racks document is servers reservations =
    is.writable (server_names region.servers) (reservation_names requests.list)
    (length-map region.servers (λ (s : Server). s.name) ∙ sym servers) (length-map requests.list (λ (r : Reservation). r.name) ∙ sym reservations)

-- the text of a round grew by its three parts
pub is-round : (agenda : Agenda) (number : ℕ) (case next : Case) (document : Document) (moved : Bool) (classes : ℕ) (empty lined written text : List ℕ)
    → IsSolution case agenda.options.gap agenda.options.nodes agenda.options.racks document
    → document_of agenda.servers agenda.reservations (text_of agenda document) ≡ Ok (seen_document document)
    → empty ≡ [] → lined ≡ empty ++ round_line number classes → classes ≡ length (region_classes case) → written ≡ lined ++ text_of agenda document
    → (adds : AddsMoves agenda number case (target_of document) written text next moved)
    → IsRound agenda number case (record { document = document; text = text; after = adds.left })
is-round agenda number case next document moved classes empty lined written text solution again none line many whole adds =
    let one : lined ≡ round_line number (length (region_classes case)) =
    line ∙ ap (λ (xs : List ℕ). xs ++ round_line number classes) none ∙ ap (round_line number) many in
    record {
      solution = solution;
      again = again;
      moves = adds.moves;
      text = adds.grown ∙ ap (λ (xs : List ℕ). xs ++ adds.moves) (whole ∙ ap (λ (xs : List ℕ). xs ++ text_of agenda document) one)
          ∙ append_assoc (round_line number (length (region_classes case))) (text_of agenda document) adds.moves;
      goes = adds.goes;
    }
