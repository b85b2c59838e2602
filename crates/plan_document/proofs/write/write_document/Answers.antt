use Rattle.std.proofs.Common.{arith, ◌≡◌, ◌∙◌, ◌++◌, ◌∷◌, ◌≤◌, [], List, ℕ, IfOk, Some, sym, ap, subst}
use Rattle.std.specs.Prelude.{Result, Ok, Err}
use Rattle.serde_json.specs.Data.{depth}
use Rattle.serde_json.specs.View.{view}
use Rattle.serde_json.specs.Written.{has_float, compact_text}
use Rattle.ras_inventory.specs.RegionRule.{server_names}
use Rattle.ras_requests.specs.RequestsRule.{reservation_names}
use Rattle.plan_document.specs.Documents.{SeenDocument, seen_document, document_of}
use Rattle.plan_document.specs.Written.{document_data}
use Rattle.plan_document.specs.declared.fault.DocFault.{DocFault}
use Rattle.plan_document.proofs.Depths.{document-deep}
use Rattle.plan_document.proofs.WrittenLemmas.{document-none}
use Rattle.plan_document.proofs.NamesLaw.{servers-differ, reservations-differ}
use Rattle.plan_document.proofs.WholeLaw.{text-again}
use Rattle.plan_document.proofs.write.write_document.Goals as goal

if-ok-same : {E : Type 0} (r : Result (List ℕ) E) (s : List ℕ) (P : List ℕ → Type 0) → IfOk r (λ t. t ≡ s) → P s → IfOk r P
if-ok-same (Ok t) s P same h = subst P (sym same) h
if-ok-same (Err e) s P same h = tt

pub returns-clause-is : goal.returns-clause-is
returns-clause-is c =
    let servers : List (List ℕ) = server_names c.args.region.now.servers in
    let reservations : List (List ℕ) = reservation_names c.args.requests.now.list in
    let none = ap has_float c.in_ok-value.ensures ∙ document-none servers reservations (seen_document c.args.document.now) in
    let text = c.in_ok-bytes.ensures.text none ∙ ap compact_text c.in_ok-value.ensures in
    subst (λ (z : List ℕ). IfOk c.listed.result (λ (t : List ℕ). t ≡ z))
    (c.in_ok-push.ensures.items ∙ ap (λ (bs : List ℕ). bs ++ 10 ∷ []) text) c.listed.ensures

pub returns-clause-again : goal.returns-clause-again
returns-clause-again c = λ can.
    let servers : List (List ℕ) = server_names c.args.region.now.servers in
    let reservations : List (List ℕ) = reservation_names c.args.requests.now.list in
    let d = seen_document c.args.document.now in
    let value = document_data servers reservations d in
    let none = ap has_float c.in_ok-value.ensures ∙ document-none servers reservations d in
    let text = c.in_ok-bytes.ensures.text none ∙ ap compact_text c.in_ok-value.ensures in
    let shallow : depth (view c.in_ok-value.value) ≤ 127 = omega (arith, ap depth c.in_ok-value.ensures, document-deep servers reservations d) in
    let is = c.in_ok-bytes.ensures.reads_back shallow ∙ ap Some c.in_ok-value.ensures in
    let law = text-again servers reservations (servers-differ c.args.region.now) (reservations-differ c.args.requests.now) c.args.document.now can
    c.in_ok-bytes.bytes.items text c.in_ok-bytes.ensures.utf8 c.in_ok-bytes.ensures.compact is in
    let reads : List ℕ → Type 0 = λ t. ◌≡◌ {A = Result SeenDocument DocFault} (document_of servers reservations t) (Ok d) in
    if-ok-same c.listed.result c.push.new.self.items reads c.listed.ensures (subst reads (sym c.in_ok-push.ensures.items) law)
