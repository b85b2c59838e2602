-- A joined case has as many places as the region has servers, and as many reservations as the requests have.
use Rattle.std.proofs.Common.{◌≡◌, ◌∙◌, sym, ap, List, length, min, arith}
use Rattle.std.specs.Prelude.{zip}
use Rattle.std.proofs.lemmas.List.{length-map}
use Rattle.std.proofs.lemmas.Slice.Zip.{length-zip}
use Rattle.ras_inventory.specs.declared.region.Region.{Region}
use Rattle.ras_inventory.specs.declared.bindings.Bindings.{Bindings}
use Rattle.ras_inventory.specs.RegionRule.{server_names}
use Rattle.ras_requests.specs.declared.all.Requests.{Requests}
use Rattle.ras_requests.specs.RequestsRule.{reservation_names}
use Rattle.plan_model.specs.declared.cases.Case.{Case}
use Rattle.plan_model.specs.Joined.{IsJoined, joined_place, joined_want}

-- as many pairs as items, where both lists have as many
zip-many : {A B : Type 0} (xs : List A) (ys : List B) → length ys ≡ length xs → length (zip xs ys) ≡ length xs
zip-many xs ys same =
    let short : min (length xs) (length ys) ≡ length xs = omega arith in
    length-zip xs ys ∙ short

pub places-many : (region : Region) (requests : Requests) (bindings : Bindings) (case : Case) → length bindings.of ≡ length region.servers → IsJoined region requests bindings case
    → length (server_names region.servers) ≡ length case.places
places-many region requests bindings case same joined =
    let names = length-map region.servers (λ s. s.name) in
    let pairs = length-map (zip region.servers bindings.of) (joined_place requests.list) ∙ zip-many region.servers bindings.of same in
    names ∙ sym (ap (λ l. length l) joined.places ∙ pairs)

pub wants-many : (region : Region) (requests : Requests) (bindings : Bindings) (case : Case) → IsJoined region requests bindings case
    → length (reservation_names requests.list) ≡ length case.wants
wants-many region requests bindings case joined =
    length-map requests.list (λ r. r.name) ∙ sym (ap (λ l. length l) joined.wants ∙ length-map requests.list (joined_want region.types region.centers))

-- as many places as the region has servers
pub servers-many : (region : Region) (requests : Requests) (bindings : Bindings) (case : Case) → length bindings.of ≡ length region.servers → IsJoined region requests bindings case
    → length case.places ≡ length region.servers
servers-many region requests bindings case same joined = sym (places-many region requests bindings case same joined) ∙ length-map region.servers (λ s. s.name)
