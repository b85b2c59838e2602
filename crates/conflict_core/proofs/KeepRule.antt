-- Requests keep their rule where only some reservations are kept.
use Rattle.std.proofs.Common.{◌≡◌, ℕ, zero, suc, ◌<◌, ◌≤◌, Bool, true, false, List, [], ◌∷◌, length, get_or, arith, ap, sym, ◌∙◌, refl}
use Rattle.std.specs.Prelude.{nat_le, not, ◌||◌, IsTrue}
use Rattle.std.specs.List.{list_all, list_any}
use Rattle.std.specs.Str.{bytes_eq}
use Rattle.std.proofs.lemmas.Bool.Decides.{nat_tests}
use Rattle.std.proofs.lemmas.List.{length-map, get_or-map}
use Rattle.std.proofs.lemmas.List.Folds.{list_all-map}
use Rattle.std.proofs.lemmas.List.Elements.{All-get_or}
use Rattle.ras_table.specs.Names.{names_differ}
use Rattle.ras_requests.specs.declared.requests.Reservation.{Reservation}
use Rattle.ras_requests.specs.declared.all.Requests.{Requests}
use Rattle.ras_requests.specs.RequestsRule.{requests_rule, reservation_names, reservation_rule}
use Rattle.plan_model.proofs.CaseFacts.{list_all-at, and-left, and-right}
use Rattle.plan_model.proofs.JoinLemmas.{differ-at}
use Rattle.plan_model.proofs.JoinRule.{both}
use Rattle.conflict_core.specs.Kept.{rises, AreMembers, kept_list, reservation_of, no_reservation}
use Rattle.conflict_core.proofs.Members.{rises-at}

neither : (a b : Bool) → a ≡ false → b ≡ false → (a || b) ≡ false
neither true b e h = e
neither false b e h = h

at-least : (members : List ℕ) (i : ℕ) → rises members ≡ true → i < length members → i ≤ get_or members i 0
at-least members zero h within = omega arith
at-least members (suc i) h within = omega (arith, rises-at members i (suc i) h (omega arith) within, at-least members i h (omega arith))

-- there are at most as many members as reservations
pub few-members : (members : List ℕ) (n : ℕ) → AreMembers n members → length members ≤ n
few-members members n those = by (length members) refl
  where
    by : (many : ℕ) → length members ≡ many → many ≤ n
    by zero e = omega arith
    by (suc k) e =
        let inside : k < length members = omega (arith, e) in
        omega (arith, at-least members k those.rising inside, All-get_or (λ r. r < n) members k 0 inside those.there)

pub all-at : (test : ℕ → Bool) (members : List ℕ) → ((i : ℕ) → i < length members → test (get_or members i 0) ≡ true) → list_all test members ≡ true
all-at test [] each = refl
all-at test (r ∷ rs) each = both (test r) (list_all test rs) (each 0 (omega arith)) (all-at test rs (λ i within. each (suc i) (omega arith)))

none-any : (test : List ℕ → Bool) (list : List Reservation) (rs : List ℕ) → ((i : ℕ) → i < length rs → test (reservation_of list (get_or rs i 0)).name ≡ false)
    → list_any test (reservation_names (kept_list list rs)) ≡ false
none-any test list [] each = refl
none-any test list (r ∷ rs) each =
    neither (test (reservation_of list r).name) (list_any test (reservation_names (kept_list list rs))) (each 0 (omega arith))
    (none-any test list rs (λ i within. each (suc i) (omega arith)))

-- two different reservations have different names
pub other-name : (list : List Reservation) (r q : ℕ) → names_differ (reservation_names list) ≡ true → r < q → q < length list
    → bytes_eq (reservation_of list r).name (reservation_of list q).name ≡ false
other-name list r q differ before within =
    let many : length (reservation_names list) ≡ length list = length-map list (λ (w : Reservation). w.name) in
    let first : get_or (reservation_names list) r [] ≡ (reservation_of list r).name = get_or-map (λ (w : Reservation). w.name) list r no_reservation [] (omega arith) in
    let second : get_or (reservation_names list) q [] ≡ (reservation_of list q).name = get_or-map (λ (w : Reservation). w.name) list q no_reservation [] within in
    sym (ap (λ n. bytes_eq n (get_or (reservation_names list) q [])) first ∙ ap (bytes_eq (reservation_of list r).name) second)
    ∙ differ-at (reservation_names list) r q differ before (omega (arith, many))

names-apart : (list : List Reservation) (members : List ℕ) → names_differ (reservation_names list) ≡ true → rises members ≡ true
    → ((i : ℕ) → i < length members → get_or members i 0 < length list) → names_differ (reservation_names (kept_list list members)) ≡ true
names-apart list [] differ h there = refl
names-apart list (r ∷ rs) differ h there =
    both (not (list_any (bytes_eq (reservation_of list r).name) (reservation_names (kept_list list rs)))) (names_differ (reservation_names (kept_list list rs)))
    (ap not (none-any (bytes_eq (reservation_of list r).name) list rs
    (λ i within. other-name list r (get_or rs i 0) differ (rises-at (r ∷ rs) 0 (suc i) h (omega arith) (omega arith)) (there (suc i) (omega arith)))))
    (names-apart list rs differ (and-right _ _ h) (λ i within. there (suc i) (omega arith)))

few-at-most : (n : ℕ) → nat_le n 64 ≡ true → n ≤ 64
few-at-most n h = grind (arith, nat_tests, h)

pub few-reservations : (requests : Requests) → length requests.list ≤ 64
few-reservations requests = few-at-most (length requests.list) (and-right _ _ (and-left _ _ (and-left _ _ requests.kept)))

few-kept : (list members kept : ℕ) → nat_le list 64 ≡ true → members ≤ list → kept ≡ members → nat_le kept 64 ≡ true
few-kept list members kept many fewer same = grind (arith, nat_tests, many, fewer, same)

pub kept-rule : (requests : Requests) (members : List ℕ) → AreMembers (length requests.list) members → IsTrue (requests_rule requests.moves (kept_list requests.list members))
kept-rule requests members those =
    let differ : names_differ (reservation_names requests.list) ≡ true = and-right _ _ requests.kept in
    let rules : list_all reservation_rule requests.list ≡ true = and-right _ _ (and-left _ _ requests.kept) in
    let many : nat_le (length requests.list) 64 ≡ true = and-right _ _ (and-left _ _ (and-left _ _ requests.kept)) in
    let inside : (i : ℕ) → i < length members → get_or members i 0 < length requests.list = λ i within. All-get_or (λ r. r < length requests.list) members i 0 within those.there in
    let fewer : length members ≤ length requests.list = few-members members (length requests.list) those in
    let same : length (kept_list requests.list members) ≡ length members = length-map members (reservation_of requests.list) in
    let few : nat_le (length (kept_list requests.list members)) 64 ≡ true = few-kept (length requests.list) (length members) (length (kept_list requests.list members)) many fewer same in
    both _ _
    (both _ _
    (both _ _ (and-left _ _ (and-left _ _ (and-left _ _ requests.kept))) few)
    (list_all-map reservation_rule (reservation_of requests.list) members
    ∙ all-at (λ r. reservation_rule (reservation_of requests.list r)) members (λ i within. list_all-at reservation_rule requests.list (get_or members i 0) no_reservation (inside i within) rules)))
    (names-apart requests.list members differ those.rising inside)
