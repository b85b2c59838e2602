-- What a reservation without a fault keeps.
use Rattle.std.proofs.Common.{ℕ, ◌+◌, ◌-◌, ◌<◌, ◌≤◌, ◌≡◌, ◌∙◌, sym, ap, refl, subst, Bool, true, false, not, ◌&&◌, ◌||◌, nat_le, nat_lt, List, [], ◌∷◌, ◌++◌, map, take, drop, length, get_or, Some, None, arith, if◌then◌else◌, IfSome, Result, Ok, Err, drop-cons, add-one, OnOk}
use Rattle.std.specs.Result.{is_err}
use Rattle.std.specs.List.{list_any, list_all}
use Rattle.std.specs.Str.{bytes_eq}
use Rattle.std.proofs.lemmas.Bool.Decides.{nat_tests}
use Rattle.std.proofs.lemmas.List.{map-append, take_more, length-map, take_all, length-drop}
use Rattle.std.proofs.lemmas.List.Folds.{list_all-map, list_all-append}
use Rattle.serde_json.specs.View.{view}
use Rattle.serde_json.specs.declared.value.Value.{Value as Json}
use Rattle.ras_table.specs.Names.{names_differ}
use Rattle.ras_table.proofs.NamesLemmas.{any-name, names_differ-push}
use Rattle.ras_requests.specs.RequestsRule.{value_in_range, near_in_range, numbers_in_range, reservation_in_range, reservation_rule, reservation_names, kind_names, center_names, is_amount, is_weight, moves_in_range, requests_rule}
use Rattle.ras_requests.specs.Drafts.{seen_units, seen_values, seen_aim, seen_aims, seen_draft}
use Rattle.ras_requests.specs.Within.{WithinLimits, AreReservations}
use Rattle.ras_requests.specs.Requested.{is_too_long, stands_before, first_fault, reservation_at, reservations_from, and_then, told}
use Rattle.ras_requests.specs.declared.requests.Moves.{Moves}
use Rattle.ras_requests.specs.declared.requests.Reservation.{Reservation}
use Rattle.ras_requests.specs.declared.draft.Units.{Units}
use Rattle.ras_requests.specs.declared.draft.Aim.{Aim}
use Rattle.ras_requests.specs.declared.draft.Draft.{Draft}
use Rattle.ras_requests.specs.declared.fault.RequestsFault.{RequestsFault}
use Rattle.ras_requests.specs.declared.fault.RequestsFault.TheVariants.{At, Memory}
use Rattle.ras_requests.specs.declared.fault.RequestsWhy.TheVariants as why

pub values_mapped : (values : List Units) → list_all value_in_range (map seen_units values) ≡ list_all (λ v. value_in_range (seen_units v)) values
values_mapped values = list_all-map value_in_range seen_units values

pub near_mapped : (near : List Aim) → list_all near_in_range (map seen_aim near) ≡ list_all (λ n. near_in_range (seen_aim n)) near
near_mapped near = list_all-map near_in_range seen_aim near

-- a datacenter among wishes
pub any-center : (q : List ℕ) (near : List Aim) → list_any (bytes_eq q) (center_names (map seen_aim near)) ≡ list_any (λ n. bytes_eq q n.center) near
any-center q [] = refl
any-center q (n ∷ near) = ap (λ b. bytes_eq q n.center || b) (any-center q near)

-- a list made item by item
pub mapped-next : {X Y : Type 0} (f : X → Y) (xs : List X) (i : ℕ) (d x : X) (ys : List Y) (y : Y) → i < length xs → ys ≡ map f (take i xs) → x ≡ get_or xs i d → y ≡ f x
    → ys ++ y ∷ [] ≡ map f (take (i + 1) xs)
mapped-next f xs i d x ys y within so at is =
    ap (λ l. l ++ y ∷ []) so ∙ ap (λ v. map f (take i xs) ++ v ∷ []) (is ∙ ap f at)
    ∙ sym (ap (map f) (take_more xs i d within) ∙ map-append f (take i xs) (get_or xs i d ∷ []))

-- what holds on Ok, by a test
pub on-ok : {T E : Type 0} {P : Type 0} (r : Result T E) → false ≡ is_err r → OnOk r P → P
on-ok (Ok x) e p = p
on-ok (Err x) e p = absurd cc

both : (a b : Bool) → (a && b) ≡ true → (a ≡ true) × (b ≡ true)
both true b h = (refl, h)
both false b h = absurd cc

neither : (a b : Bool) → (a || b) ≡ false → (a ≡ false) × (b ≡ false)
neither false b h = (refl, h)
neither true b h = absurd cc

six : (a b c d e f : Bool) → (a && b && c && d && e && f) ≡ true → (a ≡ true) × (b ≡ true) × (c ≡ true) × (d ≡ true) × (e ≡ true) × (f ≡ true)
six true true true true true true h = (refl, refl, refl, refl, refl, refl)
six false b c d e f h = absurd cc
six true false c d e f h = absurd cc
six true true false d e f h = absurd cc
six true true true false e f h = absurd cc
six true true true true false f h = absurd cc
six true true true true true false h = absurd cc

three : (a b c : Bool) → (a && b && c) ≡ true → (a ≡ true) × (b ≡ true) × (c ≡ true)
three true true true h = (refl, refl, refl)
three false b c h = absurd cc
three true false c h = absurd cc
three true true false h = absurd cc

-- a reservation breaks no limit
record BreaksNone (before : List Reservation) (r : Reservation) : Type 0 where
  range : reservation_in_range r ≡ true
  long : is_too_long r ≡ false
  fresh : stands_before before r ≡ false
  centers : names_differ (center_names r.near) ≡ true

breaks-none : (before : List Reservation) (r : Reservation) → first_fault before r ≡ None → BreaksNone before r
breaks-none before r none = by (reservation_in_range r) refl (is_too_long r) refl (stands_before before r) refl (names_differ (center_names r.near)) refl none
  where
    by : (a : Bool) → reservation_in_range r ≡ a → (b : Bool) → is_too_long r ≡ b → (c : Bool) → stands_before before r ≡ c → (d : Bool) → names_differ (center_names r.near) ≡ d
        → (if not a then Some why.Range else if b then Some why.Many else if c || not d then Some why.Twice else None) ≡ None → BreaksNone before r
    by true w false x false y true z e = record { range = w; long = x; fresh = y; centers = z }
    by false w b x c y d z e = absurd cc
    by true w true x c y d z e = absurd cc
    by true w false x true y d z e = absurd cc
    by true w false x false y false z e = absurd cc

most-is : (a b : ℕ) → nat_le a b ≡ true → a ≤ b
most-is a b h = grind (arith, nat_tests)

most-not : (a b : ℕ) → nat_lt a b ≡ false → b ≤ a
most-not a b h = grind (arith, nat_tests)

most-true : (a b : ℕ) → a ≤ b → nat_le a b ≡ true
most-true a b h = grind (arith, nat_tests)

pub within-limits : (before : List Reservation) (d : Draft) → first_fault before (seen_draft d) ≡ None → WithinLimits d
within-limits before d none =
    let kept = breaks-none before (seen_draft d) none in
    let parts = three (numbers_in_range (seen_draft d)) (list_all value_in_range (seen_values d.values)) (list_all near_in_range (seen_aims d.near)) kept.range in
    let n = six (is_amount d.need) (is_amount d.penalties.spread_limit) (is_amount d.penalties.rack_limit) (is_weight d.penalties.buffer_weight) (is_weight d.penalties.spread_weight) (is_weight d.penalties.rack_weight) parts.0 in
    let few = neither (nat_lt 1000 (length (seen_values d.values))) (nat_lt 16 (length (seen_aims d.near))) kept.long in
    record {
      need = most-is d.need 10000000 n.0;
      spread_limit = most-is d.penalties.spread_limit 10000000 n.1;
      rack_limit = most-is d.penalties.rack_limit 10000000 n.2;
      buffer_weight = most-is d.penalties.buffer_weight 10000 n.3;
      spread_weight = most-is d.penalties.spread_weight 10000 n.4;
      rack_weight = most-is d.penalties.rack_weight 10000 n.5;
      values = sym (values_mapped d.values.items) ∙ parts.1;
      near = sym (near_mapped d.near.items) ∙ parts.2;
      few_values = subst (λ n. n ≤ 1000) (length-map d.values.items seen_units) (most-not 1000 (length (seen_values d.values)) few.0);
      few_near = subst (λ n. n ≤ 16) (length-map d.near.items seen_aim) (most-not 16 (length (seen_aims d.near)) few.1);
    }

five : (a b c d e : Bool) → a ≡ true → b ≡ true → c ≡ true → d ≡ true → e ≡ true → (a && b && c && d && e) ≡ true
five a b c d e p q r s t = rw (p, q, r, s, t) refl

pub reservation-kept : (before : List Reservation) (d : Draft) → first_fault before (seen_draft d) ≡ None → names_differ (kind_names (seen_values d.values)) ≡ true → reservation_rule (seen_draft d) ≡ true
reservation-kept before d none differ =
    let kept = breaks-none before (seen_draft d) none in
    let few = neither (nat_lt 1000 (length (seen_values d.values))) (nat_lt 16 (length (seen_aims d.near))) kept.long in
    five (reservation_in_range (seen_draft d)) (nat_le (length (seen_values d.values)) 1000) (nat_le (length (seen_aims d.near)) 16) (names_differ (kind_names (seen_values d.values))) (names_differ (center_names (seen_aims d.near)))
    kept.range (most-true (length (seen_values d.values)) 1000 (most-not 1000 (length (seen_values d.values)) few.0))
    (most-true (length (seen_aims d.near)) 16 (most-not 16 (length (seen_aims d.near)) few.1)) differ kept.centers

pub reservation-fresh : (before : List Reservation) (d : Draft) → first_fault before (seen_draft d) ≡ None → stands_before before (seen_draft d) ≡ false
reservation-fresh before d none = (breaks-none before (seen_draft d) none).fresh

-- reservations with one more that keeps its limits
pub reservations-push : (list : List Reservation) (r : Reservation) → AreReservations list → reservation_rule r ≡ true → stands_before list r ≡ false → AreReservations (list ++ r ∷ [])
reservations-push list r kept rule fresh =
    let new : list_any (bytes_eq r.name) (reservation_names list) ≡ false = any-name (λ (b : Reservation). b.name) r.name list ∙ fresh in
    record {
      rules = list_all-append reservation_rule list (r ∷ []) ∙ rw (kept.rules, rule) refl;
      names = ap names_differ (map-append (λ (b : Reservation). b.name) list (r ∷ [])) ∙ names_differ-push (reservation_names list) r.name kept.names new;
    }

four : (a b c d : Bool) → a ≡ true → b ≡ true → c ≡ true → d ≡ true → (a && b && c && d) ≡ true
four a b c d p q r s = rw (p, q, r, s) refl

-- the rule of requests, of its parts
pub requests-kept : (moves : Moves) (list : List Reservation) → moves_in_range moves ≡ true → length list ≤ 64 → AreReservations list → requests_rule moves list ≡ true
requests-kept moves list range few kept =
    four (moves_in_range moves) (nat_le (length list) 64) (list_all reservation_rule list) (names_differ (reservation_names list)) range (most-true (length list) 64 few) kept.rules kept.names

-- the loop over the entries goes on by one
entries-split : (format i : ℕ) (list : List Reservation) (entries : List Json) (d : Json) → i < length entries
    → reservations_from format (i + 1) list (map view (drop i entries)) ≡ and_then (reservation_at format (i + 1) list (view (get_or entries i d))) (λ r. reservations_from format (i + 1 + 1) (list ++ r ∷ []) (map view (drop (i + 1) entries)))
entries-split format i list entries d within = ap (λ l. reservations_from format (i + 1) list (map view l)) (drop-cons entries i d within) ∙ rw (add-one i) refl

pub entries-go : (format i : ℕ) (list : List Reservation) (entries : List Json) (d : Json) (r : Reservation) (all : Result (List Reservation) RequestsFault) → i < length entries
    → reservations_from format (i + 1) list (map view (drop i entries)) ≡ all → reservation_at format (i + 1) list (view (get_or entries i d)) ≡ Ok r
    → reservations_from format (i + 1 + 1) (list ++ r ∷ []) (map view (drop (i + 1) entries)) ≡ all
entries-go format i list entries d r all within so is =
    sym (ap (λ o. and_then o (λ r. reservations_from format (i + 1 + 1) (list ++ r ∷ []) (map view (drop (i + 1) entries)))) is) ∙ sym (entries-split format i list entries d within) ∙ so

-- and stops at its first fault
pub entries-stop : (format i : ℕ) (list : List Reservation) (entries : List Json) (d : Json) (e : RequestsFault) (all : Result (List Reservation) RequestsFault) → i < length entries
    → reservations_from format (i + 1) list (map view (drop i entries)) ≡ all → IfSome (told e) (λ f. reservation_at format (i + 1) list (view (get_or entries i d)) ≡ Err f) → IfSome (told e) (λ f. all ≡ Err f)
entries-stop format i list entries d Memory all within so is = tt
entries-stop format i list entries d (At place w) all within so is =
    sym so ∙ entries-split format i list entries d within ∙ ap (λ o. and_then o (λ r. reservations_from format (i + 1 + 1) (list ++ r ∷ []) (map view (drop (i + 1) entries)))) is

-- a slice up to the end
pub rest-is : (near : List Aim) (k : ℕ) → take (length near - k) (drop k near) ≡ drop k near
rest-is near k = take_all (length near - k) (drop k near) (omega (arith, length-drop k near))

centers-split : (near : List Aim) (i : ℕ) (d : Aim) → i < length near
    → names_differ (center_names (map seen_aim (drop i near))) ≡ (not (list_any (λ n. bytes_eq (get_or near i d).center n.center) (drop (i + 1) near)) && names_differ (center_names (map seen_aim (drop (i + 1) near))))
centers-split near i d within =
    let split : drop i near ≡ get_or near i d ∷ drop (i + 1) near = drop-cons near i d within ∙ rw add-one refl in
    ap (λ (l : List Aim). names_differ (center_names (map seen_aim l))) split
    ∙ ap (λ b. not b && names_differ (center_names (map seen_aim (drop (i + 1) near)))) (any-center (get_or near i d).center (drop (i + 1) near))

-- the loop over the wishes goes on by one, and stops at a datacenter that stands again
pub centers-go : (near rest : List Aim) (i : ℕ) (d aim : Aim) (center : List ℕ) (found all : Bool) → i < length near → names_differ (center_names (map seen_aim (drop i near))) ≡ all
    → rest ≡ drop (i + 1) near → aim ≡ get_or near i d → center ≡ aim.center → found ≡ list_any (λ n. bytes_eq center n.center) rest → found ≡ false
    → names_differ (center_names (map seen_aim (drop (i + 1) near))) ≡ all
centers-go near rest i d aim center found all within so tail at is any fresh =
    let same : center ≡ (get_or near i d).center = is ∙ ap (λ (a : Aim). a.center) at in
    let none : list_any (λ n. bytes_eq (get_or near i d).center n.center) (drop (i + 1) near) ≡ false =
    ap (λ (q : List ℕ). list_any (λ n. bytes_eq q n.center) (drop (i + 1) near)) (sym same) ∙ ap (λ (l : List Aim). list_any (λ n. bytes_eq center n.center) l) (sym tail) ∙ sym any ∙ fresh in
    ap (λ b. not b && names_differ (center_names (map seen_aim (drop (i + 1) near)))) (sym none) ∙ sym (centers-split near i d within) ∙ so

pub centers-stop : (near rest : List Aim) (i : ℕ) (d aim : Aim) (center : List ℕ) (found all : Bool) → i < length near → names_differ (center_names (map seen_aim (drop i near))) ≡ all
    → rest ≡ drop (i + 1) near → aim ≡ get_or near i d → center ≡ aim.center → found ≡ list_any (λ n. bytes_eq center n.center) rest → found ≡ true → false ≡ all
centers-stop near rest i d aim center found all within so tail at is any again =
    let same : center ≡ (get_or near i d).center = is ∙ ap (λ (a : Aim). a.center) at in
    let some : list_any (λ n. bytes_eq (get_or near i d).center n.center) (drop (i + 1) near) ≡ true =
    ap (λ (q : List ℕ). list_any (λ n. bytes_eq q n.center) (drop (i + 1) near)) (sym same) ∙ ap (λ (l : List Aim). list_any (λ n. bytes_eq center n.center) l) (sym tail) ∙ sym any ∙ again in
    ap (λ b. not b && names_differ (center_names (map seen_aim (drop (i + 1) near)))) (sym some) ∙ sym (centers-split near i d within) ∙ so
