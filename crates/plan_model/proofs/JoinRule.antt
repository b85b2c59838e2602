-- The case that a region, requests and bindings join to keeps the rule of a case.
use Rattle.std.proofs.Common.{◌≡◌, ℕ, Bool, true, false, List, [], ◌∷◌, length, arith, ap, sym, ◌∙◌, refl, cond, eq-eqb}
use Rattle.std.specs.Prelude.{map, zip, Option, Some, None, IsTrue, ◌&&◌, nat_le, nat_lt}
use Rattle.std.specs.List.{list_all}
use Rattle.std.specs.Option.{option_map_or}
use Rattle.std.specs.Str.{bytes_eq}
use Rattle.std.proofs.lemmas.List.{length-map}
use Rattle.std.proofs.lemmas.List.Quantifiers.{position-Some}
use Rattle.std.proofs.lemmas.Bool.Decides.{nat_tests}
use Rattle.std.proofs.lemmas.Slice.Zip.{length-zip}
use Rattle.ras_table.specs.Names.{number_of}
use Rattle.ras_inventory.specs.declared.server.Server.{Server}
use Rattle.ras_inventory.specs.declared.region.Region.{Region}
use Rattle.ras_inventory.specs.declared.bindings.Binding.{Binding}
use Rattle.ras_inventory.specs.declared.bindings.Bindings.{Bindings}
use Rattle.ras_inventory.specs.RegionRule.{server_in_range, stand_together as servers_together}
use Rattle.ras_requests.specs.declared.requests.Value.{Value}
use Rattle.ras_requests.specs.declared.requests.Near.{Near}
use Rattle.ras_requests.specs.declared.requests.Reservation.{Reservation}
use Rattle.ras_requests.specs.declared.all.Requests.{Requests}
use Rattle.ras_requests.specs.RequestsRule.{reservation_names, reservation_rule, reservation_in_range, value_in_range, near_in_range, moves_in_range}
use Rattle.plan_model.specs.declared.cases.Place.{Place}
use Rattle.plan_model.specs.CaseRule.{case_rule, holder_in_range, place_in_range, stand_together, goal_in_range, want_in_range}
use Rattle.plan_model.specs.Joined.{holder_named, joined_place, joined_goal, joined_want, units_for}
use Rattle.plan_model.proofs.CaseFacts.{and-left, and-right}

pub both : (a b : Bool) → a ≡ true → b ≡ true → (a && b) ≡ true
both true b e h = h
both false b e h = e

list_all-map : {X Y : Type 0} (test : Y → Bool) (f : X → Y) (xs : List X) → list_all test (map f xs) ≡ list_all (λ x. test (f x)) xs
list_all-map test f [] = refl
list_all-map test f (x ∷ xs) = ap (λ b. test (f x) && b) (list_all-map test f xs)

-- what follows of each element
list_all-then : {X : Type 0} (p q : X → Bool) → ((x : X) → p x ≡ true → q x ≡ true) → (xs : List X) → list_all p xs ≡ true → list_all q xs ≡ true
list_all-then p q then-q [] all = refl
list_all-then p q then-q (x ∷ xs) all = both (q x) (list_all q xs) (then-q x (and-left _ _ all)) (list_all-then p q then-q xs (and-right _ _ all))

list_all-zip : {X Y : Type 0} (p : X → Bool) (q : X × Y → Bool) → ((x : X) (y : Y) → p x ≡ true → q (x, y) ≡ true)
    → (xs : List X) (ys : List Y) → list_all p xs ≡ true → list_all q (zip xs ys) ≡ true
list_all-zip p q then-q [] ys all = refl
list_all-zip p q then-q (x ∷ xs) [] all = refl
list_all-zip p q then-q (x ∷ xs) (y ∷ ys) all =
    both (q (x, y)) (list_all q (zip xs ys)) (then-q x y (and-left _ _ all)) (list_all-zip p q then-q xs ys (and-right _ _ all))

-- a number of a name is below how many names there are
number-in : (names : List (List ℕ)) (name : List ℕ) → option_map_or (λ n. nat_lt n (length names)) (number_of names name) true ≡ true
number-in names name = by (number_of names name) refl
  where
    by : (o : Option ℕ) → number_of names name ≡ o → option_map_or (λ n. nat_lt n (length names)) o true ≡ true
    by None e = refl
    by (Some n) e = let within = position-Some (bytes_eq name) names n [] e in grind (arith, nat_tests, within.0)

holder-in : (names : List (List ℕ)) (holder : Option (List ℕ)) → holder_in_range (length names) (holder_named names holder) ≡ true
holder-in names None = refl
holder-in names (Some name) = by (number_of names name) (number-in names name)
  where
    by : (o : Option ℕ) → option_map_or (λ n. nat_lt n (length names)) o true ≡ true
        → holder_in_range (length names) (option_map_or (λ r. Rattle.plan_model.specs.declared.cases.Holder.TheVariants.Held r) o Rattle.plan_model.specs.declared.cases.Holder.TheVariants.Gone) ≡ true
    by None e = refl
    by (Some n) e = e

one-of : (b : Bool) (m n : ℕ) → nat_le m 1000 ≡ true → nat_le n 1000 ≡ true → nat_le (cond b m n) 1000 ≡ true
one-of true m n e h = e
one-of false m n e h = h

units-small : (values : List Value) (name : List ℕ) → list_all value_in_range values ≡ true → nat_le (units_for values name) 1000 ≡ true
units-small [] name all = refl
units-small (v ∷ values) name all = one-of (bytes_eq name v.kind) v.units (units_for values name) (and-left _ _ all) (units-small values name (and-right _ _ all))

goal-in : (centers : List (List ℕ)) (near : Near) → near_in_range near ≡ true → goal_in_range (length centers) (joined_goal centers near) ≡ true
goal-in centers near rule = both _ _ rule (number-in centers near.center)

list_all-every : {X : Type 0} (p : X → Bool) → ((x : X) → p x ≡ true) → (xs : List X) → list_all p xs ≡ true
list_all-every p every [] = refl
list_all-every p every (x ∷ xs) = both (p x) (list_all p xs) (every x) (list_all-every p every xs)

want-in : (types centers : List (List ℕ)) (r : Reservation) → reservation_rule r ≡ true → want_in_range (length types) (length centers) (joined_want types centers r) ≡ true
want-in types centers r rule =
    let lengths = and-left _ _ (and-left _ _ rule) in
    let near-few : nat_le (length r.near) 16 ≡ true = and-right _ _ lengths in
    let range : reservation_in_range r ≡ true = and-left _ _ (and-left _ _ lengths) in
    let nears : list_all near_in_range r.near ≡ true = and-right _ _ range in
    let values : list_all value_in_range r.values ≡ true = and-right _ _ (and-left _ _ range) in
    let numbers = and-left _ _ (and-left _ _ range) in
    both _ _
    (both _ _
    (both _ _
    (both _ _ numbers (eq-eqb (length (map (units_for r.values) types)) (length types) (length-map types (units_for r.values))))
    (list_all-map (λ v. nat_le v 1000) (units_for r.values) types ∙ list_all-every (λ name. nat_le (units_for r.values name) 1000) (λ name. units-small r.values name values) types))
    (ap (λ n. nat_le n 16) (length-map r.near (joined_goal centers)) ∙ near-few))
    (list_all-map (goal_in_range (length centers)) (joined_goal centers) r.near
    ∙ list_all-then near_in_range (λ n. goal_in_range (length centers) (joined_goal centers n)) (goal-in centers) r.near nears)

module _ (region : Region) (requests : Requests) (bindings : Bindings) where
  abbrev placed : Server × Binding → Place
  placed = joined_place requests.list

  server-ranges : list_all (server_in_range (length region.types) (length region.racks) (length region.boards) (length region.centers)) region.servers ≡ true
  server-ranges = and-right _ _ (and-left _ _ (and-left _ _ region.kept))

  servers-stand : list_all (λ s. list_all (servers_together s) region.servers) region.servers ≡ true
  servers-stand = and-right _ _ (and-left _ _ region.kept)

  few-servers : nat_le (length region.servers) 20000 ≡ true
  few-servers = and-left _ _ (and-left _ _ (and-left _ _ (and-left _ _ (and-left _ _ region.kept))))

  few-boards : nat_le (length region.boards) 64 ≡ true
  few-boards = and-right _ _ (and-left _ _ (and-left _ _ (and-left _ _ (and-left _ _ region.kept))))

  few-centers : nat_le (length region.centers) 64 ≡ true
  few-centers = and-right _ _ (and-left _ _ (and-left _ _ (and-left _ _ region.kept)))

  moves-small : moves_in_range requests.moves ≡ true
  moves-small = and-left _ _ (and-left _ _ (and-left _ _ requests.kept))

  few-reservations : nat_le (length requests.list) 64 ≡ true
  few-reservations = and-right _ _ (and-left _ _ (and-left _ _ requests.kept))

  pub reservations-keep : list_all reservation_rule requests.list ≡ true
  reservations-keep = and-right _ _ (and-left _ _ requests.kept)

  place-in : (reservations : ℕ) → length requests.list ≡ reservations → (s : Server) (b : Binding)
      → server_in_range (length region.types) (length region.racks) (length region.boards) (length region.centers) s ≡ true
      → place_in_range (length region.types) (length region.racks) (length region.boards) (length region.centers) reservations (placed (s, b)) ≡ true
  place-in reservations many s b rule =
      let named : length (reservation_names requests.list) ≡ reservations = length-map requests.list (λ (r : Reservation). r.name) ∙ many in
      both _ _ rule (ap (λ n. holder_in_range n (holder_named (reservation_names requests.list) b.holder)) (sym named) ∙ holder-in (reservation_names requests.list) b.holder)

  places-in : (reservations : ℕ) → length requests.list ≡ reservations
      → list_all (place_in_range (length region.types) (length region.racks) (length region.boards) (length region.centers) reservations) (map placed (zip region.servers bindings.of)) ≡ true
  places-in reservations many =
      list_all-map (place_in_range (length region.types) (length region.racks) (length region.boards) (length region.centers) reservations) placed (zip region.servers bindings.of)
      ∙ list_all-zip (server_in_range (length region.types) (length region.racks) (length region.boards) (length region.centers))
      (λ p. place_in_range (length region.types) (length region.racks) (length region.boards) (length region.centers) reservations (placed p))
      (place-in reservations many) region.servers bindings.of server-ranges

  together-with : (s : Server) (b : Binding) → list_all (servers_together s) region.servers ≡ true
      → list_all (stand_together (placed (s, b))) (map placed (zip region.servers bindings.of)) ≡ true
  together-with s b all =
      list_all-map (stand_together (placed (s, b))) placed (zip region.servers bindings.of)
      ∙ list_all-zip (servers_together s) (λ p. stand_together (placed (s, b)) (placed p)) (λ t c h. h) region.servers bindings.of all

  places-together : list_all (λ s. list_all (stand_together s) (map placed (zip region.servers bindings.of))) (map placed (zip region.servers bindings.of)) ≡ true
  places-together =
      list_all-map (λ s. list_all (stand_together s) (map placed (zip region.servers bindings.of))) placed (zip region.servers bindings.of)
      ∙ list_all-zip (λ s. list_all (servers_together s) region.servers) (λ p. list_all (stand_together (placed p)) (map placed (zip region.servers bindings.of)))
      together-with region.servers bindings.of servers-stand

  few-placed : nat_le (length (map placed (zip region.servers bindings.of))) 20000 ≡ true
  few-placed =
      let many = length-map (zip region.servers bindings.of) placed in
      grind (arith, nat_tests, many, length-zip region.servers bindings.of, few-servers)

  pub joined-rule : IsTrue (case_rule (map placed (zip region.servers bindings.of)) (length region.types) (length region.racks) (length region.boards) (length region.centers) requests.moves (map (joined_want region.types region.centers) requests.list))
  joined-rule =
      let many : length (map (joined_want region.types region.centers) requests.list) ≡ length requests.list = length-map requests.list (joined_want region.types region.centers) in
      both _ _
      (both _ _
      (both _ _
      (both _ _
      (both _ _
      (both _ _
      (both _ _ (both _ _ (both _ _ few-placed (ap (λ n. nat_le n 64) many ∙ few-reservations)) few-boards) few-centers)
      (and-left _ _ (and-left _ _ moves-small)))
      (and-right _ _ (and-left _ _ moves-small)))
      (and-right _ _ moves-small))
      (places-in (length (map (joined_want region.types region.centers) requests.list)) (sym many)))
      places-together)
      (list_all-map (want_in_range (length region.types) (length region.centers)) (joined_want region.types region.centers) requests.list
      ∙ list_all-then reservation_rule (λ r. want_in_range (length region.types) (length region.centers) (joined_want region.types region.centers r)) (want-in region.types region.centers) requests.list reservations-keep)
