-- What the kept requests join to.
use Rattle.std.proofs.Common.{◌≡◌, ℕ, suc, ◌==◌, ◌+◌, ◌<◌, Bool, true, false, cond, List, [], ◌∷◌, length, get_or, arith, ap, sym, ◌∙◌, refl}
use Rattle.std.specs.Prelude.{nat_lt, not, Some, None, Option, map, zip, position}
use Rattle.std.specs.Option.{option_map_or}
use Rattle.std.specs.List.{position_or_len, prefix_len}
use Rattle.std.specs.Str.{bytes_eq}
use Rattle.std.proofs.lemmas.Bool.Decides.{nat_tests}
use Rattle.std.proofs.lemmas.Cmp.{nat_list_eq_equiv}
use Rattle.std.proofs.lemmas.Slice.Eq.{bytes_eq-Decides}
use Rattle.std.proofs.lemmas.List.{length-map, get_or-map}
use Rattle.std.proofs.lemmas.Simd.{map-map}
use Rattle.std.proofs.lemmas.List.Elements.{All-get_or}
use Rattle.std.proofs.lemmas.List.Quantifiers.{position-Some}
use Rattle.ras_table.specs.Names.{names_differ, number_of}
use Rattle.ras_inventory.specs.declared.server.Server.{Server}
use Rattle.ras_inventory.specs.declared.bindings.Binding.{Binding}
use Rattle.ras_requests.specs.declared.requests.Reservation.{Reservation}
use Rattle.ras_requests.specs.RequestsRule.{reservation_names}
use Rattle.plan_model.specs.declared.cases.Holder.{Holder}
use Rattle.plan_model.specs.declared.cases.Holder.TheVariants.{Held, Gone}
use Rattle.plan_model.specs.Units.{want_of, no_want}
use Rattle.plan_model.specs.Joined.{holder_named, joined_place, joined_want}
use Rattle.plan_model.proofs.CaseFacts.{and-right}
use Rattle.plan_model.proofs.NumberLemmas.{position_none}
use Rattle.conflict_core.specs.Kept.{AreMembers, kept_list, reservation_of, no_reservation}
use Rattle.conflict_core.specs.Cases.{kept_holder, kept_place}
use Rattle.conflict_core.specs.Laws.{KeptJoins}
use Rattle.conflict_core.proofs.Members.{none-passes}
use Rattle.conflict_core.proofs.KeepRule.{other-name}

map-same : {X Y : Type 0} (f g : X → Y) → ((x : X) → f x ≡ g x) → (xs : List X) → map f xs ≡ map g xs
map-same f g same [] = refl
map-same f g same (x ∷ xs) = ap (λ y. y ∷ map f xs) (same x) ∙ ap (λ ys. g x ∷ ys) (map-same f g same xs)

pub map-same_at : {Y : Type 0} (f g : ℕ → Y) (members : List ℕ) → ((i : ℕ) → i < length members → f (get_or members i 0) ≡ g (get_or members i 0))
    → map f members ≡ map g members
map-same_at f g [] same = refl
map-same_at f g (r ∷ rs) same =
    ap (λ y. y ∷ map f rs) (same 0 (omega arith)) ∙ ap (λ ys. g r ∷ ys) (map-same_at f g rs (λ i within. same (suc i) (omega arith)))

-- the first place at which a test passes among the members is that at which one of their names does
len-same : (list : List Reservation) (p : List ℕ → Bool) (q : ℕ → Bool) (members : List ℕ)
    → ((i : ℕ) → i < length members → p (reservation_of list (get_or members i 0)).name ≡ q (get_or members i 0))
    → position_or_len p (reservation_names (kept_list list members)) ≡ position_or_len q members
len-same list p q [] same = refl
len-same list p q (r ∷ rs) same =
    ap (λ b. cond (not b) (1 + prefix_len (λ x. not (p x)) (reservation_names (kept_list list rs))) 0) (same 0 (omega arith))
    ∙ ap (λ n. cond (not (q r)) (1 + n) 0) (len-same list p q rs (λ i within. same (suc i) (omega arith)))

many-names : (list : List Reservation) (members : List ℕ) → length (reservation_names (kept_list list members)) ≡ length members
many-names list members = length-map (kept_list list members) (λ (w : Reservation). w.name) ∙ length-map members (reservation_of list)

position-same : (list : List Reservation) (p : List ℕ → Bool) (q : ℕ → Bool) (members : List ℕ)
    → ((i : ℕ) → i < length members → p (reservation_of list (get_or members i 0)).name ≡ q (get_or members i 0))
    → position p (reservation_names (kept_list list members)) ≡ position q members
position-same list p q members same =
    ap (λ n. cond (nat_lt n (length (reservation_names (kept_list list members)))) (Some n) None) (len-same list p q members same)
    ∙ ap (λ m. cond (nat_lt (position_or_len q members) m) (Some (position_or_len q members)) None) (many-names list members)

module _ (list : List Reservation) (members : List ℕ) (differ : names_differ (reservation_names list) ≡ true) (those : AreMembers (length list) members) where
  inside : (i : ℕ) → i < length members → get_or members i 0 < length list
  inside i within = All-get_or (λ r. r < length list) members i 0 within those.there

  name-at : (r : ℕ) → r < length list → get_or (reservation_names list) r [] ≡ (reservation_of list r).name
  name-at r within = get_or-map (λ (w : Reservation). w.name) list r no_reservation [] within

  -- a name is that of one reservation alone
  one-name : (name : List ℕ) (j q : ℕ) → j < length list → q < length list → bytes_eq name (reservation_of list j).name ≡ true
      → bytes_eq name (reservation_of list q).name ≡ (q == j)
  one-name name j q p r is = by (nat_lt j q) (nat_lt q j) refl refl
    where
      same : name ≡ (reservation_of list j).name
      same = grind (arith, bytes_eq-Decides name (reservation_of list j).name, is)

      by : (b c : Bool) → nat_lt j q ≡ b → nat_lt q j ≡ c → bytes_eq name (reservation_of list q).name ≡ (q == j)
      by true c e f =
          let before : j < q = grind (arith, nat_tests, e) in
          let no : (q == j) ≡ false = grind (arith, nat_tests, before) in
          ap (λ n. bytes_eq n (reservation_of list q).name) same ∙ other-name list j q differ before r ∙ sym no
      by false true e f =
          let before : q < j = grind (arith, nat_tests, f) in
          let no : (q == j) ≡ false = grind (arith, nat_tests, before) in
          ap (λ n. bytes_eq n (reservation_of list q).name) same
          ∙ nat_list_eq_equiv.symm (reservation_of list j).name (reservation_of list q).name
          ∙ other-name list q j differ before p
          ∙ sym no
      by false false e f =
          let equal : q ≡ j = grind (arith, nat_tests, e, f) in
          let yes : (q == j) ≡ true = grind (arith, nat_tests, equal) in
          ap (λ n. bytes_eq name (reservation_of list n).name) equal ∙ is ∙ sym yes

  holder-same : (holder : Option (List ℕ)) → holder_named (reservation_names (kept_list list members)) holder ≡ kept_holder members (holder_named (reservation_names list) holder)
  holder-same None = refl
  holder-same (Some name) = by (number_of (reservation_names list) name) refl
    where
      by : (o : Option ℕ) → number_of (reservation_names list) name ≡ o
          → option_map_or (λ r. Held r) (number_of (reservation_names (kept_list list members)) name) Gone ≡ kept_holder members (option_map_or (λ r. Held r) o Gone)
      by None e =
          let none : number_of (reservation_names (kept_list list members)) name ≡ None =
          position_none (bytes_eq name) (reservation_names (kept_list list members)) []
          (λ k within.
          let there : k < length members = omega (arith, within, many-names list members) in
          let many : length (reservation_names list) ≡ length list = length-map list (λ (w : Reservation). w.name) in
          ap (bytes_eq name) (get_or-map (λ (w : Reservation). w.name) (kept_list list members) k no_reservation [] (omega (arith, there, length-map members (reservation_of list))))
          ∙ ap (λ (w : Reservation). bytes_eq name w.name) (get_or-map (reservation_of list) members k 0 no_reservation there)
          ∙ sym (ap (bytes_eq name) (name-at (get_or members k 0) (inside k there)))
          ∙ none-passes (bytes_eq name) (reservation_names list) (get_or members k 0) [] e (omega (arith, inside k there, many))) in
          ap (λ o. option_map_or (λ r. Held r) o Gone) none
      by (Some j) e =
          let there = position-Some (bytes_eq name) (reservation_names list) j [] e in
          let many : length (reservation_names list) ≡ length list = length-map list (λ (w : Reservation). w.name) in
          let below : j < length list = omega (arith, there.0, many) in
          let is : bytes_eq name (reservation_of list j).name ≡ true = sym (ap (bytes_eq name) (name-at j below)) ∙ there.1 in
          ap (λ o. option_map_or (λ r. Held r) o Gone)
          (position-same list (bytes_eq name) (λ q. q == j) members (λ i within. one-name name j (get_or members i 0) below (inside i within) is))

  place-same : (s : Server × Binding) → joined_place (kept_list list members) s ≡ kept_place members (joined_place list s)
  place-same s =
      ap (λ (holder : Holder). record { kind = s.0.kind; rack = s.0.rack; board = s.0.board; center = s.0.center; holder = holder; busy = s.1.busy; up = s.1.up })
      (holder-same s.1.holder)

pub kept-joins : KeptJoins
kept-joins region requests kept bindings members case other those is from to =
    let differ : names_differ (reservation_names requests.list) ≡ true = and-right _ _ requests.kept in
    record {
      places =
          to.places
          ∙ ap (λ list. map (joined_place list) (zip region.servers bindings.of)) is.list
          ∙ map-same (joined_place (kept_list requests.list members)) (λ s. kept_place members (joined_place requests.list s)) (place-same requests.list members differ those) (zip region.servers bindings.of)
          ∙ sym (map-map (kept_place members) (joined_place requests.list) (zip region.servers bindings.of))
          ∙ sym (ap (map (kept_place members)) from.places);
      kinds = to.kinds ∙ sym from.kinds;
      racks = to.racks ∙ sym from.racks;
      boards = to.boards ∙ sym from.boards;
      centers = to.centers ∙ sym from.centers;
      moves = to.moves ∙ is.moves ∙ sym from.moves;
      wants =
          to.wants
          ∙ ap (map (joined_want region.types region.centers)) is.list
          ∙ map-map (joined_want region.types region.centers) (reservation_of requests.list) members
          ∙ map-same_at (λ r. joined_want region.types region.centers (reservation_of requests.list r)) (want_of case) members
          (λ i within. sym
          (ap (λ ws. get_or ws (get_or members i 0) no_want) from.wants
          ∙ get_or-map (joined_want region.types region.centers) requests.list (get_or members i 0) no_reservation no_want (All-get_or (λ r. r < length requests.list) members i 0 within those.there)));
    }
