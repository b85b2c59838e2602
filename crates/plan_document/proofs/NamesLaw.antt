-- Where names differ, each has the number of its place.
use Rattle.std.proofs.Common.{arith, ℕ, suc, zero, ◌≡◌, ◌∙◌, ◌<◌, not, ap, refl, Bool, true, false, cond, List, [], ◌∷◌, length, get_or, nat_lt, Option, Some, None}
use Rattle.std.specs.Prelude.{IfSome, All}
use Rattle.std.specs.List.{list_any, position_or_len}
use Rattle.std.specs.Str.{bytes_eq}
use Rattle.std.proofs.lemmas.Bool.{and_parts, lt-ltb}
use Rattle.std.proofs.lemmas.Cmp.{nat_list_eq_equiv}
use Rattle.std.proofs.lemmas.List.Folds.{list_any_at}
use Rattle.std.proofs.lemmas.List.Sums.{position_or_len_is}
use Rattle.std.proofs.lemmas.List.Elements.{All-head, All-tail}
use Rattle.std.proofs.lemmas.Option.{unwrap_or-slice_get}
use Rattle.ras_table.specs.Names.{number_of, names_differ}
use Rattle.ras_inventory.specs.RegionRule.{server_names}
use Rattle.ras_inventory.specs.declared.region.Region.{Region}
use Rattle.ras_requests.specs.RequestsRule.{reservation_names}
use Rattle.ras_requests.specs.declared.all.Requests.{Requests}
use Rattle.plan_document.proofs.AssignmentLaw.{AreApart, AreNamed}
use Rattle.plan_document.proofs.PartLaw.{AreServers}
use Rattle.plan_document.proofs.RackLaw.{AreChosen}

not-any : (p : List ℕ → Bool) (xs : List (List ℕ)) (i : ℕ) (any : Bool) → list_any p xs ≡ any → not any ≡ true → i < length xs → p (get_or xs i []) ≡ false
not-any p xs i true e none less = absurd (cc)
not-any p xs i false e none less = by (p (get_or xs i [])) refl
  where
    by : (b : Bool) → p (get_or xs i []) ≡ b → p (get_or xs i []) ≡ false
    by true h = let all = list_any_at p xs i [] less h in absurd (cc)
    by false h = h

-- a name differs from each later one
pub differ-at : (names : List (List ℕ)) (k i : ℕ) → names_differ names ≡ true → k < i → i < length names → bytes_eq (get_or names k []) (get_or names i []) ≡ false
differ-at [] k i h less short = absurd (omega arith)
differ-at (x ∷ xs) k zero h less short = absurd (omega arith)
differ-at (x ∷ xs) zero (suc i) h less short =
    not-any (bytes_eq x) xs i (list_any (bytes_eq x) xs) refl (and_parts (not (list_any (bytes_eq x) xs)) (names_differ xs) h).0 (omega arith)
differ-at (x ∷ xs) (suc k) (suc i) h less short = differ-at xs k i (and_parts (not (list_any (bytes_eq x) xs)) (names_differ xs) h).1 (omega arith) (omega arith)

pub numbered-at : (names : List (List ℕ)) (n : ℕ) → names_differ names ≡ true → n < length names → number_of names (get_or names n []) ≡ Some n
numbered-at names n h less =
    let name = get_or names n [] in
    let place : position_or_len (bytes_eq name) names ≡ n =
    position_or_len_is (bytes_eq name) names n [] (omega arith)
    (λ k before. nat_list_eq_equiv.symm name (get_or names k []) ∙ differ-at names k n h before less)
    (λ _. nat_list_eq_equiv.refl name) in
    ap (λ (m : ℕ). cond (nat_lt m (length names)) (Some m) None) place ∙ ap (λ (b : Bool). cond b (Some n) None) (lt-ltb n (length names) less)

pub servers-numbered : (names : List (List ℕ)) → names_differ names ≡ true → AreServers names
servers-numbered names h n less = ap (number_of names) (unwrap_or-slice_get names n []) ∙ numbered-at names n h less

pub servers-apart : (names : List (List ℕ)) → AreServers names → AreApart names
servers-apart names there i j h k same =
    let one = there i h in
    let other = there j k in
    let e = ap (number_of names) same in
    cc

-- reservations that are there are the numbers of their names
pub places-named : (names : List (List ℕ)) → AreServers names → (places : List (Option ℕ)) → All (λ place. IfSome place (λ r. r < length names)) places → AreNamed names places
places-named names there [] h = tt
places-named names there (None ∷ ps) h = places-named names there ps (All-tail (λ place. IfSome place (λ r. r < length names)) None ps h)
places-named names there (Some r ∷ ps) h =
    let P : Option ℕ → Type 0 = λ place. IfSome place (λ r. r < length names) in
    (there r (All-head P (Some r) ps h), places-named names there ps (All-tail P (Some r) ps h))

pub chosen-named : (names : List (List ℕ)) → AreServers names → (chosen : List ℕ) → All (λ n. n < length names) chosen → AreChosen names chosen
chosen-named names there [] h = tt
chosen-named names there (n ∷ ns) h = (there n (All-head (λ n. n < length names) n ns h), chosen-named names there ns (All-tail (λ n. n < length names) n ns h))

-- the names of a region's servers differ, and so do those of reservations
pub servers-differ : (r : Region) → names_differ (server_names r.servers) ≡ true
servers-differ r = (and_parts _ (names_differ (server_names r.servers)) r.kept).1

pub reservations-differ : (r : Requests) → names_differ (reservation_names r.list) ≡ true
reservations-differ r = (and_parts _ (names_differ (reservation_names r.list)) r.kept).1
