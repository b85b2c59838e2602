-- A set that can be met can be met without any one of its members.
use Rattle.std.proofs.Common.{◌≡◌, ℕ, zero, suc, ◌+◌, ◌<◌, true, List, [], ◌∷◌, length, get_or, arith, ap, sym, ◌∙◌, refl, subst, zero-add}
use Rattle.std.specs.Prelude.{map, zip, nat_lt}
use Rattle.std.specs.List.{list_all, range_with_len, remove}
use Rattle.std.proofs.lemmas.Bool.Decides.{nat_tests}
use Rattle.std.proofs.lemmas.List.{length-map, ext_get_or}
use Rattle.std.proofs.lemmas.List.FromFn.{length-map-range_with_len, get_or-map-range_with_len}
use Rattle.std.proofs.lemmas.List.Elements.{All-from_get_or}
use Rattle.ras_inventory.specs.declared.region.Region.{Region}
use Rattle.ras_inventory.specs.declared.bindings.Bindings.{Bindings}
use Rattle.ras_requests.specs.declared.requests.Reservation.{Reservation}
use Rattle.ras_requests.specs.declared.all.Requests.{Requests}
use Rattle.plan_model.specs.declared.cases.Case.{Case}
use Rattle.plan_model.specs.Joined.{IsJoined, joined_place, joined_want}
use Rattle.plan_model.proofs.JoinRule.{both, joined-rule}
use Rattle.plan_model.proofs.JoinedOnce.{joined-once}
use Rattle.conflict_core.specs.Kept.{rises, AreMembers, IsKeptTo, all_members, kept_list, reservation_of, no_reservation}
use Rattle.conflict_core.specs.Cases.{kept_assignment}
use Rattle.conflict_core.specs.Cores.{IsCaseOf, CanBeMet}
use Rattle.conflict_core.specs.Laws.{FewerCanBeMet, MetOrNot}
use Rattle.plan_model.specs.Allowed.{region_allowed}
use Rattle.conflict_core.proofs.KeepRule.{kept-rule}
use Rattle.conflict_core.proofs.Joins.{kept-joins}
use Rattle.conflict_core.proofs.Stays.{kept-stays}
use Rattle.conflict_core.proofs.Cuts.{members-cut}

-- ---- lists without one element

-- a set without one member is a set
pub members-but : (members : List ℕ) (n count : ℕ) → AreMembers count members → AreMembers count (remove members n)
members-but members n count those = members-cut members n (suc n) count (omega arith) those

map-but : {X Y : Type 0} (f : X → Y) (xs : List X) (n : ℕ) → map f (remove xs n) ≡ remove (map f xs) n
map-but f [] zero = refl
map-but f [] (suc n) = refl
map-but f (x ∷ xs) zero = refl
map-but f (x ∷ xs) (suc n) = ap (λ ys. f x ∷ ys) (map-but f xs n)

-- ---- all of a list, by their numbers

range-rises : (first count : ℕ) → rises (range_with_len first count) ≡ true
range-rises first zero = refl
range-rises first (suc count) = both (list_all (nat_lt first) (range_with_len (first + 1) count)) (rises (range_with_len (first + 1) count)) (above first (first + 1) count (omega arith)) (range-rises (first + 1) count)
  where
    above : (r a n : ℕ) → r < a → list_all (nat_lt r) (range_with_len a n) ≡ true
    above r a zero h = refl
    above r a (suc n) h = both (nat_lt r a) (list_all (nat_lt r) (range_with_len (a + 1) n)) (grind (arith, nat_tests, h)) (above r (a + 1) n (omega arith))

range-below : (first count most : ℕ) → first + count ≡ most → (i : ℕ) → i < length (range_with_len first count) → get_or (range_with_len first count) i 0 < most
range-below first zero most e i within = absurd (omega arith)
range-below first (suc count) most e zero within = omega (arith, e)
range-below first (suc count) most e (suc i) within = range-below (first + 1) count most (omega (arith, e)) i (omega arith)

pub all-members : (count : ℕ) → AreMembers count (range_with_len 0 count)
all-members count = record {
  rising = range-rises 0 count;
  there = All-from_get_or (λ r. r < count) (range_with_len 0 count) 0 (range-below 0 count count (omega arith));
}

pub kept-all : (list : List Reservation) → kept_list list (range_with_len 0 (length list)) ≡ list
kept-all list =
    let many : length (map (reservation_of list) (range_with_len 0 (length list))) ≡ length list = length-map-range_with_len (reservation_of list) 0 (length list) in
    ext_get_or no_reservation (map (reservation_of list) (range_with_len 0 (length list))) list many
    (λ i within. get_or-map-range_with_len (reservation_of list) 0 (length list) i i no_reservation (omega (arith, within, many)) (zero-add i))

-- ---- the requests and the case of a set

abbrev pub kept-requests : (requests : Requests) (members : List ℕ) → AreMembers (length requests.list) members → Requests
kept-requests requests members those = record { moves = requests.moves; list = kept_list requests.list members; kept = kept-rule requests members those }

abbrev pub joined-case : Region → Requests → Bindings → Case
joined-case region requests bindings = record {
  places = map (joined_place requests.list) (zip region.servers bindings.of);
  kinds = length region.types;
  racks = length region.racks;
  boards = length region.boards;
  centers = length region.centers;
  moves = requests.moves;
  wants = map (joined_want region.types region.centers) requests.list;
  kept = joined-rule region requests bindings;
}

pub is-joined : (region : Region) (requests : Requests) (bindings : Bindings) → IsJoined region requests bindings (joined-case region requests bindings)
is-joined region requests bindings = record { places = refl; kinds = refl; racks = refl; boards = refl; centers = refl; moves = refl; wants = refl }

-- without one of the kept reservations
kept-twice : (requests kept : Requests) (members : List ℕ) (n : ℕ) → IsKeptTo requests members kept
    → kept_list requests.list (remove members n) ≡ kept_list kept.list (remove (range_with_len 0 (length kept.list)) n)
kept-twice requests kept members n is =
    map-but (reservation_of requests.list) members n
    ∙ ap (λ list. remove list n) (sym is.list ∙ sym (kept-all kept.list))
    ∙ sym (map-but (reservation_of kept.list) (range_with_len 0 (length kept.list)) n)

members-for : (members : List ℕ) (m n : ℕ) → m ≡ n → AreMembers m members → AreMembers n members
members-for members m n e those = subst (λ k. AreMembers k members) e those

-- the case of a set
pub case-of : (region : Region) (requests : Requests) (bindings : Bindings) (members : List ℕ) (those : AreMembers (length requests.list) members)
    → IsCaseOf region requests bindings members (joined-case region (kept-requests requests members those) bindings)
case-of region requests bindings members those =
    record { kept = kept-requests requests members those; is_kept = record { moves = refl; list = refl }; joined = is-joined region (kept-requests requests members those) bindings }

-- A set can be met where one can of which it keeps some members, here by their numbers among that set's.
kept-met : (region : Region) (requests : Requests) (bindings : Bindings) (members fewer numbers : List ℕ) (met : CanBeMet region requests bindings members)
    → AreMembers (length requests.list) fewer → AreMembers (length met.is_case.kept.list) numbers → kept_list requests.list fewer ≡ kept_list met.is_case.kept.list numbers
    → CanBeMet region requests bindings fewer
kept-met region requests bindings members fewer numbers met left are same =
    let kept : Requests = met.is_case.kept in
    let is : IsKeptTo kept numbers (kept-requests requests fewer left) = record { moves = sym met.is_case.is_kept.moves; list = same } in
    let joined : IsJoined region (kept-requests requests fewer left) bindings (joined-case region (kept-requests requests fewer left) bindings) =
    is-joined region (kept-requests requests fewer left) bindings in
    let many : length kept.list ≡ length met.case.wants = sym (ap length met.is_case.joined.wants ∙ length-map kept.list (joined_want region.types region.centers)) in
    record {
      case = joined-case region (kept-requests requests fewer left) bindings;
      is_case = case-of region requests bindings fewer left;
      a = kept_assignment numbers met.a;
      allowed = kept-stays numbers met.case (joined-case region (kept-requests requests fewer left) bindings) met.a (members-for numbers (length kept.list) (length met.case.wants) many are)
          (kept-joins region kept (kept-requests requests fewer left) bindings numbers met.case (joined-case region (kept-requests requests fewer left) bindings) are is met.is_case.joined joined)
          met.allowed;
    }

pub fewer-met : FewerCanBeMet
fewer-met region requests bindings members n those within met =
    let kept : Requests = met.is_case.kept in
    kept-met region requests bindings members (remove members n) (remove (range_with_len 0 (length kept.list)) n) met (members-but members n (length requests.list) those)
    (members-but (range_with_len 0 (length kept.list)) n (length kept.list) (all-members (length kept.list))) (kept-twice requests kept members n met.is_case.is_kept)

-- a set can be met where all can
pub some-met : (region : Region) (requests : Requests) (bindings : Bindings) (members : List ℕ) → AreMembers (length requests.list) members
    → CanBeMet region requests bindings (all_members requests) → CanBeMet region requests bindings members
some-met region requests bindings members those met =
    let kept : Requests = met.is_case.kept in
    let list : kept.list ≡ requests.list = met.is_case.is_kept.list ∙ kept-all requests.list in
    kept-met region requests bindings (all_members requests) members members met those (members-for members (length requests.list) (length kept.list) (sym (ap length list)) those)
    (ap (λ xs. kept_list xs members) (sym list))

-- ---- a set has one case

pub one-case : (region : Region) (requests : Requests) (bindings : Bindings) (members : List ℕ) (case other : Case)
    → IsCaseOf region requests bindings members case → IsCaseOf region requests bindings members other → case ≡ other
one-case region requests bindings members case other h k =
    let list : k.kept.list ≡ h.kept.list = k.is_kept.list ∙ sym h.is_kept.list in
    joined-once region h.kept bindings case other h.joined (record {
      places = k.joined.places ∙ ap (λ list. map (joined_place list) (zip region.servers bindings.of)) list;
      kinds = k.joined.kinds;
      racks = k.joined.racks;
      boards = k.joined.boards;
      centers = k.joined.centers;
      moves = k.joined.moves ∙ k.is_kept.moves ∙ sym h.is_kept.moves;
      wants = k.joined.wants ∙ ap (map (joined_want region.types region.centers)) list;
    })

pub met-or-not : MetOrNot
met-or-not region requests bindings members met not =
    not.none met.a (ap (λ case. region_allowed case met.a) (sym (one-case region requests bindings members met.case not.case met.is_case not.is_case)) ∙ met.allowed)
