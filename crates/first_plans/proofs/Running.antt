-- Running sums of the units of one reservation.
use Rattle.std.proofs.Common.{◌≡◌, ℕ, zero, suc, ◌+◌, ◌-◌, ◌*◌, ◌<◌, ◌≤◌, ◌≢◌, Bool, true, false, cond, List, length, get_or, set, take, arith, ap, sym, subst, ◌∙◌, refl, None, ◌==◌}
use Rattle.std.specs.Prelude.{Option, IsTrue, sum_by, ◌&&◌, nat_le, replicate}
use Rattle.std.specs.List.{list_all, range_with_len}
use Rattle.std.proofs.lemmas.Bool.Decides.{nat_tests}
use Rattle.std.proofs.lemmas.List.{length-set, get_or-set_same, get_or-set_other, get_or-replicate, take_all}
use Rattle.std.proofs.lemmas.List.Sums.{sum_by_more}
use Rattle.std.proofs.lemmas.List.Folds.{list_all-map}
use Rattle.plan_model.specs.declared.cases.Place.{Place}
use Rattle.plan_model.specs.declared.cases.Case.{Case}
use Rattle.plan_model.specs.declared.cases.Assignment.{Assignment}
use Rattle.plan_model.specs.Units.{share_of, servers_with_places, units, units_where, value_for, want_of, place_of, no_place, server_with}
use Rattle.plan_model.specs.Allowed.{fits, survives, keeps_need}
use Rattle.ras_requests.specs.declared.requests.Protection.{Protection}
use Rattle.ras_requests.specs.declared.requests.Protection.TheVariants as protection
use Rattle.plan_model.specs.declared.losses.Lost.{Lost}
use Rattle.plan_model.specs.declared.losses.Lost.TheVariants.{Total, Board, Center}
use Rattle.plan_model.specs.Losses.{is_lost, losses_named, loss_at, named_losses}
use Rattle.plan_model.proofs.CaseFacts.{few-boards, few-centers}
use Rattle.plan_model.proofs.AllowedLaws.{survives-total}
use Rattle.plan_model.proofs.SumLemmas.{sum_by-filter, sum_by-filter-le, units-most}
use Rattle.first_plans.specs.declared.sums.Sums.{Sums}
use Rattle.first_plans.specs.Sums.{AreSums, added, units_lost, number_of, leaves, keeps_by}
use Rattle.first_plans.specs.FirstPlan.{given}
use Rattle.first_plans.proofs.Given.{units-given, where-given, assigned-at, assigned-length}

-- ---- a table in which one number grows

eq-of : (a b : ℕ) → (a == b) ≡ true → a ≡ b
eq-of a b h = grind (arith, nat_tests, h)

ne-of : (a b : ℕ) → (a == b) ≡ false → b ≢ a
ne-of a b h = grind (arith, nat_tests, h)

grown-at : (xs : List ℕ) (b m v : ℕ) → b < length xs → (same : Bool) → (b == m) ≡ same → get_or (set xs b (get_or xs b 0 + v)) m 0 ≡ get_or xs m 0 + cond same v 0
grown-at xs b m v within true e =
    subst (λ (k : ℕ). get_or (set xs b (get_or xs b 0 + v)) k 0 ≡ get_or xs k 0 + v) (eq-of b m e) (get_or-set_same xs b (get_or xs b 0 + v) 0 within)
grown-at xs b m v within false e = get_or-set_other xs b m (get_or xs b 0 + v) 0 (ne-of b m e) ∙ omega arith

pub grown : (xs : List ℕ) (b m v : ℕ) → b < length xs → get_or (set xs b (get_or xs b 0 + v)) m 0 ≡ get_or xs m 0 + cond (b == m) v 0
grown xs b m v within = grown-at xs b m v within (b == m) refl

-- ---- a server that is given

same-number : (r : ℕ) → (r == r) ≡ true
same-number r = grind (arith, nat_tests)

pub lost-grown : (sums : Sums) (s : Place) (v : ℕ) (lost : Lost) → s.board < length sums.on_board → s.center < length sums.in_center
    → units_lost (added sums s v) lost ≡ units_lost sums lost + cond (is_lost lost s) v 0
lost-grown sums s v Total board center = refl
lost-grown sums s v (Board m) board center = grown sums.on_board s.board m v board
lost-grown sums s v (Center d) board center = grown sums.in_center s.center d v center

pub give-sums : (case : Case) (a : Assignment) (r s : ℕ) (place : Place) (value : ℕ) (sums : Sums) → IsTrue (fits case a) → s < length case.places → get_or a.of s None ≡ None
    → place.board < 64 → place.center < 64 → place ≡ place_of case s → value ≡ value_for case r (place_of case s).kind → AreSums case a r sums
    → AreSums case (given a s r) r (added sums place value)
give-sums case a r s place value sums fitting within free board center here is_value are =
    let own : cond (r == r) (value_for case r (place_of case s).kind) 0 ≡ value =
    ap (λ (b : Bool). let n : ℕ = cond b (value_for case r (place_of case s).kind) 0 in n) (same-number r) ∙ sym is_value in
    let on : place.board < length sums.on_board = omega (arith, are.boards, board) in
    let in_it : place.center < length sums.in_center = omega (arith, are.centers, center) in
    record {
      all = omega (arith, are.all, units-given case a s r r fitting within free, own);
      boards = length-set sums.on_board place.board (get_or sums.on_board place.board 0 + value) ∙ are.boards;
      centers = length-set sums.in_center place.center (get_or sums.in_center place.center 0 + value) ∙ are.centers;
      lost = λ lost small.
          let gives : cond (is_lost lost (place_of case s)) (cond (r == r) (value_for case r (place_of case s).kind) 0) 0 ≡ cond (is_lost lost place) value 0 =
          ap (λ (n : ℕ). let k : ℕ = cond (is_lost lost (place_of case s)) n 0 in k) own ∙ ap (λ (p : Place). let k : ℕ = cond (is_lost lost p) value 0 in k) (sym here) in
          omega (arith, lost-grown sums place value lost on in_it, are.lost lost small, where-given (is_lost lost) case a s r r fitting within free, gives);
    }

pub where-most : (test : Place → Bool) (case : Case) (a : Assignment) (r : ℕ) → IsTrue (fits case a) → r < length case.wants → units_where test case a r ≤ 20000000
where-most test case a r fitting within = omega (arith, units-most case a r fitting within, sum_by-filter-le (λ s. test s.0) (share_of case r) (servers_with_places case a))

-- ---- one pass over the servers

-- what a loss takes from r at one server
abbrev pub lost_share : Case → ℕ → Lost → Place × Option ℕ → ℕ
lost_share case r lost s = cond (is_lost lost s.0) (share_of case r s) 0

-- the sums of the first n servers
pub record AreSumsOf (case : Case) (a : Assignment) (r n : ℕ) (sums : Sums) : Type 0 where
  pub all : sums.all ≡ sum_by (share_of case r) (take n (servers_with_places case a))
  pub boards : length sums.on_board ≡ 64
  pub centers : length sums.in_center ≡ 64
  pub lost : (lost : Lost) → number_of lost < 64 → units_lost sums lost ≡ sum_by (lost_share case r lost) (take n (servers_with_places case a))
  pub few : sums.all ≤ 1000 * n
  pub few_lost : (lost : Lost) → number_of lost < 64 → units_lost sums lost ≤ 1000 * n

abbrev empty : Sums
empty = record { all = 0; on_board = replicate 64 0; in_center = replicate 64 0 }

nothing-yet : (lost : Lost) → number_of lost < 64 → units_lost empty lost ≡ 0
nothing-yet Total small = refl
nothing-yet (Board m) small = get_or-replicate 64 m 0 0 small
nothing-yet (Center d) small = get_or-replicate 64 d 0 0 small

pub no-sums : (case : Case) (a : Assignment) (r : ℕ) → AreSumsOf case a r 0 (record { all = 0; on_board = replicate 64 0; in_center = replicate 64 0 })
no-sums case a r = record {
  all = refl;
  boards = refl;
  centers = refl;
  lost = nothing-yet;
  few = omega arith;
  few_lost = λ lost small. omega (arith, nothing-yet lost small);
}

cond-le : (b : Bool) (n : ℕ) → cond b n 0 ≤ n
cond-le true n = omega arith
cond-le false n = omega arith

pub more-sums : (case : Case) (a : Assignment) (r n : ℕ) (place : Place) (share : ℕ) (sums : Sums) → IsTrue (fits case a) → n < length case.places → place.board < 64 → place.center < 64
    → place ≡ place_of case n → share ≡ share_of case r (server_with case a n) → share ≤ 1000 → AreSumsOf case a r n sums
    → AreSumsOf case a r (n + 1) (added sums place share)
more-sums case a r n place share sums fitting within board center here is_share small_share are =
    let inside : n < length (servers_with_places case a) = omega (arith, within, assigned-length case a fitting) in
    let at = assigned-at case a n fitting within in
    let on : place.board < length sums.on_board = omega (arith, are.boards, board) in
    let in_it : place.center < length sums.in_center = omega (arith, are.centers, center) in
    record {
      all = omega (arith, are.all, sum_by_more (share_of case r) (servers_with_places case a) n (no_place, None) inside, ap (share_of case r) at, is_share);
      boards = length-set sums.on_board place.board (get_or sums.on_board place.board 0 + share) ∙ are.boards;
      centers = length-set sums.in_center place.center (get_or sums.in_center place.center 0 + share) ∙ are.centers;
      lost = λ lost small.
          let gives : lost_share case r lost (get_or (servers_with_places case a) n (no_place, None)) ≡ cond (is_lost lost place) share 0 =
          ap (lost_share case r lost) at
          ∙ ap (λ (k : ℕ). let i : ℕ = cond (is_lost lost (place_of case n)) k 0 in i) (sym is_share) ∙ ap (λ (p : Place). let k : ℕ = cond (is_lost lost p) share 0 in k) (sym here) in
          omega (arith, lost-grown sums place share lost on in_it, are.lost lost small, sum_by_more (lost_share case r lost) (servers_with_places case a) n (no_place, None) inside, gives);
      few = omega (arith, are.few);
      few_lost = λ lost small. omega (arith, lost-grown sums place share lost on in_it, are.few_lost lost small, cond-le (is_lost lost place) share);
    }

pub all-sums : (case : Case) (a : Assignment) (r n : ℕ) (sums : Sums) → IsTrue (fits case a) → length case.places ≤ n → AreSumsOf case a r n sums → AreSums case a r sums
all-sums case a r n sums fitting past are =
    let whole : take n (servers_with_places case a) ≡ servers_with_places case a = take_all n (servers_with_places case a) (omega (arith, assigned-length case a fitting)) in
    record {
      all = are.all ∙ ap (sum_by (share_of case r)) whole;
      boards = are.boards;
      centers = are.centers;
      lost = λ lost small.
          are.lost lost small ∙ ap (sum_by (lost_share case r lost)) whole ∙ sym (sum_by-filter (λ s. is_lost lost s.0) (share_of case r) (servers_with_places case a));
    }

-- ---- whether a need is kept

below-same : (p q : ℕ → Bool) (first n : ℕ) → ((m : ℕ) → m < first + n → p m ≡ q m) → list_all p (range_with_len first n) ≡ list_all q (range_with_len first n)
below-same p q first zero same = refl
below-same p q first (suc n) same =
    ap (λ b. b && list_all p (range_with_len (first + 1) n)) (same first (omega arith))
    ∙ ap (λ b. q first && b) (below-same p q (first + 1) n (λ m h. same m (omega arith)))

-- the sums have a place for each loss that a protection names
pub named-small : (case : Case) (p : Protection) (number : ℕ) → number < losses_named case p → number_of (loss_at p number) < 64
named-small case protection.Total number within = omega arith
named-small case protection.Board number within = omega (arith, few-boards case, within)
named-small case protection.Center number within = omega (arith, few-centers case, within)

pub leaves-survives : (case : Case) (a : Assignment) (r : ℕ) (sums : Sums) (lost : Lost) → number_of lost < 64 → AreSums case a r sums
    → leaves (want_of case r).need sums lost ≡ survives case a r lost
leaves-survives case a r sums lost small are =
    ap (λ n. nat_le (want_of case r).need (n - units_lost sums lost)) are.all ∙ ap (λ n. nat_le (want_of case r).need (units case a r - n)) (are.lost lost small)

pub kept-by_sums : (case : Case) (a : Assignment) (r : ℕ) (sums : Sums) → AreSums case a r sums → keeps_by case r sums ≡ keeps_need case a r
kept-by_sums case a r sums are =
    let p = (want_of case r).protection in
    let named : list_all (λ n. leaves (want_of case r).need sums (loss_at p n)) (range_with_len 0 (losses_named case p)) ≡ list_all (survives case a r) (named_losses case r) =
    below-same (λ n. leaves (want_of case r).need sums (loss_at p n)) (λ n. survives case a r (loss_at p n)) 0 (losses_named case p)
    (λ n h. leaves-survives case a r sums (loss_at p n) (named-small case p n (omega arith)) are)
    ∙ sym (list_all-map (survives case a r) (loss_at p) (range_with_len 0 (losses_named case p))) in
    ap (λ b. b && list_all (λ n. leaves (want_of case r).need sums (loss_at p n)) (range_with_len 0 (losses_named case p))) (ap (nat_le (want_of case r).need) are.all ∙ sym (survives-total case a r))
    ∙ ap (λ b. survives case a r Total && b) named
