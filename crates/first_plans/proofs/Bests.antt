-- The best server of one pass is the one that is taken.
use Rattle.std.proofs.Common.{◌≡◌, ℕ, zero, suc, ◌+◌, ◌-◌, ◌*◌, ◌<◌, ◌≤◌, ◌⊎◌, inl, inr, Bool, true, false, cond, List, [], ◌∷◌, length, get_or, arith, ap, sym, subst, ◌∙◌, refl, Some, None, ◌==◌, nat_lt}
use Rattle.std.specs.Prelude.{Option, IsTrue, ◌&&◌, ◌||◌, not, option_map}
use Rattle.std.specs.List.{list_all}
use Rattle.std.proofs.lemmas.Bool.Decides.{nat_tests}
use Rattle.std.proofs.lemmas.List.Sums.{list_all-from_AllPass}
use Rattle.std.proofs.lemmas.List.Folds.{list_all_at}
use Rattle.plan_model.specs.declared.cases.Place.{Place}
use Rattle.plan_model.specs.declared.cases.Case.{Case}
use Rattle.plan_model.specs.declared.cases.Assignment.{Assignment}
use Rattle.plan_model.specs.Units.{servers_with_places, place_of, no_place, server_with}
use Rattle.plan_model.specs.Allowed.{fits}
use Rattle.plan_model.proofs.NumberLemmas.{position_at, position_none}
use Rattle.first_plans.specs.declared.takes.Candidate.{Candidate}
use Rattle.first_plans.specs.declared.ranks.Rank.{Rank}
use Rattle.first_plans.specs.FirstPlan.{may_be_taken, goes_before, is_next, next_server}
use Rattle.first_plans.specs.Best.{candidate_at, better_of, best_of}
use Rattle.first_plans.specs.Ranks.{rank_of, is_before}
use Rattle.first_plans.proofs.Given.{assigned-at, assigned-length, both}

-- whether a server may be taken
abbrev may : Case → Assignment → ℕ → ℕ → Bool
may case a r k = may_be_taken case r (server_with case a k)

-- the rank of a server by its number
abbrev rank : Case → Assignment → ℕ → ℕ → Rank
rank case a r k = rank_of case a r (place_of case k)

-- ---- the order of ranks

not-itself : (x : Rank) → is_before x x ≡ false
not-itself x = grind (arith, nat_tests)

not-back : (x y : Rank) → is_before x y ≡ true → is_before y x ≡ false
not-back x y h = grind (arith, nat_tests, h)

-- what goes before one goes before each that does not
before-later : (x y z : Rank) → is_before x z ≡ true → is_before y z ≡ false → is_before x y ≡ true
before-later x y z h k = grind (arith, nat_tests, h, k)

-- ---- the best of the first n

-- server s is the first of the least among the first n that may be taken
record IsFirstLeast (test : ℕ → Bool) (rank : ℕ → Rank) (n s : ℕ) : Type 0 where
  within : s < n
  here : test s ≡ true
  least : (k : ℕ) → k < n → test k ≡ true → is_before (rank k) (rank s) ≡ false
  first : (k : ℕ) → k < s → test k ≡ true → is_before (rank s) (rank k) ≡ true

abbrev IsBest : Case → Assignment → ℕ → ℕ → Option Candidate → Type 0
IsBest case a r n None = (k : ℕ) → k < n → may case a r k ≡ false
IsBest case a r n (Some c) = (c ≡ candidate_at case a r c.server) × IsFirstLeast (may case a r) (rank case a r) n c.server

at-last : (k n : ℕ) → k < suc n → (k < n) ⊎ (k ≡ n)
at-last k n h = search arith

clash : (test : ℕ → Bool) (k : ℕ) → test k ≡ true → test k ≡ false → ⊥
clash test k h e = cc

none-more : (test : ℕ → Bool) (n : ℕ) → ((k : ℕ) → k < n → test k ≡ false) → test n ≡ false → (k : ℕ) → k < suc n → test k ≡ false
none-more test n below here k h = elim (at-last k n h) [ inl less ↦ below k less | inr same ↦ ap test same ∙ here ]

-- the next server may not be taken
least-skips : (test : ℕ → Bool) (rank : ℕ → Rank) (n s : ℕ) → IsFirstLeast test rank n s → test n ≡ false → IsFirstLeast test rank (suc n) s
least-skips test rank n s f skipped = record {
  within = omega (arith, f.within);
  here = f.here;
  least = λ k h e. elim (at-last k n h) [ inl less ↦ f.least k less e | inr same ↦ absurd (clash test k e (ap test same ∙ skipped)) ];
  first = f.first;
}

-- it may be taken, and does not go before
least-stays : (test : ℕ → Bool) (rank : ℕ → Rank) (n s : ℕ) → IsFirstLeast test rank n s → is_before (rank n) (rank s) ≡ false → IsFirstLeast test rank (suc n) s
least-stays test rank n s f more = record {
  within = omega (arith, f.within);
  here = f.here;
  least = λ k h e. elim (at-last k n h) [ inl less ↦ f.least k less e | inr same ↦ ap (λ (i : ℕ). is_before (rank i) (rank s)) same ∙ more ];
  first = f.first;
}

-- it goes before
least-changes : (test : ℕ → Bool) (rank : ℕ → Rank) (n s : ℕ) → IsFirstLeast test rank n s → test n ≡ true → is_before (rank n) (rank s) ≡ true → IsFirstLeast test rank (suc n) n
least-changes test rank n s f taken less = record {
  within = omega arith;
  here = taken;
  least = λ k h e. elim (at-last k n h) [
    | inl below ↦ not-back (rank n) (rank k) (before-later (rank n) (rank k) (rank s) less (f.least k below e))
    | inr same ↦ ap (λ (i : ℕ). is_before (rank i) (rank n)) same ∙ not-itself (rank n)
  ];
  first = λ k below e. before-later (rank n) (rank k) (rank s) less (f.least k below e);
}

-- no other may be taken
least-begins : (test : ℕ → Bool) (rank : ℕ → Rank) (n : ℕ) → ((k : ℕ) → k < n → test k ≡ false) → test n ≡ true → IsFirstLeast test rank (suc n) n
least-begins test rank n none taken = record {
  within = omega arith;
  here = taken;
  least = λ k h e. elim (at-last k n h) [ inl below ↦ absurd (clash test k e (none k below)) | inr same ↦ ap (λ (i : ℕ). is_before (rank i) (rank n)) same ∙ not-itself (rank n) ];
  first = λ k below e. absurd (clash test k e (none k below));
}

compared : (case : Case) (a : Assignment) (r n : ℕ) (c : Candidate) → may case a r n ≡ true
    → (c ≡ candidate_at case a r c.server) → IsFirstLeast (may case a r) (rank case a r) n c.server
    → (b : Bool) → is_before (rank case a r n) (rank case a r c.server) ≡ b
    → IsBest case a r (suc n) (cond b (Some (candidate_at case a r n)) (Some c))
compared case a r n c taken same f true less = (refl, least-changes (may case a r) (rank case a r) n c.server f taken less)
compared case a r n c taken same f false less = (same, least-stays (may case a r) (rank case a r) n c.server f less)

one-more : (case : Case) (a : Assignment) (r n : ℕ) → (o : Option Candidate) → IsBest case a r n o → (b : Bool) → may case a r n ≡ b
    → IsBest case a r (suc n) (better_of o (cond b (Some (candidate_at case a r n)) None))
one-more case a r n None none false skipped = none-more (may case a r) n none skipped
one-more case a r n (Some c) best false skipped = (best.0, least-skips (may case a r) (rank case a r) n c.server best.1 skipped)
one-more case a r n None none true taken = (refl, least-begins (may case a r) (rank case a r) n none taken)
one-more case a r n (Some c) best true taken =
    let less : is_before (rank case a r n) c.rank ≡ is_before (rank case a r n) (rank case a r c.server) = ap (λ (d : Candidate). is_before (rank case a r n) d.rank) best.0 in
    subst (λ (b : Bool). IsBest case a r (suc n) (cond b (Some (candidate_at case a r n)) (Some c))) (sym less)
    (compared case a r n c taken best.0 best.1 (is_before (rank case a r n) (rank case a r c.server)) refl)

best-is : (case : Case) (a : Assignment) (r : ℕ) → (n : ℕ) → IsBest case a r n (best_of case a r n)
best-is case a r zero = λ k h. absurd (omega arith)
best-is case a r (suc n) = one-more case a r n (best_of case a r n) (best-is case a r n) (may case a r n) refl

-- ---- the best of all is the one that is taken

-- a test of the first part fails, or the second one does
fails-left : (a b : Bool) → a ≡ false → (a && b) ≡ false
fails-left a b h = ap (λ x. x && b) h

fails-right : (a b : Bool) → b ≡ false → (a && b) ≡ false
fails-right true b h = h
fails-right false b h = refl

not-both : (a b : Bool) → a ≡ true → b ≡ true → not (a && b) ≡ false
not-both true b h k = ap not k
not-both false b h k = cc

either-fails : (a b : Bool) → (a ≡ true → b ≡ false) → not (a && b) ≡ true
either-fails true b h = ap not (h refl)
either-fails false b h = refl

taken-none : (case : Case) (a : Assignment) (r : ℕ) → IsTrue (fits case a) → ((k : ℕ) → k < length case.places → may case a r k ≡ false) → next_server case a r ≡ None
taken-none case a r fitting none =
    position_none (is_next case a r) (servers_with_places case a) (no_place, None)
    (λ k inside.
    let within : k < length case.places = omega (arith, assigned-length case a fitting) in
    ap (is_next case a r) (assigned-at case a k fitting within) ∙ fails-left (may case a r k) (list_all (λ t. not (may_be_taken case r t && goes_before case a r t.0 (place_of case k))) (servers_with_places case a)) (none k within))

-- a server that may be taken and has a later one before it is not taken
passed-over : (case : Case) (a : Assignment) (r s k : ℕ) → IsTrue (fits case a) → s < length case.places → may case a r s ≡ true
    → is_before (rank case a r s) (rank case a r k) ≡ true → is_next case a r (server_with case a k) ≡ false
passed-over case a r s k fitting within taken less =
    let test : Place × Option ℕ → Bool = λ t. not (may_be_taken case r t && goes_before case a r t.0 (place_of case k)) in
    let fails : test (get_or (servers_with_places case a) s (no_place, None)) ≡ false =
    ap test (assigned-at case a s fitting within) ∙ not-both (may case a r s) (goes_before case a r (place_of case s) (place_of case k)) taken less in
    fails-right (may case a r k) (list_all test (servers_with_places case a)) (list_all_at test (servers_with_places case a) s (no_place, None) (omega (arith, within, assigned-length case a fitting)) fails)

passed : (case : Case) (a : Assignment) (r s k : ℕ) → IsTrue (fits case a) → IsFirstLeast (may case a r) (rank case a r) (length case.places) s → k < s
    → (b : Bool) → may case a r k ≡ b → is_next case a r (server_with case a k) ≡ false
passed case a r s k fitting f below true e = passed-over case a r s k fitting f.within f.here (f.first k below e)
passed case a r s k fitting f below false e =
    fails-left (may case a r k) (list_all (λ t. not (may_be_taken case r t && goes_before case a r t.0 (place_of case k))) (servers_with_places case a)) e

none-before : (case : Case) (a : Assignment) (r s : ℕ) → IsTrue (fits case a) → IsFirstLeast (may case a r) (rank case a r) (length case.places) s
    → list_all (λ t. not (may_be_taken case r t && goes_before case a r t.0 (place_of case s))) (servers_with_places case a) ≡ true
none-before case a r s fitting f =
    let test : Place × Option ℕ → Bool = λ t. not (may_be_taken case r t && goes_before case a r t.0 (place_of case s)) in
    list_all-from_AllPass test (servers_with_places case a)
    (λ k d inside.
    let within : k < length case.places = omega (arith, assigned-length case a fitting) in
    ap test (read-any (servers_with_places case a) k d (no_place, None) inside ∙ assigned-at case a k fitting within)
    ∙ either-fails (may case a r k) (goes_before case a r (place_of case k) (place_of case s))
    (f.least k within))
  where
    read-any : {X : Type 0} (xs : List X) (k : ℕ) (d e : X) → k < length xs → get_or xs k d ≡ get_or xs k e
    read-any [] k d e h = absurd (omega arith)
    read-any (x ∷ xs) zero d e h = refl
    read-any (x ∷ xs) (suc k) d e h = read-any xs k d e (omega arith)

taken-some : (case : Case) (a : Assignment) (r s : ℕ) → IsTrue (fits case a) → IsFirstLeast (may case a r) (rank case a r) (length case.places) s
    → next_server case a r ≡ Some s
taken-some case a r s fitting f =
    position_at (is_next case a r) (servers_with_places case a) s (no_place, None) (omega (arith, f.within, assigned-length case a fitting))
    (λ k below.
    let within : k < length case.places = omega (arith, f.within) in
    ap (is_next case a r) (assigned-at case a k fitting within) ∙ passed case a r s k fitting f below (may case a r k) refl)
    (ap (is_next case a r) (assigned-at case a s fitting f.within)
    ∙ both (may case a r s) (list_all (λ t. not (may_be_taken case r t && goes_before case a r t.0 (place_of case s))) (servers_with_places case a)) f.here (none-before case a r s fitting f))

taken-best : (case : Case) (a : Assignment) (r : ℕ) → IsTrue (fits case a) → (o : Option Candidate) → IsBest case a r (length case.places) o
    → option_map (λ c. c.server) o ≡ next_server case a r
taken-best case a r fitting None none = sym (taken-none case a r fitting none)
taken-best case a r fitting (Some c) best = sym (taken-some case a r c.server fitting best.1)

pub best-is_taken : (case : Case) (a : Assignment) (r : ℕ) → IsTrue (fits case a)
    → option_map (λ c. c.server) (best_of case a r (length case.places)) ≡ next_server case a r
best-is_taken case a r fitting = taken-best case a r fitting (best_of case a r (length case.places)) (best-is case a r (length case.places))
