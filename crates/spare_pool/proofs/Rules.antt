-- What every state of a pool keeps.
use Rattle.std.proofs.Common.{◌≡◌, ℕ, zero, suc, ◌<◌, ◌≤◌, Bool, true, false, List, [], ◌∷◌, length, get_or, set, arith, ap, sym, ◌∙◌, refl, Some, None}
use Rattle.std.specs.Prelude.{Option, IfSome, zip, nat_lt, ◌&&◌, ◌==◌}
use Rattle.std.specs.List.{list_all}
use Rattle.std.proofs.lemmas.Bool.Decides.{nat_tests}
use Rattle.std.proofs.lemmas.List.{length-set, get_or_past}
use Rattle.std.proofs.lemmas.Slice.Zip.{get_or-zip, length-zip}
use Rattle.plan_model.specs.declared.cases.Case.{Case}
use Rattle.plan_model.specs.Units.{place_of, no_place}
use Rattle.plan_model.specs.CaseRule.{place_in_range}
use Rattle.plan_model.proofs.CaseFacts.{list_all-at, and-left, and-right}
use Rattle.spare_pool.specs.declared.standings.Standing.{Standing}
use Rattle.spare_pool.specs.States.{State, standing_of, with_standing, no_standing, may_stand, state_rule, is_spare, serving, value_of}

pub both : (a b : Bool) → a ≡ true → b ≡ true → (a && b) ≡ true
both true b h k = k
both false b h k = h

pub false-true : false ≡ true → ⊥
false-true h = cc

eq-is : (a b : ℕ) → a ≡ b → (a == b) ≡ true
eq-is a b h = grind (arith, nat_tests, h)

pub rule-long : (state : State) → state_rule state ≡ true → length state.servers ≡ length state.case.places
rule-long state h = grind (arith, nat_tests, h)

rule-all : (state : State) → state_rule state ≡ true → list_all (may_stand state.case) (zip state.case.places state.servers) ≡ true
rule-all state h = and-right _ _ h

-- each server stands as it may
pub rule-at : (state : State) (s : ℕ) → state_rule state ≡ true → s < length state.servers → may_stand state.case (place_of state.case s, standing_of state s) ≡ true
rule-at state s rule within =
    let there : s < length state.case.places = omega (arith, within, rule-long state rule) in
    let inside : s < length (zip state.case.places state.servers) = omega (arith, within, there, length-zip state.case.places state.servers) in
    sym (ap (may_stand state.case) (get_or-zip state.case.places state.servers s (no_place, no_standing) there within))
    ∙ list_all-at (may_stand state.case) (zip state.case.places state.servers) s (no_place, no_standing) inside (rule-all state rule)

pub zip-set : {X Y : Type 0} (xs : List X) (ys : List Y) (i : ℕ) (y : Y) (d : X) → i < length xs → zip xs (set ys i y) ≡ set (zip xs ys) i (get_or xs i d, y)
zip-set [] ys i y d h = absurd (omega (arith, h))
zip-set (x ∷ xs) [] i y d h = refl
zip-set (x ∷ xs) (z ∷ ys) zero y d h = refl
zip-set (x ∷ xs) (z ∷ ys) (suc i) y d h = ap (λ zs. (x, z) ∷ zs) (zip-set xs ys i y d (omega (arith, h)))

all-set : {X : Type 0} (p : X → Bool) (xs : List X) (i : ℕ) (y : X) → list_all p xs ≡ true → p y ≡ true → list_all p (set xs i y) ≡ true
all-set p [] i y h k = refl
all-set p (x ∷ xs) zero y h k = both (p y) (list_all p xs) k (and-right (p x) (list_all p xs) h)
all-set p (x ∷ xs) (suc i) y h k = both (p x) (list_all p (set xs i y)) (and-left (p x) (list_all p xs) h) (all-set p xs i y (and-right (p x) (list_all p xs) h) k)

-- a server that may stand so does not break the rule
pub put-rule : (state : State) (s : ℕ) (new : Standing) → state_rule state ≡ true → s < length state.servers
    → may_stand state.case (place_of state.case s, new) ≡ true → state_rule (with_standing state s new) ≡ true
put-rule state s new rule within here =
    let there : s < length state.case.places = omega (arith, within, rule-long state rule) in
    both _ _ (eq-is (length (set state.servers s new)) (length state.case.places) (length-set state.servers s new ∙ rule-long state rule))
    (ap (list_all (may_stand state.case)) (zip-set state.case.places state.servers s new no_place there)
    ∙ all-set (may_stand state.case) (zip state.case.places state.servers) s (place_of state.case s, new) (rule-all state rule) here)

-- a server may serve a reservation that is there and has a value above 0 for its type
pub may-serve : (state : State) (s r : ℕ) → r < length state.case.wants → 0 < value_of state r s → may_stand state.case (place_of state.case s, serving r) ≡ true
may-serve state s r there some =
    let one : nat_lt r (length state.case.wants) ≡ true = grind (arith, nat_tests, there) in
    let two : nat_lt 0 (value_of state r s) ≡ true = grind (arith, nat_tests, some) in
    both _ _ one two

-- what the rule says of a server that serves a reservation
pub record Serves (state : State) (s r : ℕ) : Type 0 where
  pub up : (standing_of state s).up ≡ true
  pub in_range : r < length state.case.wants
  pub some : 0 < value_of state r s

pub serves-of : (state : State) (s r : ℕ) → state_rule state ≡ true → s < length state.servers → (standing_of state s).serves ≡ Some r → Serves state s r
serves-of state s r rule within is =
    let standing : Standing = standing_of state s in
    let all : (standing.up && nat_lt r (length state.case.wants) && nat_lt 0 (value_of state r s)) ≡ true =
    sym (ap (λ (o : Option ℕ). may_stand state.case (place_of state.case s, record { serves = o; up = standing.up })) is) ∙ rule-at state s rule within in
    let low : nat_lt r (length state.case.wants) ≡ true = and-right _ _ (and-left _ _ all) in
    let high : nat_lt 0 (value_of state r s) ≡ true = and-right _ _ all in
    record {
      up = and-left _ _ (and-left _ _ all);
      in_range = grind (arith, nat_tests, low);
      some = grind (arith, nat_tests, high);
    }

-- a spare is a server of the state
pub spare-within : (state : State) (s : ℕ) → is_spare (standing_of state s) ≡ true → s < length state.servers
spare-within state s spare = at (nat_lt s (length state.servers)) refl
  where
    at : (b : Bool) → nat_lt s (length state.servers) ≡ b → s < length state.servers
    at true e = grind (arith, nat_tests, e)
    at false e =
        let past : length state.servers ≤ s = grind (arith, nat_tests, e) in
        absurd (false-true (sym (ap is_spare (get_or_past state.servers s no_standing past)) ∙ spare))

-- the type of a server is there
pub place-kind : (case : Case) (s : ℕ) → s < length case.places → (place_of case s).kind < case.kinds
place-kind case s within =
    let all : list_all (place_in_range case.kinds case.racks case.boards case.centers (length case.wants)) case.places ≡ true = and-right _ _ (and-left _ _ (and-left _ _ case.kept)) in
    let here : place_in_range case.kinds case.racks case.boards case.centers (length case.wants) (place_of case s) ≡ true = list_all-at (place_in_range case.kinds case.racks case.boards case.centers (length case.wants)) case.places s no_place within all in
    grind (arith, nat_tests, here)

-- a server that serves a reservation gives it units
pub serves-there : (state : State) (s : ℕ) → state_rule state ≡ true → s < length state.servers
    → IfSome (standing_of state s).serves (λ r. (r < length state.case.wants) × (0 < value_of state r s))
serves-there state s rule within = at (standing_of state s).serves refl
  where
    at : (o : Option ℕ) → (standing_of state s).serves ≡ o → IfSome o (λ r. (r < length state.case.wants) × (0 < value_of state r s))
    at None e = tt
    at (Some r) e = let k : Serves state s r = serves-of state s r rule within e in (k.in_range, k.some)
