-- What the rule of a case says of one reservation.
use Rattle.std.proofs.Common.{◌≡◌, ℕ, ◌<◌, ◌≤◌, Bool, true, false, List, length, get_or, arith, refl}
use Rattle.std.specs.Prelude.{◌&&◌}
use Rattle.std.specs.List.{list_all}
use Rattle.std.proofs.lemmas.List.Recursion.{and_at}
use Rattle.std.proofs.lemmas.Bool.Decides.{nat_tests}
use Rattle.plan_model.specs.declared.cases.Case.{Case}
use Rattle.plan_model.specs.CaseRule.{want_in_range, goal_in_range}
use Rattle.plan_model.specs.CaseLimits.{WantLimits}
use Rattle.plan_model.specs.Units.{want_of, no_want}

pub list_all-at : {X : Type 0} (test : X → Bool) (xs : List X) (i : ℕ) (d : X) → i < length xs → list_all test xs ≡ true → test (get_or xs i d) ≡ true
list_all-at test xs i d within all = and_at (list_all test) test refl (λ _ _. refl) xs i d within all

pub and-left : (a b : Bool) → (a && b) ≡ true → a ≡ true
and-left true b h = refl
and-left false b h = h

pub and-right : (a b : Bool) → (a && b) ≡ true → b ≡ true
and-right true b h = h
and-right false b h = cc

pub wants-in_range : (case : Case) → list_all (want_in_range case.kinds case.centers) case.wants ≡ true
wants-in_range case = and-right _ _ case.kept

pub want-in_range : (case : Case) (r : ℕ) → r < length case.wants → want_in_range case.kinds case.centers (want_of case r) ≡ true
want-in_range case r within = list_all-at (want_in_range case.kinds case.centers) case.wants r no_want within (wants-in_range case)

pub want-limits : (case : Case) (r : ℕ) → r < length case.wants → WantLimits (want_of case r)
want-limits case r within =
    let rule = want-in_range case r within in
    record {
      buffer_weight = grind (arith, nat_tests, rule);
      spread_weight = grind (arith, nat_tests, rule);
      rack_weight = grind (arith, nat_tests, rule);
      need = grind (arith, nat_tests, rule);
      near = grind (arith, nat_tests, rule);
    }

pub near-in_range : (case : Case) (r : ℕ) → r < length case.wants → list_all (goal_in_range case.centers) (want_of case r).near ≡ true
near-in_range case r within = and-right _ _ (want-in_range case r within)

-- a case has at most 64 switchboards, 64 datacenters and 64 reservations
pub few-boards : (case : Case) → case.boards ≤ 64
few-boards case = grind (arith, nat_tests, case.kept)

pub few-centers : (case : Case) → case.centers ≤ 64
few-centers case = grind (arith, nat_tests, case.kept)

pub few-wants : (case : Case) → length case.wants ≤ 64
few-wants case = grind (arith, nat_tests, case.kept)
