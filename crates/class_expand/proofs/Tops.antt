-- The counts of an assignment, and the least numbers of the helpers, are at most the tops of the columns of a phase's program.
use Rattle.std.proofs.Common.{◌≡◌, ℕ, ◌+◌, ◌-◌, ◌≤◌, max, Bool, true, false, cond, List, [], ◌∷◌, length, arith, ap, refl, Some, All, get_or}
use Rattle.std.specs.Prelude.{sum_by, count_by, map, slice_get, Option, ◌==◌, ◌&&◌}
use Rattle.std.specs.List.{range_with_len}
use Rattle.std.specs.Option.{option_map_or}
use Rattle.std.proofs.lemmas.List.Sums.{sum_by-cons}
use Rattle.std.proofs.lemmas.List.Elements.{All-nil, All-cons, All-weaker}
use Rattle.plan_model.specs.declared.cases.Case.{Case}
use Rattle.plan_model.specs.declared.cases.Goal.{Goal}
use Rattle.plan_model.specs.declared.cases.Place.{Place}
use Rattle.plan_model.specs.declared.cases.Assignment.{Assignment}
use Rattle.plan_model.specs.declared.cases.Grouping.{Grouping}
use Rattle.plan_model.specs.Units.{want_of, value_for, is_for, share_of, server_with, place_of, units_where, units_on_board, units_in_center}
use Rattle.plan_model.specs.Costs.{greatest}
use Rattle.symmetry_classes.specs.declared.groups.Class.{Class}
use Rattle.program_rows.specs.Members.{gets, members_with}
use Rattle.program_rows.specs.Settings.{Setting, movable_servers, phase_classes}
use Rattle.program_rows.specs.Programs.{movable_value}
use Rattle.program_rows.specs.Phases.{IsPhase, is_active}
use Rattle.program_rows.proofs.PhaseSums.{IsLawful, most-all}
use Rattle.program_rows.proofs.PhaseRows.{columns_of, movable-where}
use Rattle.class_expand.specs.Lifting.{number_of, lack}
use Rattle.program_rows.proofs.Lists.{greatest-most}
use Rattle.program_rows.proofs.Parts.{IsShortEntry, columns-all}

and-left : (a b : Bool) → (a && b) ≡ true → a ≡ true
and-left true b h = refl
and-left false b h = h

and-right : (a b : Bool) → (a && b) ≡ true → b ≡ true
and-right true b h = h
and-right false b h = cc

cond-most : (b : Bool) (n : ℕ) → cond b n 0 ≤ n
cond-most true n = omega arith
cond-most false n = omega arith

cond-twice : (b c : Bool) (n : ℕ) → cond b (cond c n 0) 0 ≤ n
cond-twice true true n = omega arith
cond-twice true false n = omega arith
cond-twice false c n = omega arith

count_by-most : {X : Type 0} (p : X → Bool) (xs : List X) → count_by p xs ≤ length xs
count_by-most p [] = omega arith
count_by-most p (x ∷ xs) =
    let here = cond-most (p x) 1 in
    let rest = count_by-most p xs in
    let step : count_by p (x ∷ xs) ≡ cond (p x) 1 0 + count_by p xs = sum_by-cons (λ y. cond (p y) 1 0) x xs in
    omega (arith, here, rest, step)

-- each is at most the greatest
pub greatest-bounds : (f : ℕ → ℕ) (xs : List ℕ) → All (λ x. f x ≤ greatest (map f xs)) xs
greatest-bounds f [] = All-nil (λ x. f x ≤ 0)
greatest-bounds f (x ∷ xs) =
    All-cons (λ y. f y ≤ max (f x) (greatest (map f xs))) x xs (omega arith)
    (All-weaker (λ y. f y ≤ greatest (map f xs)) (λ y. f y ≤ max (f x) (greatest (map f xs))) (λ y h. omega (arith, h)) xs (greatest-bounds f xs))

module _ (case : Case) (setting : Setting) (phase : IsPhase case setting) (a : Assignment) (lawful : IsLawful case setting a) (how : Grouping) where
  -- the units in a part are at most the value of all movable servers
  pub units-most : (r : ℕ) → is_active setting r ≡ true → (test : Place → Bool) → units_where test case a r ≤ movable_value case setting r
  units-most r within test =
      let servers = movable_servers case setting in
      let given : ℕ → ℕ = λ t. cond (test (place_of case t)) (share_of case r (server_with case a t)) 0 in
      let value : ℕ → ℕ = λ t. value_for case r (place_of case t).kind in
      let most : sum_by given servers ≤ sum_by value servers = most-all given value servers (λ k d inside.
      cond-twice (test (place_of case (get_or servers k d))) (is_for r (server_with case a (get_or servers k d)).1) (value (get_or servers k d))) in
      let same = movable-where case setting phase a lawful test r within in
      omega (arith, most, same)

  short-top : (r entry : ℕ) (goal : Goal) → IsShortEntry case r entry goal → lack case a r (slice_get (want_of case r).near entry) ≤ goal.least
  short-top r entry goal short =
      let same : lack case a r (slice_get (want_of case r).near entry) ≡ goal.least - option_map_or (units_in_center case a r) goal.center 0 = ap (lack case a r) short.read in
      omega (arith, same)

  count-top : (c : ℕ) (class : Class) (to : Option ℕ) → slice_get (phase_classes case setting how) c ≡ Some class → members_with a to (slice_get (phase_classes case setting how) c) ≤ length class.members
  count-top c class to read =
      let same : members_with a to (slice_get (phase_classes case setting how) c) ≡ count_by (gets a to) class.members = ap (members_with a to) read in
      let most = count_by-most (gets a to) class.members in
      omega (arith, same, most)

  pub within-tops : All (λ c. number_of case setting how a c.mark ≤ c.top) (columns_of case setting how)
  within-tops =
      columns-all case setting (λ c. number_of case setting how a c.mark ≤ c.top) how (record {
        counts = count-top;
        helpers = λ r within. record {
          share = λ has. greatest-most (movable_value case setting r) (units_on_board case a r) (range_with_len 0 case.boards)
              (λ k d inside. units-most r within (λ s. s.board == get_or (range_with_len 0 case.boards) k d));
          board = λ board there weight touched. let most = units-most r within (λ s. s.board == board) in omega (arith, most);
          short = short-top r;
          rack = λ rack there weight touched. let most = units-most r within (λ s. s.rack == rack) in omega (arith, most);
        };
      })
