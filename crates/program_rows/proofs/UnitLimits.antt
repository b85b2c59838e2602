-- The units of a reservation in a row, with each count at its top, are at most the value of all movable servers.
use Rattle.std.proofs.Common.{◌≡◌, ℕ, zero, suc, ◌+◌, ◌*◌, ◌<◌, ◌≤◌, Bool, true, false, cond, List, [], ◌∷◌, length, get_or, replicate, arith, ap, ◌∙◌, refl, Some, None, All}
use Rattle.std.specs.Prelude.{sum_by, count_by, map, filter, slice_get, Option, nat_lt, nat_le, nat_eq, ◌==◌, ◌&&◌}
use Rattle.std.specs.List.{enumerate_from}
use Rattle.std.specs.Option.{option_eq, option_map_or}
use Rattle.std.proofs.lemmas.List.Sums.{sum_by-cons}
use Rattle.std.proofs.lemmas.List.{get_or_past}
use Rattle.std.proofs.lemmas.List.Elements.{All-nil, All-cons, All-head, All-tail, All-filter}
use Rattle.std.proofs.lemmas.Slice.Zip.{length-zip}
use Rattle.std.proofs.lemmas.Bool.{eqb-true, eq-eqb}
use Rattle.std.proofs.lemmas.Bool.Decides.{nat_tests}
use Rattle.std.proofs.Math.Nat.{mul-le-mul_left}
use Rattle.plan_model.specs.declared.cases.Case.{Case}
use Rattle.plan_model.specs.declared.cases.Place.{Place}
use Rattle.plan_model.specs.declared.cases.Assignment.{Assignment}
use Rattle.plan_model.specs.declared.cases.Grouping.{Grouping}
use Rattle.plan_model.specs.Units.{want_of, value_for, is_for, share_of, place_of, server_with, servers_with_places}
use Rattle.plan_model.specs.Rack.{is_movable}
use Rattle.plan_model.proofs.CaseFacts.{list_all-at, want-in_range}
use Rattle.plan_model.proofs.SumLemmas.{length-fits}
use Rattle.symmetry_classes.specs.declared.groups.Class.{Class}
use Rattle.symmetry_classes.specs.Groups.{same_class, class_of, first_of_each, flagged_servers}
use Rattle.ip_model.specs.declared.parts.Mark.{Mark}
use Rattle.ip_model.specs.declared.parts.Mark.TheVariants.{Count}
use Rattle.program_rows.specs.Members.{gets, members_with}
use Rattle.program_rows.specs.Phases.{IsStart, is_active}
use Rattle.program_rows.specs.Settings.{Setting, movable_flags, movable_servers, phase_classes}
use Rattle.program_rows.specs.Programs.{units_at, movable_value}
use Rattle.program_rows.proofs.UnitsRows.{units-columns}
use Rattle.program_rows.proofs.PhaseSums.{most-all, once-active}
use Rattle.program_rows.proofs.PhaseRows.{columns_of}
use Rattle.program_rows.proofs.Lists.{All-map_to, All-filter_to, All-enumerate_to, all-at, length_map}
use Rattle.program_rows.proofs.Parts.{columns-all}
use Rattle.program_rows.proofs.LineLimits.{read-within}

and-left : (a b : Bool) → (a && b) ≡ true → a ≡ true
and-left true b h = refl
and-left false b h = h

and-right : (a b : Bool) → (a && b) ≡ true → b ≡ true
and-right true b h = h
and-right false b h = cc

value-by : (case : Case) (r kind : ℕ) → r < length case.wants → (b : Bool) → nat_lt kind (length (want_of case r).values) ≡ b → value_for case r kind ≤ 1000
value-by case r kind within true e =
    let inside : kind < length (want_of case r).values = grind (arith, nat_tests, e) in
    let values = and-right _ _ (and-left _ _ (and-left _ _ (want-in_range case r within))) in
    let most : nat_le (value_for case r kind) 1000 ≡ true = list_all-at (λ v. nat_le v 1000) (want_of case r).values kind 0 inside values in
    grind (arith, nat_tests, most)
value-by case r kind within false e =
    let past : length (want_of case r).values ≤ kind = grind (arith, nat_tests, e) in
    let none : value_for case r kind ≡ 0 = get_or_past (want_of case r).values kind 0 past in
    omega (arith, none)

-- a value is at most 1,000
pub value-most : (case : Case) (r kind : ℕ) → r < length case.wants → value_for case r kind ≤ 1000
value-most case r kind within = value-by case r kind within (nat_lt kind (length (want_of case r).values)) refl

pub flagged-within : (flags : List Bool) → All (λ t. t < length flags) (flagged_servers flags)
flagged-within flags =
    All-map_to (λ t. t < length flags) (λ (e : ℕ × Bool). e.0) (filter (λ e. e.1) (enumerate_from 0 flags))
    (All-filter_to (λ (e : ℕ × Bool). e.0 < length flags) (λ e. e.1) (enumerate_from 0 flags)
    (All-enumerate_to (λ (e : ℕ × Bool). e.1 ≡ true → e.0 < length flags) flags (λ i b read some. read-within flags i b read)))

replicate-at : (n s r : ℕ) → s < n → get_or (replicate {A = Option ℕ} n (Some r)) s None ≡ Some r
replicate-at zero s r h = absurd (omega arith)
replicate-at (suc n) zero r h = refl
replicate-at (suc n) (suc s) r h = replicate-at n s r (omega arith)

count-all : {X : Type 0} (p : X → Bool) (xs : List X) → All (λ x. p x ≡ true) xs → count_by p xs ≡ length xs
count-all p [] a = refl
count-all p (x ∷ xs) a =
    let here : ◌≡◌ {A = ℕ} (cond (p x) 1 0) 1 = ap (λ b. cond b 1 0) (All-head (λ y. p y ≡ true) x xs a) in
    let rest = count-all p xs (All-tail (λ y. p y ≡ true) x xs a) in
    sum_by-cons (λ y. cond (p y) 1 0) x xs ∙ (let sum : cond (p x) 1 0 + count_by p xs ≡ suc (length xs) = omega (arith, here, rest) in sum)

all-map : {X Y : Type 0} (P : Y → Type 0) (f : X → Y) (xs : List X) → ((x : X) → P (f x)) → All P (map f xs)
all-map P f [] h = All-nil P
all-map P f (x ∷ xs) h = All-cons P (f x) (map f xs) (h x) (all-map P f xs h)

cond-twice : (b c : Bool) (n : ℕ) → cond b (cond c n 0) 0 ≤ n
cond-twice true true n = omega arith
cond-twice true false n = omega arith
cond-twice false c n = omega arith

none-most : (n m : ℕ) → 0 * n ≤ 0 * m
none-most n m = omega arith

module _ (case : Case) (setting : Setting) (phase : IsStart case setting) (how : Grouping) (r : ℕ) (active : is_active setting r ≡ true)
    (test : Class → Bool) (place_test : Place → Bool)
    (agrees : (x : ℕ) → test (class_of how setting.racks case (movable_servers case setting) x) ≡ place_test (place_of case x))
    (respects : (x y : ℕ) → same_class how setting.racks case x y ≡ true → place_test (place_of case x) ≡ place_test (place_of case y)) where
  abbrev servers : List ℕ
  servers = movable_servers case setting

  -- every server with r
  abbrev filled : Assignment
  filled = record { of = replicate (length case.places) (Some r) }

  abbrev units : Mark → ℕ
  units = units_at case (phase_classes case setting how) test r

  abbrev number : Mark → ℕ
  number (Count c to) = members_with filled to (slice_get (phase_classes case setting how) c)
  number _ = 0

  servers-filled : All (λ s. gets filled (Some r) s ≡ true) servers
  servers-filled k d inside =
      let s = get_or servers k d in
      let flags = length_map (is_movable case setting.active) (servers_with_places case setting.start) in
      let start = length-fits case setting.start phase.fit in
      let below = flagged-within (movable_flags case setting) k d inside in
      let within : s < length case.places = omega (arith, below, flags, length-zip case.places setting.start.of, start) in
      ap (λ o. option_eq nat_eq o (Some r)) (replicate-at (length case.places) s r within) ∙ eq-eqb r r refl

  classes-filled : All (λ class. count_by (gets filled (Some r)) class.members ≡ length class.members) (phase_classes case setting how)
  classes-filled =
      all-map (λ class. count_by (gets filled (Some r)) class.members ≡ length class.members) (class_of how setting.racks case servers) (first_of_each (same_class how setting.racks case) servers)
      (λ x. count-all (gets filled (Some r)) (filter (same_class how setting.racks case x) servers) (All-filter (same_class how setting.racks case x) (λ s. gets filled (Some r) s ≡ true) servers servers-filled))

  count-by : (c : ℕ) (class : Class) (q : ℕ) → slice_get (phase_classes case setting how) c ≡ Some class → (b : Bool) → (q == r) ≡ b
      → units (Count c (Some q)) * length class.members ≤ units (Count c (Some q)) * members_with filled (Some q) (slice_get (phase_classes case setting how) c)
  count-by c class q read true e =
      let same : members_with filled (Some q) (slice_get (phase_classes case setting how) c) ≡ length class.members =
      ap (members_with filled (Some q)) read ∙ ap (λ z. count_by (gets filled (Some z)) class.members) (eqb-true q r e)
      ∙ all-at (λ k. count_by (gets filled (Some r)) k.members ≡ length k.members) (phase_classes case setting how) classes-filled c class read in
      mul-le-mul_left (units (Count c (Some q))) (omega (arith, same))
  count-by c class q read false e =
      let none : units (Count c (Some q)) ≡ 0 = ap (λ b. cond b (option_map_or (λ k. cond (test k) (value_for case r k.kind) 0) (slice_get (phase_classes case setting how) c) 0) 0) e in
      let first : units (Count c (Some q)) * length class.members ≡ 0 * length class.members = ap (λ n. n * length class.members) none in
      omega (arith, first)

  count-most : (c : ℕ) (class : Class) (to : Option ℕ) → slice_get (phase_classes case setting how) c ≡ Some class
      → units (Count c to) * length class.members ≤ units (Count c to) * members_with filled to (slice_get (phase_classes case setting how) c)
  count-most c class None read = none-most (length class.members) (members_with filled None (slice_get (phase_classes case setting how) c))
  count-most c class (Some q) read = count-by c class q read (q == r) refl

  pub tops-most : sum_by (λ c. units c.mark * c.top) (columns_of case setting how) ≤ movable_value case setting r
  tops-most =
      let given : ℕ → ℕ = λ t. cond (place_test (place_of case t)) (share_of case r (server_with case filled t)) 0 in
      let value : ℕ → ℕ = λ t. value_for case r (place_of case t).kind in
      let more = most-all (λ c. units c.mark * c.top) (λ c. units c.mark * number c.mark) (columns_of case setting how)
      (columns-all case setting (λ c. units c.mark * c.top ≤ units c.mark * number c.mark) how (record {
        counts = count-most;
        helpers = λ q a. record {
          share = λ has. omega arith;
          board = λ board there weight touched. omega arith;
          short = λ entry goal short. omega arith;
          rack = λ rack there weight touched. omega arith;
        };
      })) in
      let same = units-columns case filled setting how number (λ c to. refl) r (once-active case setting phase r active) test place_test agrees respects in
      let less = most-all given value servers (λ k d inside. let t = get_or servers k d in
      cond-twice (place_test (place_of case t)) (is_for r (server_with case filled t).1) (value t)) in
      omega (arith, more, same, less)
