-- In a phase, the class rows and the costs of the count columns at the counts of an assignment.
use Rattle.std.proofs.Common.{◌≡◌, ℕ, suc, ◌+◌, ◌*◌, ◌<◌, Bool, true, false, cond, List, [], ◌∷◌, length, get_or, arith, ap, sym, ◌∙◌, refl, Some, None, All, zero-add}
use Rattle.std.specs.Prelude.{sum_by, count_by, filter, map, flat_map, slice_get, Option, nat_lt, nat_eq, ◌==◌, ◌&&◌, not}
use Rattle.std.specs.List.{enumerate_from, list_all}
use Rattle.std.specs.Option.{option_eq}
use Rattle.std.specs.Cmp.{nat_eq_equiv}
use Rattle.std.proofs.lemmas.List.Sums.{sum_by-cons, sum_by-append}
use Rattle.std.proofs.lemmas.List.Elements.{All-nil, All-cons, All-head, All-tail, All-filter, filter_passes}
use Rattle.std.proofs.lemmas.Bool.{eqb-true, eq-eqb}
use Rattle.plan_model.specs.declared.cases.Place.{Place}
use Rattle.plan_model.specs.declared.cases.Case.{Case}
use Rattle.plan_model.specs.declared.cases.Assignment.{Assignment}
use Rattle.plan_model.specs.declared.cases.Grouping.{Grouping}
use Rattle.plan_model.specs.Units.{value_for, place_of, server_with, servers_with_places, all_reservations}
use Rattle.plan_model.specs.Allowed.{serves}
use Rattle.plan_model.specs.Costs.{move_cost, up_move_cost, terms_cost, region_cost}
use Rattle.plan_model.specs.Rack.{is_movable, none_or_in}
use Rattle.plan_model.proofs.SumLemmas.{length-fits, sum_by-filter}
use Rattle.symmetry_classes.specs.declared.groups.Class.{Class}
use Rattle.symmetry_classes.specs.Groups.{same_class, class_of, first_of_each}
use Rattle.symmetry_classes.proofs.Partition.{sum_by-classes, sum_by-same, sum_by-zero}
use Rattle.symmetry_classes.proofs.SameClass.{same_class-equivalence, common-from_class}
use Rattle.ip_model.specs.declared.parts.Mark.{Mark}
use Rattle.ip_model.specs.declared.parts.Column.{Column}
use Rattle.program_rows.specs.Members.{gets, members_with}
use Rattle.program_rows.specs.Phases.{IsPhase, is_active}
use Rattle.program_rows.specs.Settings.{Setting, movable_servers, phase_classes}
use Rattle.program_rows.specs.Programs.{in_class, count_columns, count_column, helper_columns, destinations, program_base}
use Rattle.program_rows.proofs.ListSums.{sum_by-flat_map, sum_by-map, sum_by-times, sum_by-enumerate_get}
use Rattle.program_rows.proofs.ClassSums.{each_once, weights-of_class, sum_by-plus}
use Rattle.program_rows.proofs.ClassRows.{helpers-vanish, enumerate_get_at, pick, in_class-counts}
use Rattle.program_rows.proofs.PhaseSums.{same-all, zero-all, once-sum, once-active, start-of, All-active, LawfulAt, IsLawful, movable-sum, assigned-sum, start-sum, lawful-at, trio}
use Rattle.program_rows.proofs.PhaseRows.{CountsIn, columns_of, stays-at, goes-at, inactive-terms}

and-left : (a b : Bool) → (a && b) ≡ true → a ≡ true
and-left true b h = refl
and-left false b h = h

and-right : (a b : Bool) → (a && b) ≡ true → b ≡ true
and-right true b h = h
and-right false b h = cc

both : (a b : Bool) → a ≡ true → b ≡ true → (a && b) ≡ true
both true b e h = h
both false b e h = e

pub list_all-from : {X : Type 0} (test : X → Bool) (xs : List X) → All (λ x. test x ≡ true) xs → list_all test xs ≡ true
list_all-from test [] a = refl
list_all-from test (x ∷ xs) a = both (test x) (list_all test xs) (All-head (λ y. test y ≡ true) x xs a) (list_all-from test xs (All-tail (λ y. test y ≡ true) x xs a))

pub one-of : (b : Bool) (n : ℕ) → cond b 1 0 * n ≡ cond b n 0
one-of true n = omega arith
one-of false n = omega arith

pub passed : (b : Bool) → ◌≡◌ {A = ℕ} (cond b 0 1) 0 → b ≡ true
passed true h = refl
passed false h = absurd (omega arith)

ones : {X : Type 0} (xs : List X) → sum_by (λ _. 1) xs ≡ length xs
ones [] = refl
ones (x ∷ xs) = sum_by-cons (λ _. 1) x xs ∙ (let next : 1 + sum_by (λ _. 1) xs ≡ suc (length xs) = omega (arith, ones xs) in next)

one-more : (n : ℕ) → n ≡ 1 * n
one-more n = omega arith

all-map : {X Y : Type 0} (P : Y → Type 0) (f : X → Y) (xs : List X) → ((x : X) → P (f x)) → All P (map f xs)
all-map P f [] h = All-nil P
all-map P f (x ∷ xs) h = All-cons P (f x) (map f xs) (h x) (all-map P f xs h)

-- the columns of a class hold what its destinations get
pub class-columns : (case : Case) (setting : Setting) (a : Assignment) (how : Grouping) (number : Mark → ℕ) → CountsIn case setting how a number
    → (c : ℕ) (class : Class) → slice_get (phase_classes case setting how) c ≡ Some class
    → sum_by (λ col. in_class c col.mark * number col.mark) (columns_of case setting how) ≡ sum_by (λ to. count_by (gets a to) class.members) (destinations case setting class)
class-columns case setting a how number counts c class at =
    let classes = phase_classes case setting how in
    let weigh : Column → ℕ = λ col. in_class c col.mark * number col.mark in
    let of_class : ℕ → Option Class → Class → ℕ = λ i o k. sum_by (λ to. cond (i == c) 1 0 * members_with a to o) (destinations case setting k) in
    let got : Class → ℕ = λ k. sum_by (λ to. count_by (gets a to) k.members) (destinations case setting k) in
    let helpers : sum_by weigh (flat_map (helper_columns case setting) setting.active) ≡ 0 =
    sum_by-flat_map weigh (helper_columns case setting) setting.active
    ∙ sum_by-zero (λ q. sum_by weigh (helper_columns case setting q)) (helpers-vanish case setting (in_class c) number (in_class-counts c)) setting.active in
    let counted : sum_by weigh (flat_map (count_columns case setting) (enumerate_from 0 classes)) ≡ got class =
    sum_by-flat_map weigh (count_columns case setting) (enumerate_from 0 classes)
    ∙ sum_by-same (λ e. sum_by weigh (count_columns case setting e)) (λ e. of_class e.0 (slice_get classes e.0) e.1)
    (λ e. sum_by-map weigh (count_column case e) (destinations case setting e.1)
    ∙ sum_by-same (λ to. weigh (count_column case e to)) (λ to. cond (e.0 == c) 1 0 * members_with a to (slice_get classes e.0))
    (λ to. ap (λ n. cond (e.0 == c) 1 0 * n) (counts.counted e.0 to)) (destinations case setting e.1))
    (enumerate_from 0 classes)
    ∙ enumerate_get_at of_class classes [] classes 0 refl refl
    ∙ sum_by-same (λ e. of_class e.0 (Some e.1) e.1) (λ e. cond (e.0 == c) (got e.1) 0)
    (λ e. sum_by-times (cond (e.0 == c) 1 0) (λ to. count_by (gets a to) e.1.members) (destinations case setting e.1) ∙ one-of (e.0 == c) (got e.1)) (enumerate_from 0 classes)
    ∙ sym (ap (λ j. sum_by (λ e. cond (e.0 == j) (got e.1) 0) (enumerate_from 0 classes)) (zero-add c))
    ∙ pick got classes 0 c class at in
    sum_by-append weigh (flat_map (count_columns case setting) (enumerate_from 0 classes)) (flat_map (helper_columns case setting) setting.active)
    ∙ (let sum : sum_by weigh (flat_map (count_columns case setting) (enumerate_from 0 classes)) + sum_by weigh (flat_map (helper_columns case setting) setting.active) ≡ got class =
    omega (arith, helpers, counted) in sum)

picked-same : (b c p : Bool) → b ≡ c → (b ≡ true → p ≡ true) → ◌≡◌ {A = ℕ} (cond p (cond b 1 0) 0) (cond c 1 0)
picked-same true c p e h = ap (λ z. cond z 1 0) (h refl) ∙ ap (λ z. cond z 1 0) e
picked-same false c true e h = ap (λ z. cond z 1 0) e
picked-same false c false e h = ap (λ z. cond z 1 0) e

-- how often a reservation stands among the destinations of a class
pub stands-some : (case : Case) (setting : Setting) (class : Class) (r : ℕ)
    → sum_by (λ to. cond (option_eq nat_eq (Some r) to) 1 0) (destinations case setting class) ≡ sum_by (λ q. cond (nat_lt 0 (value_for case q class.kind)) (cond (r == q) 1 0) 0) setting.active
stands-some case setting class r =
    let passes : ℕ → Bool = λ q. nat_lt 0 (value_for case q class.kind) in
    let term : Option ℕ → ℕ = λ to. cond (option_eq nat_eq (Some r) to) 1 0 in
    let body = sum_by-map term (λ q. Some q) (filter passes setting.active) ∙ sum_by-filter passes (λ q. term (Some q)) setting.active in
    sum_by-append term (map (λ q. Some q) (filter passes setting.active)) (None ∷ [])
    ∙ (let sum : sum_by term (map (λ q. Some q) (filter passes setting.active)) + 0 ≡ sum_by (λ q. cond (passes q) (cond (r == q) 1 0) 0) setting.active = omega (arith, body) in sum)

pub stands-none : (case : Case) (setting : Setting) (class : Class) → sum_by (λ to. cond (option_eq nat_eq None to) 1 0) (destinations case setting class) ≡ 1
stands-none case setting class =
    let passes : ℕ → Bool = λ q. nat_lt 0 (value_for case q class.kind) in
    let term : Option ℕ → ℕ = λ to. cond (option_eq nat_eq None to) 1 0 in
    let body : sum_by term (map (λ q. Some q) (filter passes setting.active)) ≡ 0 =
    sum_by-map term (λ q. Some q) (filter passes setting.active) ∙ sum_by-zero (λ q. term (Some q)) (λ q. refl) (filter passes setting.active) in
    sum_by-append term (map (λ q. Some q) (filter passes setting.active)) (None ∷ []) ∙ ap (λ k. k + 1) body

-- a reservation, or none, that may be where it is stands once among the destinations of its type
pub destination-once : (case : Case) (setting : Setting) → IsPhase case setting → (class : Class) (o : Option ℕ)
    → ((q : ℕ) → o ≡ Some q → (is_active setting q ≡ true) × (nat_lt 0 (value_for case q class.kind) ≡ true))
    → sum_by (λ to. cond (option_eq nat_eq o to) 1 0) (destinations case setting class) ≡ 1
destination-once case setting phase class None h = stands-none case setting class
destination-once case setting phase class (Some r) h =
    let passes : ℕ → Bool = λ q. nat_lt 0 (value_for case q class.kind) in
    let known = h r refl in
    stands-some case setting class r
    ∙ sum_by-same (λ q. cond (passes q) (cond (r == q) 1 0) 0) (λ q. cond (q == r) 1 0)
    (λ q. picked-same (r == q) (q == r) (passes q) (nat_eq_equiv.symm r q) (λ e. ap passes (sym (eqb-true r q e)) ∙ known.1)) setting.active
    ∙ once-active case setting (start-of case setting phase) r known.0

-- a movable server is up, serves, and goes to none or an active reservation
abbrev pub settles : Case → Setting → Place × Option ℕ → Bool
settles case setting s = s.0.up && (serves case s && none_or_in setting.active s.1)

cond-both : (b : Bool) (n : ℕ) → cond b n 0 + cond (not b) n 0 ≡ n
cond-both true n = omega arith
cond-both false n = omega arith

pub not-cond : (b : Bool) (n m : ℕ) → (b ≡ false → n ≡ m) → cond (not b) n 0 ≡ cond (not b) m 0
not-cond true n m h = refl
not-cond false n m h = h refl

module _ (case : Case) (setting : Setting) (phase : IsPhase case setting) (a : Assignment) (lawful : IsLawful case setting a) where
  abbrev servers : List ℕ
  servers = movable_servers case setting

  abbrev unsettled : Place × Option ℕ → ℕ
  unsettled s = cond (settles case setting s) 0 1

  settles-at : (p : Place) (from to : Option ℕ) → LawfulAt case setting ((p, from), to) → (b : Bool) → is_movable case setting.active (p, from) ≡ b → cond b (unsettled (p, to)) 0 ≡ 0
  settles-at p from to at false e = refl
  settles-at p from to at true e =
      ap (λ z. cond z 0 1)
      (both p.up (serves case (p, to) && none_or_in setting.active to) (and-left _ _ (and-left _ _ e)) (both (serves case (p, to)) (none_or_in setting.active to) at.serve (goes-at case setting p from to at e)))

  pub movable-settle : All (λ t. settles case setting (server_with case a t) ≡ true) servers
  movable-settle =
      let all = trio case setting phase a (length-fits case a lawful.fit) in
      let none : sum_by (λ t. unsettled (server_with case a t)) servers ≡ 0 =
      movable-sum case setting phase a (length-fits case a lawful.fit) unsettled
      ∙ same-all (λ s. cond (is_movable case setting.active s.0) (unsettled (s.0.0, s.1)) 0) (λ _. 0) all
      (λ k d inside. let s = get_or all k d in
      settles-at s.0.0 s.0.1 s.1 (lawful-at case setting phase a (length-fits case a lawful.fit) lawful k d inside) (is_movable case setting.active s.0) refl)
      ∙ sum_by-zero (λ _. 0) (λ _. refl) all in
      let zeros = zero-all (λ t. unsettled (server_with case a t)) servers none in
      λ k d inside. passed (settles case setting (server_with case a (get_or servers k d))) (zeros k d inside)

  module _ (how : Grouping) where
    abbrev same_as : ℕ → ℕ → Bool
    same_as x = same_class how setting.racks case x

    abbrev class_at : ℕ → Class
    class_at x = class_of how setting.racks case servers x

    members-settle : (x : ℕ) → All (λ t. settles case setting (server_with case a t) ≡ true) (filter (same_as x) servers)
    members-settle x = All-filter (same_as x) (λ t. settles case setting (server_with case a t) ≡ true) servers movable-settle

    member-valued : (x s : ℕ) → same_as x s ≡ true → settles case setting (server_with case a s) ≡ true → (q : ℕ) → get_or a.of s None ≡ Some q
        → (is_active setting q ≡ true) × (nat_lt 0 (value_for case q (place_of case x).kind) ≡ true)
    member-valued x s e v q o =
        let at_q : settles case setting (place_of case s, Some q) ≡ true = ap (λ z. settles case setting (place_of case s, z)) (sym o) ∙ v in
        let rest = and-right _ _ at_q in
        (and-right _ _ rest, ap (λ k. nat_lt 0 (value_for case q k)) (common-from_class how setting.racks case x s e).kind ∙ and-right _ _ (and-left _ _ rest))

    pub members-once : (x : ℕ) → each_once a (destinations case setting (class_at x)) (filter (same_as x) servers) ≡ true
    members-once x =
        let tos = destinations case setting (class_at x) in
        let members = filter (same_as x) servers in
        list_all-from (λ s. sum_by (λ to. cond (gets a to s) 1 0) tos == 1) members
        (λ k d inside. let s = get_or members k d in
        eq-eqb (sum_by (λ to. cond (gets a to s) 1 0) tos) 1
        (destination-once case setting phase (class_at x) (get_or a.of s None) (member-valued x s (filter_passes (same_as x) servers k d inside) (members-settle x k d inside))))

    members-counted : (x : ℕ) → sum_by (λ to. count_by (gets a to) (filter (same_as x) servers)) (destinations case setting (class_at x)) ≡ length (filter (same_as x) servers)
    members-counted x =
        let tos = destinations case setting (class_at x) in
        let members = filter (same_as x) servers in
        sum_by-same (λ to. count_by (gets a to) members) (λ to. 1 * count_by (gets a to) members) (λ to. one-more (count_by (gets a to) members)) tos
        ∙ weights-of_class a (λ _. 1) tos members (members-once x) ∙ ones members

    -- the columns of each class hold as many as it has members
    pub classes-counted : All (λ class. sum_by (λ to. count_by (gets a to) class.members) (destinations case setting class) ≡ length class.members) (phase_classes case setting how)
    classes-counted = all-map (λ class. sum_by (λ to. count_by (gets a to) class.members) (destinations case setting class) ≡ length class.members) class_at
        (first_of_each (same_class how setting.racks case) servers) members-counted

    abbrev cost_of : ℕ → ℕ
    cost_of t = move_cost case.moves (server_with case a t)

    member-cost : (x s : ℕ) → same_as x s ≡ true → settles case setting (server_with case a s) ≡ true
        → up_move_cost case.moves (place_of case x).holder (place_of case x).busy (get_or a.of s None) ≡ cost_of s
    member-cost x s e v =
        let common = common-from_class how setting.racks case x s e in
        ap (λ z. up_move_cost case.moves z (place_of case x).busy (get_or a.of s None)) common.holder
        ∙ ap (λ z. up_move_cost case.moves (place_of case s).holder z (get_or a.of s None)) common.busy
        ∙ sym (ap (λ b. cond b (up_move_cost case.moves (place_of case s).holder (place_of case s).busy (get_or a.of s None)) 0) (and-left _ _ v))

    class-cost : (x : ℕ) → sum_by (λ to. up_move_cost case.moves (place_of case x).holder (place_of case x).busy to * count_by (gets a to) (filter (same_as x) servers))
        (destinations case setting (class_at x)) ≡ sum_by cost_of (filter (same_as x) servers)
    class-cost x =
        let members = filter (same_as x) servers in
        weights-of_class a (up_move_cost case.moves (place_of case x).holder (place_of case x).busy) (destinations case setting (class_at x)) members (members-once x)
        ∙ same-all (λ s. up_move_cost case.moves (place_of case x).holder (place_of case x).busy (get_or a.of s None)) cost_of members
        (λ k d inside. member-cost x (get_or members k d) (filter_passes (same_as x) servers k d inside) (members-settle x k d inside))

    module _ (number : Mark → ℕ) (counts : CountsIn case setting how a number) where
      abbrev column_cost : Column → ℕ
      column_cost c = c.cost * number c.mark

      abbrev of_class : Option Class → Class → ℕ
      of_class o class = sum_by (λ to. up_move_cost case.moves class.holder class.busy to * members_with a to o) (destinations case setting class)

      pub counts-cost : sum_by column_cost (flat_map (count_columns case setting) (enumerate_from 0 (phase_classes case setting how))) ≡ sum_by cost_of servers
      counts-cost =
          let classes = phase_classes case setting how in
          sum_by-flat_map column_cost (count_columns case setting) (enumerate_from 0 classes)
          ∙ sum_by-same (λ e. sum_by column_cost (count_columns case setting e)) (λ e. of_class (slice_get classes e.0) e.1)
          (λ e. sum_by-map column_cost (count_column case e) (destinations case setting e.1)
          ∙ sum_by-same (λ to. column_cost (count_column case e to)) (λ to. up_move_cost case.moves e.1.holder e.1.busy to * members_with a to (slice_get classes e.0))
          (λ to. ap (λ n. up_move_cost case.moves e.1.holder e.1.busy to * n) (counts.counted e.0 to)) (destinations case setting e.1)) (enumerate_from 0 classes)
          ∙ sum_by-enumerate_get of_class classes [] classes 0 refl refl
          ∙ sum_by-map (λ class. of_class (Some class) class) class_at (first_of_each (same_class how setting.racks case) servers)
          ∙ sum_by-same (λ x. of_class (Some (class_at x)) (class_at x)) (λ x. sum_by cost_of (filter (same_as x) servers)) class-cost (first_of_each (same_class how setting.racks case) servers)
          ∙ sum_by-classes (same_class how setting.racks case) (same_class-equivalence how setting.racks case) cost_of servers

      -- with the terms of the active reservations, the base and the count columns make the region cost
      pub base-counts-terms : program_base case setting + sum_by column_cost (flat_map (count_columns case setting) (enumerate_from 0 (phase_classes case setting how)))
          + sum_by (terms_cost case a) setting.active ≡ region_cost case a
      base-counts-terms =
          let h : Place × Option ℕ → Bool = is_movable case setting.active in
          let f : Place × Option ℕ → ℕ = move_cost case.moves in
          let all = trio case setting phase a (length-fits case a lawful.fit) in
          let numbers = all_reservations case in
          let movable = counts-cost ∙ movable-sum case setting phase a (length-fits case a lawful.fit) f in
          let fixed : sum_by f (filter (λ s. not (h s)) (servers_with_places case setting.start)) ≡ sum_by (λ s. cond (not (h s.0)) (f (s.0.0, s.1)) 0) all =
          sum_by-filter (λ s. not (h s)) f (servers_with_places case setting.start)
          ∙ start-sum case setting phase a (length-fits case a lawful.fit) (λ s. cond (not (h s)) (f s) 0)
          ∙ same-all (λ s. cond (not (h s.0)) (f s.0) 0) (λ s. cond (not (h s.0)) (f (s.0.0, s.1)) 0) all
          (λ k d inside. let s = get_or all k d in
          not-cond (h s.0) (f s.0) (f (s.0.0, s.1)) (λ e. ap (λ o. f (s.0.0, o)) (stays-at case setting s.0.0 s.0.1 s.1 (lawful-at case setting phase a (length-fits case a lawful.fit) lawful k d inside) e))) in
          let parts : sum_by (λ s. cond (h s.0) (f (s.0.0, s.1)) 0 + cond (not (h s.0)) (f (s.0.0, s.1)) 0) all ≡ sum_by f (servers_with_places case a) =
          sum_by-same (λ s. cond (h s.0) (f (s.0.0, s.1)) 0 + cond (not (h s.0)) (f (s.0.0, s.1)) 0) (λ s. f (s.0.0, s.1)) (λ s. cond-both (h s.0) (f (s.0.0, s.1))) all
          ∙ sym (assigned-sum case setting phase a (length-fits case a lawful.fit) f) in
          let split = sum_by-plus (λ s. cond (h s.0) (f (s.0.0, s.1)) 0) (λ s. cond (not (h s.0)) (f (s.0.0, s.1)) 0) all in
          let inactive : sum_by (terms_cost case setting.start) (filter (λ r. not (is_active setting r)) numbers) ≡ sum_by (λ r. cond (not (is_active setting r)) (terms_cost case a r) 0) numbers =
          sum_by-filter (λ r. not (is_active setting r)) (terms_cost case setting.start) numbers
          ∙ sum_by-same (λ r. cond (not (is_active setting r)) (terms_cost case setting.start r) 0) (λ r. cond (not (is_active setting r)) (terms_cost case a r) 0)
          (λ r. not-cond (is_active setting r) (terms_cost case setting.start r) (terms_cost case a r) (λ e. sym (inactive-terms case setting phase a lawful r e))) numbers in
          let active = once-sum (terms_cost case a) (length case.wants) setting.active (All-active setting (λ r. r < length case.wants) phase.there) phase.once in
          let terms : sum_by (λ r. cond (is_active setting r) (terms_cost case a r) 0 + cond (not (is_active setting r)) (terms_cost case a r) 0) numbers ≡ sum_by (terms_cost case a) numbers =
          sum_by-same (λ r. cond (is_active setting r) (terms_cost case a r) 0 + cond (not (is_active setting r)) (terms_cost case a r) 0) (terms_cost case a) (λ r. cond-both (is_active setting r) (terms_cost case a r)) numbers in
          let divided = sum_by-plus (λ r. cond (is_active setting r) (terms_cost case a r) 0) (λ r. cond (not (is_active setting r)) (terms_cost case a r) 0) numbers in
          omega (arith, movable, fixed, parts, split, inactive, active, terms, divided)
