-- In a phase, the rows of units at the counts of an assignment, and what a reservation keeps where it is not active.
use Rattle.std.proofs.Common.{◌≡◌, ℕ, ◌+◌, ◌*◌, ◌-◌, Bool, true, false, cond, List, [], ◌∷◌, get_or, ap, sym, ◌∙◌, refl, Some, None}
use Rattle.std.specs.Prelude.{sum_by, map, slice_get, Option, nat_lt, nat_le, nat_eq, ◌==◌, ◌&&◌, not, pos}
use Rattle.std.specs.List.{list_all, range_with_len}
use Rattle.std.specs.Option.{option_eq, option_map_or}
use Rattle.std.proofs.lemmas.Bool.{eqb-true}
use Rattle.plan_model.specs.declared.cases.Place.{Place}
use Rattle.plan_model.specs.declared.cases.Case.{Case}
use Rattle.plan_model.specs.declared.cases.Assignment.{Assignment}
use Rattle.plan_model.specs.declared.cases.Grouping.{Grouping}
use Rattle.plan_model.specs.Units.{value_for, share_of, units, units_where, units_on_board, units_in_center, servers_with_places, place_of, server_with, want_of}
use Rattle.plan_model.specs.Allowed.{keeps_need, survives}
use Rattle.plan_model.specs.Losses.{is_lost, losses}
use Rattle.plan_model.specs.Costs.{terms_cost, greatest, board_units, excess, shortage_cost}
use Rattle.plan_model.specs.Rack.{is_movable, none_or_in, some_value}
use Rattle.plan_model.proofs.SumLemmas.{length-fits, sum_by-filter}
use Rattle.symmetry_classes.specs.declared.groups.Class.{Class}
use Rattle.symmetry_classes.specs.Groups.{class_of, same_class}
use Rattle.symmetry_classes.proofs.Partition.{sum_by-same}
use Rattle.ip_model.specs.declared.parts.Mark.{Mark}
use Rattle.ip_model.specs.declared.parts.Mark.TheVariants.{Count}
use Rattle.ip_model.specs.declared.parts.Column.{Column}
use Rattle.ip_model.specs.declared.parts.RowKind.TheVariants.{Total}
use Rattle.program_rows.specs.Members.{members_with}
use Rattle.program_rows.specs.Phases.{IsPhase, is_active}
use Rattle.program_rows.specs.Settings.{Setting, movable_servers, phase_classes}
use Rattle.program_rows.specs.Programs.{units_at, program_columns, total_line}
use Rattle.program_rows.proofs.LineSums.{term_sum, term_sum-line}
use Rattle.program_rows.proofs.UnitsRows.{units-columns}
use Rattle.program_rows.proofs.LineSums.{column_sum-pos}
use Rattle.program_rows.proofs.PhaseSums.{same-all, any-weaker, once-active, start-of, LawfulAt, IsLawful, movable-sum, assigned-sum, start-sum, lawful-at, trio}

and-left : (a b : Bool) → (a && b) ≡ true → a ≡ true
and-left true b h = refl
and-left false b h = h

and-right : (a b : Bool) → (a && b) ≡ true → b ≡ true
and-right true b h = h
and-right false b h = cc

both : (a b : Bool) → a ≡ true → b ≡ true → (a && b) ≡ true
both true b e h = h
both false b e h = e

option_eq-true : (o p : Option ℕ) → option_eq nat_eq o p ≡ true → o ≡ p
option_eq-true None None h = refl
option_eq-true (Some x) (Some y) h = ap (λ z. Some z) (eqb-true x y h)
option_eq-true None (Some y) h = cc
option_eq-true (Some x) None h = cc

else-of : (b x y : Bool) → b ≡ false → cond b x y ≡ true → y ≡ true
else-of false x y e h = h
else-of true x y e h = cc

then-of : (b x y : Bool) → b ≡ true → cond b x y ≡ true → x ≡ true
then-of true x y e h = h
then-of false x y e h = cc

-- a server that may not be moved stays, and one that may goes to none or an active reservation
pub stays-at : (case : Case) (setting : Setting) (p : Place) (from to : Option ℕ) → LawfulAt case setting ((p, from), to)
    → is_movable case setting.active (p, from) ≡ false → from ≡ to
stays-at case setting p from to at fixed =
    option_eq-true from to (else-of (is_movable case setting.active (p, from)) (none_or_in setting.active to) (option_eq nat_eq from to) fixed at.keeps)

pub goes-at : (case : Case) (setting : Setting) (p : Place) (from to : Option ℕ) → LawfulAt case setting ((p, from), to)
    → is_movable case setting.active (p, from) ≡ true → none_or_in setting.active to ≡ true
goes-at case setting p from to at moves = then-of (is_movable case setting.active (p, from)) (none_or_in setting.active to) (option_eq nat_eq from to) moves at.keeps

-- an active reservation's value above 0 is some active reservation's
pub active-some_value : (case : Case) (setting : Setting) (q kind : ℕ) → is_active setting q ≡ true → nat_lt 0 (value_for case q kind) ≡ true → some_value case setting.active kind ≡ true
active-some_value case setting q kind active valued =
    any-weaker (λ x. x == q) (λ x. nat_lt 0 (value_for case x kind)) (λ x e. ap (λ z. nat_lt 0 (value_for case z kind)) (eqb-true x q e) ∙ valued) setting.active active

-- a server that may not be moved gives an active reservation nothing
fixed-share_by : (case : Case) (setting : Setting) (r : ℕ) → is_active setting r ≡ true → (p : Place) (from : Option ℕ) (q : ℕ) → LawfulAt case setting ((p, from), Some q)
    → is_movable case setting.active (p, from) ≡ false → (b : Bool) → (q == r) ≡ b → cond b (value_for case r p.kind) 0 ≡ 0
fixed-share_by case setting r active p from q at fixed false e = refl
fixed-share_by case setting r active p from q at fixed true e =
    let same : from ≡ Some q = stays-at case setting p from (Some q) at fixed in
    let there : is_active setting q ≡ true = ap (is_active setting) (eqb-true q r e) ∙ active in
    let moves : is_movable case setting.active (p, Some q) ≡ true =
    both _ _ (both p.up (none_or_in setting.active (Some q)) (and-left _ _ at.serve) there) (active-some_value case setting q p.kind there (and-right _ _ at.serve)) in
    let clash : true ≡ false = sym moves ∙ ap (λ o. is_movable case setting.active (p, o)) (sym same) ∙ fixed in
    cc

pub fixed-share : (case : Case) (setting : Setting) (r : ℕ) → is_active setting r ≡ true → (p : Place) (from to : Option ℕ) → LawfulAt case setting ((p, from), to)
    → is_movable case setting.active (p, from) ≡ false → share_of case r (p, to) ≡ 0
fixed-share case setting r active p from None at fixed = refl
fixed-share case setting r active p from (Some q) at fixed = fixed-share_by case setting r active p from q at fixed (q == r) refl

none-share_by : (case : Case) (setting : Setting) (r : ℕ) → is_active setting r ≡ false → (p : Place) (q : ℕ) → is_active setting q ≡ true
    → (b : Bool) → (q == r) ≡ b → cond b (value_for case r p.kind) 0 ≡ 0
none-share_by case setting r idle p q active false e = refl
none-share_by case setting r idle p q active true e = let clash : true ≡ false = sym active ∙ ap (is_active setting) (eqb-true q r e) ∙ idle in cc

-- one that goes to none or an active reservation gives the others nothing
pub none-share : (case : Case) (setting : Setting) (r : ℕ) → is_active setting r ≡ false → (p : Place) (to : Option ℕ) → none_or_in setting.active to ≡ true → share_of case r (p, to) ≡ 0
none-share case setting r idle p None h = refl
none-share case setting r idle p (Some q) h = none-share_by case setting r idle p q h (q == r) refl

inactive-share_by : (case : Case) (setting : Setting) (r : ℕ) → is_active setting r ≡ false → (p : Place) (from to : Option ℕ) → LawfulAt case setting ((p, from), to)
    → (b : Bool) → is_movable case setting.active (p, from) ≡ b → share_of case r (p, to) ≡ share_of case r (p, from)
inactive-share_by case setting r idle p from to at false e = ap (λ o. share_of case r (p, o)) (sym (stays-at case setting p from to at e))
inactive-share_by case setting r idle p from to at true e =
    none-share case setting r idle p to (goes-at case setting p from to at e) ∙ sym (none-share case setting r idle p from (and-right _ _ (and-left _ _ e)))

movable-term : (test b : Bool) (n : ℕ) → (b ≡ false → n ≡ 0) → cond b (cond test n 0) 0 ≡ cond test n 0
movable-term test true n h = refl
movable-term true false n h = sym (h refl)
movable-term false false n h = refl

map-same : {X Y : Type 0} (f g : X → Y) → ((x : X) → f x ≡ g x) → (xs : List X) → map f xs ≡ map g xs
map-same f g h [] = refl
map-same f g h (x ∷ xs) = ap (λ y. y ∷ map f xs) (h x) ∙ ap (λ ys. g x ∷ ys) (map-same f g h xs)

list_all-same : {X : Type 0} (f g : X → Bool) → ((x : X) → f x ≡ g x) → (xs : List X) → list_all f xs ≡ list_all g xs
list_all-same f g h [] = refl
list_all-same f g h (x ∷ xs) = ap (λ b. b && list_all f xs) (h x) ∙ ap (λ b. g x && b) (list_all-same f g h xs)

-- the numbers of a point that counts an assignment's members in each class; its helpers may be any
pub record CountsIn (case : Case) (setting : Setting) (how : Grouping) (a : Assignment) (number : Mark → ℕ) : Type 0 where
  pub counted : (c : ℕ) (to : Option ℕ) → number (Count c to) ≡ members_with a to (slice_get (phase_classes case setting how) c)

abbrev pub columns_of : Case → Setting → Grouping → List Column
columns_of case setting how = program_columns case setting (phase_classes case setting how)

abbrev pub point_in : Case → Setting → Grouping → (Mark → ℕ) → List ℕ
point_in case setting how number = map (λ c. number c.mark) (columns_of case setting how)

module _ (case : Case) (setting : Setting) (phase : IsPhase case setting) (a : Assignment) (lawful : IsLawful case setting a) where
  -- what the movable servers that pass a test give an active reservation is what all servers that pass it give it
  pub movable-where : (test : Place → Bool) (r : ℕ) → is_active setting r ≡ true
      → sum_by (λ t. cond (test (place_of case t)) (share_of case r (server_with case a t)) 0) (movable_servers case setting) ≡ units_where test case a r
  movable-where test r active =
      let given : Place × Option ℕ → ℕ = λ s. cond (test s.0) (share_of case r s) 0 in
      let servers = trio case setting phase a (length-fits case a lawful.fit) in
      movable-sum case setting phase a (length-fits case a lawful.fit) given
      ∙ same-all (λ s. cond (is_movable case setting.active s.0) (given (s.0.0, s.1)) 0) (λ s. given (s.0.0, s.1)) servers
      (λ k d inside. let s = get_or servers k d in
      movable-term (test s.0.0) (is_movable case setting.active s.0) (share_of case r (s.0.0, s.1))
      (fixed-share case setting r active s.0.0 s.0.1 s.1 (lawful-at case setting phase a (length-fits case a lawful.fit) lawful k d inside)))
      ∙ sym (assigned-sum case setting phase a (length-fits case a lawful.fit) given)
      ∙ sym (sum_by-filter (λ s. test s.0) (share_of case r) (servers_with_places case a))

  -- a reservation that is not active has what it has at the start
  inactive-sum : (r : ℕ) → is_active setting r ≡ false → (test : Place → Bool)
      → sum_by (λ s. cond (test s.0) (share_of case r s) 0) (servers_with_places case a) ≡ sum_by (λ s. cond (test s.0) (share_of case r s) 0) (servers_with_places case setting.start)
  inactive-sum r idle test =
      let given : Place × Option ℕ → ℕ = λ s. cond (test s.0) (share_of case r s) 0 in
      let servers = trio case setting phase a (length-fits case a lawful.fit) in
      assigned-sum case setting phase a (length-fits case a lawful.fit) given
      ∙ same-all (λ s. given (s.0.0, s.1)) (λ s. given s.0) servers
      (λ k d inside. let s = get_or servers k d in
      ap (λ n. cond (test s.0.0) n 0) (inactive-share_by case setting r idle s.0.0 s.0.1 s.1 (lawful-at case setting phase a (length-fits case a lawful.fit) lawful k d inside) (is_movable case setting.active s.0) refl))
      ∙ sym (start-sum case setting phase a (length-fits case a lawful.fit) given)

  pub inactive-where : (r : ℕ) → is_active setting r ≡ false → (test : Place → Bool) → units_where test case a r ≡ units_where test case setting.start r
  inactive-where r idle test =
      sum_by-filter (λ s. test s.0) (share_of case r) (servers_with_places case a) ∙ inactive-sum r idle test ∙ sym (sum_by-filter (λ s. test s.0) (share_of case r) (servers_with_places case setting.start))

  pub inactive-units : (r : ℕ) → is_active setting r ≡ false → units case a r ≡ units case setting.start r
  inactive-units r idle = inactive-sum r idle (λ _. true)

  pub inactive-keeps : (r : ℕ) → is_active setting r ≡ false → keeps_need case a r ≡ keeps_need case setting.start r
  inactive-keeps r idle =
      let need = (want_of case r).need in
      list_all-same (survives case a r) (survives case setting.start r)
      (λ lost. ap (λ n. nat_le need (n - units_where (is_lost lost) case a r)) (inactive-units r idle)
      ∙ ap (λ n. nat_le need (units case setting.start r - n)) (inactive-where r idle (is_lost lost)))
      (losses case r)

  inactive-center : (r : ℕ) → is_active setting r ≡ false → (center : Option ℕ) → option_map_or (units_in_center case a r) center 0 ≡ option_map_or (units_in_center case setting.start r) center 0
  inactive-center r idle None = refl
  inactive-center r idle (Some d) = inactive-where r idle (λ s. s.center == d)

  pub inactive-terms : (r : ℕ) → is_active setting r ≡ false → terms_cost case a r ≡ terms_cost case setting.start r
  inactive-terms r idle =
      let want = want_of case r in
      let boards : board_units case a r ≡ board_units case setting.start r =
      map-same (units_on_board case a r) (units_on_board case setting.start r) (λ b. inactive-where r idle (λ s. s.board == b)) (range_with_len 0 case.boards) in
      ap (λ us. want.buffer_weight * greatest us + want.spread_weight * excess want.spread_limit us + sum_by (shortage_cost case a r) want.near) boards
      ∙ ap (λ n. want.buffer_weight * greatest (board_units case setting.start r) + want.spread_weight * excess want.spread_limit (board_units case setting.start r) + n)
      (sum_by-same (shortage_cost case a r) (shortage_cost case setting.start r) (λ g. ap (λ n. g.weight * (g.least - n)) (inactive-center r idle g.center)) want.near)

  module _ (how : Grouping) (number : Mark → ℕ) (counts : CountsIn case setting how a number) where
    -- the columns' units of the classes that pass a test
    pub where-columns : (r : ℕ) → is_active setting r ≡ true → (test : Class → Bool) (place_test : Place → Bool)
        → ((x : ℕ) → test (class_of how setting.racks case (movable_servers case setting) x) ≡ place_test (place_of case x))
        → ((x y : ℕ) → same_class how setting.racks case x y ≡ true → place_test (place_of case x) ≡ place_test (place_of case y))
        → sum_by (λ c. units_at case (phase_classes case setting how) test r c.mark * number c.mark) (columns_of case setting how) ≡ units_where place_test case a r
    where-columns r active test place_test agrees respects =
        units-columns case a setting how number counts.counted r (once-active case setting (start-of case setting phase) r active) test place_test agrees respects ∙ movable-where place_test r active

    pub total-sum : (r : ℕ) → is_active setting r ≡ true
        → term_sum (total_line case (phase_classes case setting how) (columns_of case setting how) r).terms (point_in case setting how number) ≡ pos (units case a r)
    total-sum r active =
        let factor : Mark → ℕ = units_at case (phase_classes case setting how) (λ _. true) r in
        term_sum-line (columns_of case setting how) Total (λ mark. pos (factor mark)) (pos (want_of case r).need) number
        ∙ column_sum-pos factor number (columns_of case setting how)
        ∙ ap pos (where-columns r active (λ _. true) (λ _. true) (λ _. refl) (λ _ _ _. refl) ∙ sum_by-filter (λ _. true) (share_of case r) (servers_with_places case a))
