-- An assignment that gives each class a whole point's numbers is allowed in the phase, and costs at most the point's value.
use Rattle.std.proofs.Common.{◌≡◌, ℕ, zero, suc, ◌+◌, ◌*◌, ◌-◌, ◌<◌, ◌≤◌, Bool, true, false, cond, List, [], ◌∷◌, length, get_or, arith, ap, sym, ◌∙◌, refl, Some, None, All, subst}
use Rattle.std.specs.Prelude.{sum_by, count_by, map, filter, slice_get, slice_index, slice_index_or, Option, nat_lt, nat_eq, ◌==◌, ◌&&◌, IsTrue, pos, ◌-ℤ◌}
use Rattle.std.specs.List.{list_all, range_with_len}
use Rattle.std.specs.Option.{option_eq, option_map_or}
use Rattle.std.proofs.lemmas.Int.{ints}
use Rattle.std.proofs.lemmas.List.Elements.{filter_passes}
use Rattle.std.proofs.lemmas.Slice.Zip.{get_or-zip, length-zip}
use Rattle.std.proofs.lemmas.Bool.{eqb-true, eq-eqb}
use Rattle.std.proofs.lemmas.Bool.Decides.{nat_tests}
use Rattle.plan_model.specs.declared.cases.Case.{Case}
use Rattle.plan_model.specs.declared.cases.Place.{Place}
use Rattle.plan_model.specs.declared.cases.Assignment.{Assignment}
use Rattle.plan_model.specs.declared.cases.Grouping.{Grouping}
use Rattle.plan_model.specs.Units.{want_of, value_for, place_of, server_with, no_place, servers_with_places, all_reservations, units, units_where, units_on_board, units_on_rack, units_in_center}
use Rattle.plan_model.specs.Allowed.{serves, fits, keeps_need, region_allowed}
use Rattle.plan_model.specs.Losses.{is_lost}
use Rattle.plan_model.proofs.AllowedLaws.{keeps-from}
use Rattle.plan_model.specs.Rack.{is_movable, none_or_in, keeps_to_chosen}
use Rattle.plan_model.proofs.SumLemmas.{length-fits}
use Rattle.plan_model.proofs.CaseFacts.{list_all-at}
use Rattle.symmetry_classes.specs.declared.groups.Class.{Class}
use Rattle.symmetry_classes.specs.Groups.{same_class, class_of, first_of_each}
use Rattle.symmetry_classes.proofs.Partition.{sum_by-classes, sum_by-zero}
use Rattle.symmetry_classes.proofs.SameClass.{same_class-equivalence, common-from_class}
use Rattle.ip_model.specs.declared.parts.Mark.{Mark}
use Rattle.ip_model.specs.declared.parts.Mark.TheVariants.{Count, Share, BoardExcess, Shortage, RackExcess}
use Rattle.ip_model.specs.declared.parts.Column.{Column}
use Rattle.ip_model.specs.declared.parts.RowKind.TheVariants.{ClassLeast}
use Rattle.std.proofs.Math.Nat.{mul-le-mul_left}
use Rattle.ip_model.specs.Points.{MeetsLine, value_of}
use Rattle.program_rows.specs.Members.{gets}
use Rattle.program_rows.specs.Settings.{Setting, movable_servers, phase_classes}
use Rattle.program_rows.specs.Phases.{IsPhase, is_active, phase_allowed, phase_cost}
use Rattle.program_rows.proofs.ListSums.{sum_by-zip_second}
use Rattle.program_rows.proofs.LineSums.{column_sum-pos}
use Rattle.program_rows.proofs.PhaseSums.{same-all, most-all, zero-all, IsLawful, trio, All-trio, movable-sum, assigned-sum}
use Rattle.program_rows.proofs.PhaseRows.{CountsIn, columns_of, point_in, total-sum, inactive-keeps}
use Rattle.program_rows.proofs.PhaseCosts.{class-columns, list_all-from, passed}
use Rattle.program_rows.specs.Programs.{has_share, in_class, destinations, program_base, program_lines, total_line, loss_line}
use Rattle.program_rows.proofs.LineSums.{term_sum, term_sum-line}
use Rattle.program_rows.proofs.RangeSums.{list_all-range}
use Rattle.class_expand.specs.Lifting.{number_of, lack}
use Rattle.class_expand.specs.Laws.{WholePointIsAllowed}
use Rattle.program_rows.proofs.Parts.{losses_of, loss_of, touches_loss, touches_board, rack_line, columns-all, RowsHave, lines-from, least_line, share_line, over_line, short_line}
use Rattle.class_expand.proofs.HelperRows.{loss-sum, rack-sum, share-sum, over-sum, short-sum}
use Rattle.class_expand.proofs.HelperCosts.{untouched-zero}
use Rattle.program_rows.proofs.Lists.{All-range_to, greatest-most}
use Rattle.class_expand.proofs.ClassCounts.{stands-most, stands-right, each_once-from}
use Rattle.class_expand.proofs.WholePoint.{met-by, value-is, costs-are}
use Rattle.class_expand.proofs.Numbers.{number_in, point-is}

and-left : (a b : Bool) → (a && b) ≡ true → a ≡ true
and-left true b h = refl
and-left false b h = h

and-right : (a b : Bool) → (a && b) ≡ true → b ≡ true
and-right true b h = h
and-right false b h = cc

both : (a b : Bool) → a ≡ true → b ≡ true → (a && b) ≡ true
both true b e h = h
both false b e h = e

lt-true : (m n : ℕ) → m < n → nat_lt m n ≡ true
lt-true m n h = grind (arith, nat_tests)

slice_get-map : {X Y : Type 0} (f : X → Y) (xs : List X) (k : ℕ) (d : X) → k < length xs → slice_get (map f xs) k ≡ Some (f (get_or xs k d))
slice_get-map f [] k d within = absurd (omega arith)
slice_get-map f (x ∷ xs) zero d within = refl
slice_get-map f (x ∷ xs) (suc k) d within = slice_get-map f xs k d (omega arith)

-- whether a server's reservation, if it gets one, has a value above 0 for its type
abbrev pub valued : Case → Place × Option ℕ → Bool
valued case s = option_map_or (λ r. nat_lt 0 (value_for case r s.0.kind)) s.1 true

option_eq-itself : (o : Option ℕ) → option_eq nat_eq o o ≡ true
option_eq-itself None = refl
option_eq-itself (Some q) = eq-eqb q q refl

-- and whether it gets none or an active one
abbrev pub placed : Case → Setting → Place × Option ℕ → Bool
placed case setting s = valued case s && none_or_in setting.active s.1

up-valued : (case : Case) (p : Place) (to : Option ℕ) → p.up ≡ true → valued case (p, to) ≡ true → serves case (p, to) ≡ true
up-valued case p None up h = refl
up-valued case p (Some q) up h = both p.up (nat_lt 0 (value_for case q p.kind)) up h

serves-by : (case : Case) (setting : Setting) (p : Place) (from to : Option ℕ) (b : Bool) → is_movable case setting.active (p, from) ≡ b
    → ◌≡◌ {A = ℕ} (cond b (cond (placed case setting (p, to)) 0 1) 0) 0 → (b ≡ false → to ≡ from) → serves case (p, from) ≡ true → serves case (p, to) ≡ true
serves-by case setting p from to true moves well stays start = up-valued case p to (and-left _ _ (and-left _ _ moves)) (and-left _ _ (passed (placed case setting (p, to)) well))
serves-by case setting p from to false moves well stays start = ap (λ o. serves case (p, o)) (stays refl) ∙ start

keeps-by : (case : Case) (setting : Setting) (p : Place) (from to : Option ℕ) (b : Bool)
    → ◌≡◌ {A = ℕ} (cond b (cond (placed case setting (p, to)) 0 1) 0) 0 → (b ≡ false → to ≡ from) → cond b (none_or_in setting.active to) (option_eq nat_eq from to) ≡ true
keeps-by case setting p from to true well stays = and-right _ _ (passed (placed case setting (p, to)) well)
keeps-by case setting p from to false well stays = ap (option_eq nat_eq from) (stays refl) ∙ option_eq-itself from

module _ (case : Case) (setting : Setting) (phase : IsPhase case setting) (how : Grouping) (a : Assignment) (number : Mark → ℕ) (counts : CountsIn case setting how a number) (size : length a.of ≡ length case.places)
    (full : (c : ℕ) (class : Class) → slice_get (phase_classes case setting how) c ≡ Some class
    → length class.members ≤ sum_by (λ col. in_class c col.mark * number col.mark) (columns_of case setting how))
    (stays : (s : ℕ) → s < length case.places → is_movable case setting.active (server_with case setting.start s) ≡ false → slice_index_or a.of s None ≡ slice_index_or setting.start.of s None) where
  abbrev servers : List ℕ
  servers = movable_servers case setting

  abbrev same_as : ℕ → ℕ → Bool
  same_as x = same_class how setting.racks case x

  abbrev class_at : ℕ → Class
  class_at x = class_of how setting.racks case servers x

  abbrev bad : Place × Option ℕ → ℕ
  bad s = cond (placed case setting s) 0 1

  well-by : (x s : ℕ) → same_as x s ≡ true → (o : Option ℕ) → slice_index_or a.of s None ≡ o
      → sum_by (λ to. cond (option_eq nat_eq o to) 1 0) (destinations case setting (class_at x)) ≡ 1 → placed case setting (place_of case s, o) ≡ true
  well-by x s same None at once = refl
  well-by x s same (Some q) at once =
      let right = stands-right case setting (class_at x) q once in
      both (nat_lt 0 (value_for case q (place_of case s).kind)) (is_active setting q) (sym (ap (λ k. nat_lt 0 (value_for case q k)) (common-from_class how setting.racks case x s same).kind) ∙ right.1) right.0

  member-well : (x s : ℕ) → same_as x s ≡ true → sum_by (λ to. cond (gets a to s) 1 0) (destinations case setting (class_at x)) ≡ 1 → bad (server_with case a s) ≡ 0
  member-well x s same once = ap (λ b. cond b 0 1) (well-by x s same (slice_index_or a.of s None) refl once)

  class-well : (x c : ℕ) → slice_get (phase_classes case setting how) c ≡ Some (class_at x) → sum_by (λ s. bad (server_with case a s)) (filter (same_as x) servers) ≡ 0
  class-well x c read =
      let members = filter (same_as x) servers in
      let tos = destinations case setting (class_at x) in
      let enough : length members ≤ sum_by (λ to. count_by (gets a to) members) tos =
      (let row = full c (class_at x) read in let same = class-columns case setting a how number counts c (class_at x) read in omega (arith, row, same)) in
      let once = each_once-from a tos (stands-most case setting phase (class_at x)) members enough in
      same-all (λ s. bad (server_with case a s)) (λ _. 0) members
      (λ k d inside. member-well x (get_or members k d) (filter_passes (same_as x) servers k d inside)
      (eqb-true (sum_by (λ to. cond (gets a to (get_or members k d)) 1 0) tos) 1 (list_all-at (λ s. sum_by (λ to. cond (gets a to s) 1 0) tos == 1) members k d inside once)))
      ∙ sum_by-zero (λ _. 0) (λ _. refl) members

  movable-well : sum_by (λ s. bad (server_with case a s)) servers ≡ 0
  movable-well =
      let firsts = first_of_each (same_class how setting.racks case) servers in
      sym (sum_by-classes (same_class how setting.racks case) (same_class-equivalence how setting.racks case) (λ s. bad (server_with case a s)) servers)
      ∙ same-all (λ x. sum_by (λ s. bad (server_with case a s)) (filter (same_as x) servers)) (λ _. 0) firsts
      (λ k d inside. class-well (get_or firsts k d) k (slice_get-map class_at firsts k d inside))
      ∙ sum_by-zero (λ _. 0) (λ _. refl) firsts

  abbrev all : List ((Place × Option ℕ) × Option ℕ)
  all = trio case setting phase a size

  trio-well : All (λ s. cond (is_movable case setting.active s.0) (bad (s.0.0, s.1)) 0 ≡ 0) all
  trio-well = zero-all (λ s. cond (is_movable case setting.active s.0) (bad (s.0.0, s.1)) 0) all (sym (movable-sum case setting phase a size bad) ∙ movable-well)

  trio-stays : All (λ s. is_movable case setting.active s.0 ≡ false → s.1 ≡ s.0.1) all
  trio-stays = All-trio case setting phase a size (λ s. is_movable case setting.active s.0 ≡ false → s.1 ≡ s.0.1) stays

  trio-start : All (λ s. serves case s.0 ≡ true) all
  trio-start = All-trio case setting phase a size (λ s. serves case s.0 ≡ true) (λ i within.
      let same = length-fits case setting.start phase.fit in
      let second : i < length setting.start.of = omega (arith, same, within) in
      let inside : i < length (servers_with_places case setting.start) = omega (arith, length-zip case.places setting.start.of, same, within) in
      subst (λ s. serves case s ≡ true) (get_or-zip case.places setting.start.of i (no_place, None) within second)
      (list_all-at (serves case) (servers_with_places case setting.start) i (no_place, None) inside phase.serve))

  pub serving : list_all (serves case) (servers_with_places case a) ≡ true
  serving =
      let missing : Place × Option ℕ → ℕ = λ s. cond (serves case s) 0 1 in
      let none : sum_by missing (servers_with_places case a) ≡ 0 =
      assigned-sum case setting phase a size missing
      ∙ same-all (λ s. missing (s.0.0, s.1)) (λ _. 0) all
      (λ k d inside. let s = get_or all k d in
      ap (λ b. cond b 0 1) (serves-by case setting s.0.0 s.0.1 s.1 (is_movable case setting.active s.0) refl (trio-well k d inside) (trio-stays k d inside) (trio-start k d inside)))
      ∙ sum_by-zero (λ _. 0) (λ _. refl) all in
      let zeros = zero-all missing (servers_with_places case a) none in
      list_all-from (serves case) (servers_with_places case a) (λ k d inside. passed (serves case (get_or (servers_with_places case a) k d)) (zeros k d inside))

  keeping : list_all (keeps_to_chosen case setting.active) all ≡ true
  keeping = list_all-from (keeps_to_chosen case setting.active) all
      (λ k d inside. let s = get_or all k d in keeps-by case setting s.0.0 s.0.1 s.1 (is_movable case setting.active s.0) (trio-well k d inside) (trio-stays k d inside))

  abbrev ranged : Option ℕ → Bool
  ranged to = option_map_or (λ r. nat_lt r (length case.wants)) to true

  ranged-active : (to : Option ℕ) → none_or_in setting.active to ≡ true → ranged to ≡ true
  ranged-active None h = refl
  ranged-active (Some r) h = lt-true r (length case.wants) (phase.there r h)

  ranged-by : (p : Place) (from to : Option ℕ) (b : Bool) → ◌≡◌ {A = ℕ} (cond b (bad (p, to)) 0) 0 → (b ≡ false → to ≡ from) → ranged from ≡ true → ranged to ≡ true
  ranged-by p from to true well stay start = ranged-active to (and-right _ _ (passed (placed case setting (p, to)) well))
  ranged-by p from to false well stay start = ap ranged (stay refl) ∙ start

  trio-ranged : All (λ s. ranged s.0.1 ≡ true) all
  trio-ranged = All-trio case setting phase a size (λ s. ranged s.0.1 ≡ true) (λ i within.
      let same = length-fits case setting.start phase.fit in
      let inside : i < length setting.start.of = omega (arith, same, within) in
      list_all-at ranged setting.start.of i None inside (and-right _ _ phase.fit))

  fitting : IsTrue (fits case a)
  fitting =
      let missing : Option ℕ → ℕ = λ to. cond (ranged to) 0 1 in
      let none : sum_by missing a.of ≡ 0 =
      sym (sum_by-zip_second missing case.places a.of (sym size))
      ∙ assigned-sum case setting phase a size (λ s. missing s.1)
      ∙ same-all (λ s. missing s.1) (λ _. 0) all
      (λ k d inside. let s = get_or all k d in
      ap (λ b. cond b 0 1) (ranged-by s.0.0 s.0.1 s.1 (is_movable case setting.active s.0) (trio-well k d inside) (trio-stays k d inside) (trio-ranged k d inside)))
      ∙ sum_by-zero (λ _. 0) (λ _. refl) all in
      let zeros = zero-all missing a.of none in
      both (length a.of == length case.places) (list_all ranged a.of) (eq-eqb (length a.of) (length case.places) size)
      (list_all-from ranged a.of (λ k d inside. passed (ranged (get_or a.of k d)) (zeros k d inside)))

  pub lawful : IsLawful case setting a
  lawful = record { fit = fitting; serve = serving; keeps = keeping }

  module _ (rows : (r : ℕ) → is_active setting r ≡ true → RowsHave case setting how (MeetsLine 1 (slice_index (point_in case setting how number))) r) where
    abbrev point : List ℕ
    point = point_in case setting how number

    enough : (r : ℕ) → is_active setting r ≡ true → (want_of case r).need ≤ units case a r
    enough r within =
        let met = met-by (total_line case (phase_classes case setting how) (columns_of case setting how) r) point (pos (units case a r)) (total-sum case setting phase a lawful how number counts r within) (rows r within).total in
        omega (arith, ints, met)

    untouched : (r board : ℕ) → is_active setting r ≡ true → touches_board case setting r board ≡ false → units_on_board case a r board ≡ 0
    untouched r board within t = untouched-zero case setting phase a lawful how r within (λ s. s.board == board) (λ s. s.board == board) (λ p h. h) t

    survives-by : (r n : ℕ) → is_active setting r ≡ true → n < losses_of case r → (b : Bool) → touches_loss case setting r n ≡ b
        → (want_of case r).need ≤ units case a r - units_where (is_lost (loss_of case r n)) case a r
    survives-by r n within there true t =
        let lost = loss_of case r n in
        let met = met-by (loss_line case (phase_classes case setting how) (columns_of case setting how) r lost) point (pos (units case a r - units_where (is_lost lost) case a r))
        (loss-sum case setting phase a lawful how number counts r within lost) ((rows r within).loss n there t) in
        omega (arith, ints, met)
    survives-by r n within there false t =
        let lost = is_lost (loss_of case r n) in
        let none = untouched-zero case setting phase a lawful how r within lost lost (λ p h. h) t in
        omega (arith, none, enough r within)

    keeps-active : (r : ℕ) → is_active setting r ≡ true → keeps_need case a r ≡ true
    keeps-active r within =
        keeps-from case a r (enough r within) (λ n there. survives-by r n within there (touches_loss case setting r n) refl)

    keeps : (r : ℕ) → r < length case.wants → (b : Bool) → is_active setting r ≡ b → keeps_need case a r ≡ true
    keeps r within true e = keeps-active r e
    keeps r within false e = inactive-keeps case setting phase a lawful r e ∙ phase.keep r within e

    pub allowed : phase_allowed case setting a ≡ true
    allowed =
        both (region_allowed case a) (list_all (keeps_to_chosen case setting.active) all)
        (both (fits case a && list_all (serves case) (servers_with_places case a)) (list_all (keeps_need case a) (all_reservations case)) (both (fits case a) (list_all (serves case) (servers_with_places case a)) fitting serving)
        (list_all-range (keeps_need case a) (length case.wants) (λ r within. keeps r within (is_active setting r) refl)))
        keeping

    share-by : (r board : ℕ) → is_active setting r ≡ true → has_share case setting r ≡ true → board < case.boards → (b : Bool) → touches_board case setting r board ≡ b
        → units_on_board case a r board ≤ number (Share r)
    share-by r board within has there true t =
        let met = met-by (share_line case setting how r board) point (pos (number (Share r)) -ℤ pos (units_on_board case a r board))
        (share-sum case setting phase a lawful how number counts r board within has) ((rows r within).share has board there t) in
        omega (arith, ints, met)
    share-by r board within has there false t = let none = untouched r board within t in omega (arith, none)

    abbrev costs_less : Column → Type 0
    costs_less c = number_of case setting how a c.mark ≤ number c.mark

    count-same : (c : ℕ) (class : Class) (to : Option ℕ) → slice_get (phase_classes case setting how) c ≡ Some class → number_of case setting how a (Count c to) ≤ number (Count c to)
    count-same c class to read = let same = counts.counted c to in omega (arith, same)

    -- the point gives each helper at least the number that its rows allow
    least-less : All costs_less (columns_of case setting how)
    least-less = columns-all case setting costs_less how (record {
      counts = count-same;
      helpers = λ r within. record {
        share = λ has. greatest-most (number (Share r)) (units_on_board case a r) (range_with_len 0 case.boards)
            (All-range_to (λ board. units_on_board case a r board ≤ number (Share r)) case.boards (λ board there. share-by r board within has there (touches_board case setting r board) refl));
        board = λ board there weight touched.
            let met = met-by (over_line case setting how r board) point (pos (number (BoardExcess r board)) -ℤ pos (units_on_board case a r board))
            (over-sum case setting phase a lawful how number counts r board within there weight touched) ((rows r within).over weight board there touched) in
            omega (arith, ints, met);
        rack = λ rack there weight touched.
            let met = met-by (rack_line case setting how r rack) point (pos (number (RackExcess r rack)) -ℤ pos (units_on_rack case a r rack))
            (rack-sum case setting phase a lawful how number counts r rack within there weight touched) ((rows r within).racks weight rack there touched) in
            omega (arith, ints, met);
        short = λ entry goal short.
            let there : ℕ = option_map_or (units_in_center case a r) goal.center 0 in
            let met = met-by (short_line case setting how r entry goal) point (pos (number (Shortage r entry) + there))
            (short-sum case setting phase a lawful how number counts r entry goal within short) ((rows r within).short entry goal short) in
            let lacks : lack case a r (slice_get (want_of case r).near entry) ≡ goal.least - there = ap (lack case a r) short.read in
            omega (arith, ints, met, lacks);
      };
    })

    times-most : (w m n : ℕ) → m ≤ n → w * m ≤ w * n
    times-most w m n h = mul-le-mul_left w h

    pub cost-most : phase_cost case setting a ≤ program_base case setting + sum_by (λ c. c.cost * number c.mark) (columns_of case setting how)
    cost-most =
        let columns = columns_of case setting how in
        let less = most-all (λ c. c.cost * number_of case setting how a c.mark) (λ c. c.cost * number c.mark) columns
        (λ k d inside. times-most (get_or columns k d).cost (number_of case setting how a (get_or columns k d).mark) (number (get_or columns k d).mark) (least-less k d inside)) in
        let costs = costs-are case setting phase how a lawful in
        omega (arith, less, costs)

pub point-is_allowed : WholePointIsAllowed
point-is_allowed case setting how program point a phase is whole expands =
    let number : Mark → ℕ = number_in case setting phase how point a in
    let columns = columns_of case setting how in
    let size : length point ≡ length columns = whole.size ∙ ap length is.columns in
    let same : point ≡ point_in case setting how number = point-is case setting phase how point a size expands in
    let rows : All (MeetsLine 1 (slice_index (point_in case setting how number))) (program_lines case setting (phase_classes case setting how)) =
    subst (λ xs. All (MeetsLine 1 (slice_index xs)) (program_lines case setting (phase_classes case setting how))) same
    (subst (All (MeetsLine 1 (slice_index point))) is.rows whole.is_point.meets) in
    let lines = lines-from case setting how (MeetsLine 1 (slice_index (point_in case setting how number))) rows in
    let counts : CountsIn case setting how a number = record { counted = λ c to. refl } in
    let full : (c : ℕ) (class : Class) → slice_get (phase_classes case setting how) c ≡ Some class
    → length class.members ≤ sum_by (λ col. in_class c col.mark * number col.mark) columns =
    λ c class read.
    (let sum : term_sum (least_line case setting how c class).terms (point_in case setting how number) ≡ pos (sum_by (λ col. in_class c col.mark * number col.mark) columns) =
    term_sum-line columns ClassLeast (λ mark. pos (in_class c mark)) (pos (length class.members)) number ∙ column_sum-pos (in_class c) number columns in
    let met = met-by (least_line case setting how c class) (point_in case setting how number) (pos (sum_by (λ col. in_class c col.mark * number col.mark) columns)) sum (lines.least c class read) in
    omega (arith, ints, met)) in (
      allowed case setting phase how a number counts expands.size full expands.stays lines.rows,
      (let most = cost-most case setting phase how a number counts expands.size full expands.stays lines.rows in
          let value : value_of program point ≡ program_base case setting + sum_by (λ c. c.cost * number c.mark) columns =
          ap (value_of program) same ∙ value-is case setting how program is number in
          omega (arith, most, value)),
    )
