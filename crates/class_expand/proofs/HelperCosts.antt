-- The helpers of the program of a phase, each at the least number that its rows allow, cost the terms of the reservations.
use Rattle.std.proofs.Common.{◌≡◌, ℕ, ◌+◌, ◌*◌, ◌-◌, max, Bool, true, false, cond, List, [], ◌∷◌, ◌++◌, arith, ap, sym, ◌∙◌, refl, Some}
use Rattle.std.specs.Prelude.{sum_by, map, flat_map, Option, nat_lt, ◌==◌, ◌&&◌, ◌||◌}
use Rattle.std.specs.List.{enumerate_from, list_any, range_with_len}
use Rattle.std.specs.Option.{option_map_or}
use Rattle.std.proofs.lemmas.List.Sums.{sum_by-cons, sum_by-append}
use Rattle.std.proofs.lemmas.Bool.Decides.{nat_tests}
use Rattle.plan_model.specs.declared.cases.Case.{Case}
use Rattle.plan_model.specs.declared.cases.Place.{Place}
use Rattle.plan_model.specs.declared.cases.Goal.{Goal}
use Rattle.plan_model.specs.declared.cases.Assignment.{Assignment}
use Rattle.plan_model.specs.declared.cases.Grouping.{Grouping}
use Rattle.plan_model.specs.Units.{want_of, value_for, is_for, share_of, server_with, place_of, units_where, units_on_board, units_on_rack, units_in_center}
use Rattle.plan_model.specs.Costs.{greatest, board_units, rack_units, rack_excess, excess, shortage_cost, terms_cost}
use Rattle.plan_model.proofs.SumLemmas.{sum_by-filter}
use Rattle.symmetry_classes.proofs.Partition.{sum_by-same, sum_by-zero}
use Rattle.ip_model.specs.declared.parts.Mark.{Mark}
use Rattle.ip_model.specs.declared.parts.Column.{Column}
use Rattle.program_rows.specs.Settings.{Setting, movable_servers}
use Rattle.program_rows.specs.Programs.{touches, touched_boards, touched_racks, excess_racks, has_share, excess_boards, short_entries, share_columns, board_excess_columns, shortage_columns, rack_excess_columns, helper_columns}
use Rattle.program_rows.proofs.ListSums.{sum_by-map, sum_by-flat_map, sum_by-times, sum_by-enumerate_get}
use Rattle.program_rows.specs.Phases.{IsPhase, is_active}
use Rattle.program_rows.proofs.ClassSums.{sum_by-plus}
use Rattle.program_rows.proofs.PhaseSums.{IsLawful, same-all, All-active}
use Rattle.program_rows.proofs.PhaseRows.{movable-where}
use Rattle.class_expand.specs.Lifting.{number_of, lack}
use Rattle.program_rows.proofs.Parts.{touches_board, touches_rack, rack_column, share_column, board_column, short_column}

and-left : (a b : Bool) → (a && b) ≡ true → a ≡ true
and-left true b h = refl
and-left false b h = h

and-right : (a b : Bool) → (a && b) ≡ true → b ≡ true
and-right true b h = h
and-right false b h = cc

or-none_left : (a b : Bool) → (a || b) ≡ false → a ≡ false
or-none_left true b h = h
or-none_left false b h = refl

or-none_right : (a b : Bool) → (a || b) ≡ false → b ≡ false
or-none_right true b h = cc
or-none_right false b h = h

-- nothing adds to a sum where no element passes
sum_by-none : {X : Type 0} (h : X → Bool) (f : X → ℕ) (xs : List X) → list_any h xs ≡ false → ((x : X) → h x ≡ false → f x ≡ 0) → sum_by f xs ≡ 0
sum_by-none h f [] none zeros = refl
sum_by-none h f (x ∷ xs) none zeros =
    let here = zeros x (or-none_left (h x) (list_any h xs) none) in
    let rest = sum_by-none h f xs (or-none_right (h x) (list_any h xs) none) zeros in
    sum_by-cons f x xs ∙ omega (arith, here, rest)

idle : (t w v : Bool) (m : ℕ) → (t ≡ true → w ≡ true) → (w && v) ≡ false → (v ≡ false → m ≡ 0) → cond t m 0 ≡ 0
idle false w v m h e none = refl
idle true true v m h e none = none e
idle true false v m h e none = let clash : false ≡ true = h refl in cc

not_above-zero : (v : ℕ) → nat_lt 0 v ≡ false → v ≡ 0
not_above-zero v h = grind (arith, nat_tests, h)

cond-zero : (b : Bool) → ◌≡◌ {A = ℕ} (cond b 0 0) 0
cond-zero true = refl
cond-zero false = refl

greatest-zero : (f : ℕ → ℕ) (xs : List ℕ) → ((x : ℕ) → f x ≡ 0) → greatest (map f xs) ≡ 0
greatest-zero f [] h = refl
greatest-zero f (x ∷ xs) h = ap (λ n. max n (greatest (map f xs))) (h x) ∙ ap (max 0) (greatest-zero f xs h)

-- a product of which one number is 0
either-zero : (a b : Bool) (w n : ℕ) → (a && b) ≡ false → (a ≡ false → w ≡ 0) → (b ≡ false → n ≡ 0) → w * n ≡ 0
either-zero true b w n h first second = ap (λ k. w * k) (second h) ∙ omega arith
either-zero false b w n h first second = ap (λ k. k * n) (first refl) ∙ omega arith

kept-where : (t : Bool) (n m : ℕ) → (t ≡ true → n ≡ m) → (t ≡ false → m ≡ 0) → cond t n 0 ≡ m
kept-where true n m same none = same refl
kept-where false n m same none = sym (none refl)

times-none : (w : ℕ) → w * 0 ≡ 0
times-none w = omega arith

none-less : (l : ℕ) → 0 - l ≡ 0
none-less l = omega arith

no-racks : (a b : Bool) (w n : ℕ) → (a && b) ≡ false → (b ≡ false → w ≡ 0) → cond a (w * n) 0 ≡ 0
no-racks true b w n h none = ap (λ k. k * n) (none h) ∙ omega arith
no-racks false b w n h none = refl

sum_by-if : {X : Type 0} (b : Bool) (f : X → ℕ) (xs : List X) → sum_by (λ x. cond b (f x) 0) xs ≡ cond b (sum_by f xs) 0
sum_by-if true f xs = refl
sum_by-if false f xs = sum_by-zero (λ _. 0) (λ _. refl) xs

module _ (case : Case) (setting : Setting) (phase : IsPhase case setting) (a : Assignment) (lawful : IsLawful case setting a) (how : Grouping) where
  abbrev least : Mark → ℕ
  least = number_of case setting how a

  abbrev paid : Column → ℕ
  paid c = c.cost * least c.mark

  -- where r touches no server of a wider part, it has no units in the part
  pub untouched-zero : (r : ℕ) → is_active setting r ≡ true → (wide test : Place → Bool) → ((p : Place) → test p ≡ true → wide p ≡ true)
      → touches case setting r wide ≡ false → units_where test case a r ≡ 0
  untouched-zero r within wide test inside none =
      sym (movable-where case setting phase a lawful test r within)
      ∙ sum_by-none (λ s. wide (place_of case s) && nat_lt 0 (value_for case r (place_of case s).kind)) (λ t. cond (test (place_of case t)) (share_of case r (server_with case a t)) 0)
      (movable_servers case setting) none
      (λ t e. idle (test (place_of case t)) (wide (place_of case t)) (nat_lt 0 (value_for case r (place_of case t).kind)) (share_of case r (server_with case a t)) (inside (place_of case t)) e
      (λ v. ap (λ n. cond (is_for r (server_with case a t).1) n 0) (not_above-zero (value_for case r (place_of case t).kind) v) ∙ cond-zero (is_for r (server_with case a t).1)))

  share-paid : (r : ℕ) → is_active setting r ≡ true → (b : Bool) → has_share case setting r ≡ b
      → sum_by paid (cond b (share_column case setting r ∷ []) []) ≡ (want_of case r).buffer_weight * greatest (board_units case a r)
  share-paid r within true e = sum_by-cons paid (share_column case setting r) [] ∙ omega arith
  share-paid r within false e =
      sym (either-zero (nat_lt 0 (want_of case r).buffer_weight) (touches case setting r (λ _. true)) (want_of case r).buffer_weight (greatest (board_units case a r)) e
      (not_above-zero (want_of case r).buffer_weight)
      (λ none. greatest-zero (units_on_board case a r) (range_with_len 0 case.boards)
      (λ board. untouched-zero r within (λ _. true) (λ s. s.board == board) (λ p t. refl) none)))

  boards-paid : (r : ℕ) → is_active setting r ≡ true → (b : Bool) → nat_lt 0 (want_of case r).spread_weight ≡ b
      → sum_by (λ board. paid (board_column case setting r board)) (cond b (touched_boards case setting r) [])
      ≡ (want_of case r).spread_weight * excess (want_of case r).spread_limit (board_units case a r)
  boards-paid r within true e =
      let w : ℕ = (want_of case r).spread_weight in
      let limit : ℕ = (want_of case r).spread_limit in
      let numbers = range_with_len 0 case.boards in
      sum_by-filter (touches_board case setting r) (λ board. paid (board_column case setting r board)) numbers
      ∙ sum_by-same (λ board. cond (touches_board case setting r board) (paid (board_column case setting r board)) 0) (λ board. w * (units_on_board case a r board - limit))
      (λ board. kept-where (touches_board case setting r board) (paid (board_column case setting r board)) (w * (units_on_board case a r board - limit)) (λ t. refl)
      (λ t. ap (λ n. w * (n - limit)) (untouched-zero r within (λ s. s.board == board) (λ s. s.board == board) (λ p h. h) t) ∙ ap (λ n. w * n) (none-less limit) ∙ times-none w)) numbers
      ∙ sum_by-times w (λ board. units_on_board case a r board - limit) numbers
      ∙ sym (ap (λ n. w * n) (sum_by-map (λ n. n - limit) (units_on_board case a r) numbers))
  boards-paid r within false e =
      sym (ap (λ n. n * excess (want_of case r).spread_limit (board_units case a r)) (not_above-zero (want_of case r).spread_weight e) ∙ omega arith)

  racks-paid : (r : ℕ) → is_active setting r ≡ true → (b : Bool) → (setting.racks && nat_lt 0 (want_of case r).rack_weight) ≡ b
      → sum_by (λ rack. paid (rack_column case setting r rack)) (cond b (touched_racks case setting r) []) ≡ cond setting.racks (rack_excess case a r) 0
  racks-paid r within true e =
      let w : ℕ = (want_of case r).rack_weight in
      let limit : ℕ = (want_of case r).rack_limit in
      let numbers = range_with_len 0 case.racks in
      sum_by-filter (touches_rack case setting r) (λ rack. paid (rack_column case setting r rack)) numbers
      ∙ sum_by-same (λ rack. cond (touches_rack case setting r rack) (paid (rack_column case setting r rack)) 0) (λ rack. w * (units_on_rack case a r rack - limit))
      (λ rack. kept-where (touches_rack case setting r rack) (paid (rack_column case setting r rack)) (w * (units_on_rack case a r rack - limit)) (λ t. refl)
      (λ t. ap (λ n. w * (n - limit)) (untouched-zero r within (λ s. s.rack == rack) (λ s. s.rack == rack) (λ p h. h) t) ∙ ap (λ n. w * n) (none-less limit) ∙ times-none w)) numbers
      ∙ sum_by-times w (λ rack. units_on_rack case a r rack - limit) numbers
      ∙ sym (ap (λ n. w * n) (sum_by-map (λ n. n - limit) (units_on_rack case a r) numbers))
      ∙ sym (ap (λ b. cond b (rack_excess case a r) 0) (and-left _ _ e))
  racks-paid r within false e =
      sym (no-racks setting.racks (nat_lt 0 (want_of case r).rack_weight) (want_of case r).rack_weight (excess (want_of case r).rack_limit (rack_units case a r)) e (not_above-zero (want_of case r).rack_weight))

  abbrev entry_paid : ℕ → Option Goal → Goal → ℕ
  entry_paid r o g = cond (nat_lt 0 g.weight && nat_lt 0 g.least) (g.weight * lack case a r o) 0

  shorts-paid : (r : ℕ) → sum_by paid (shortage_columns case r) ≡ sum_by (shortage_cost case a r) (want_of case r).near
  shorts-paid r =
      let near = (want_of case r).near in
      sum_by-map paid (λ e. short_column r e.0 e.1) (short_entries case r)
      ∙ sum_by-filter (λ e. nat_lt 0 e.1.weight && nat_lt 0 e.1.least) (λ e. paid (short_column r e.0 e.1)) (enumerate_from 0 near)
      ∙ sum_by-enumerate_get (entry_paid r) near [] near 0 refl refl
      ∙ sum_by-same (λ g. entry_paid r (Some g) g) (shortage_cost case a r)
      (λ g. kept-where (nat_lt 0 g.weight && nat_lt 0 g.least) (g.weight * lack case a r (Some g)) (shortage_cost case a r g) (λ t. refl)
      (λ t. either-zero (nat_lt 0 g.weight) (nat_lt 0 g.least) g.weight (lack case a r (Some g)) t (not_above-zero g.weight)
      (λ none. ap (λ n. n - option_map_or (units_in_center case a r) g.center 0) (not_above-zero g.least none) ∙ none-less (option_map_or (units_in_center case a r) g.center 0)))) near

  -- the helpers of a reservation cost its terms, and where racks count its rack excess
  pub terms-paid : (r : ℕ) → is_active setting r ≡ true → sum_by paid (helper_columns case setting r) ≡ terms_cost case a r + cond setting.racks (rack_excess case a r) 0
  terms-paid r within =
      let shares = share_columns case setting r in
      let boards = board_excess_columns case setting r in
      let shorts = shortage_columns case r in
      let racks = rack_excess_columns case setting r in
      let share = share-paid r within (has_share case setting r) refl in
      let board : sum_by paid boards ≡ (want_of case r).spread_weight * excess (want_of case r).spread_limit (board_units case a r) =
      sum_by-map paid (board_column case setting r) (excess_boards case setting r) ∙ boards-paid r within (nat_lt 0 (want_of case r).spread_weight) refl in
      let rack : sum_by paid racks ≡ cond setting.racks (rack_excess case a r) 0 =
      sum_by-map paid (rack_column case setting r) (excess_racks case setting r) ∙ racks-paid r within (setting.racks && nat_lt 0 (want_of case r).rack_weight) refl in
      sum_by-append paid (shares ++ boards ++ shorts) racks ∙ omega (arith, sum_by-append paid (shares ++ boards) shorts, sum_by-append paid shares boards, share, board, shorts-paid r, rack)

  pub helpers-paid : sum_by paid (flat_map (helper_columns case setting) setting.active) ≡ sum_by (terms_cost case a) setting.active + cond setting.racks (sum_by (rack_excess case a) setting.active) 0
  helpers-paid = sum_by-flat_map paid (helper_columns case setting) setting.active
      ∙ same-all (λ r. sum_by paid (helper_columns case setting r)) (λ r. terms_cost case a r + cond setting.racks (rack_excess case a r) 0) setting.active
      (All-active setting (λ r. sum_by paid (helper_columns case setting r) ≡ terms_cost case a r + cond setting.racks (rack_excess case a r) 0) terms-paid)
      ∙ sum_by-plus (terms_cost case a) (λ r. cond setting.racks (rack_excess case a r) 0) setting.active
      ∙ ap (λ n. sum_by (terms_cost case a) setting.active + n) (sum_by-if setting.racks (rack_excess case a) setting.active)
