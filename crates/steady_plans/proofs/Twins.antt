-- Servers that are alike: where one is settled, the other is.
use Rattle.std.proofs.Common.{◌≡◌, ℕ, zero, suc, ◌<◌, ◌≤◌, Bool, true, false, cond, length, get_or, replicate, arith, ap, sym, ◌∙◌, refl, Some, None}
use Rattle.std.specs.Prelude.{sum_by, Option, ◌&&◌, nat_lt}
use Rattle.std.specs.Option.{option_map_or}
use Rattle.plan_model.specs.declared.cases.Holder.{Holder}
use Rattle.plan_model.specs.declared.cases.Place.{Place}
use Rattle.plan_model.specs.declared.cases.Case.{Case}
use Rattle.plan_model.specs.declared.cases.Assignment.{Assignment}
use Rattle.plan_model.specs.Units.{share_of, servers_with_places, server_with, place_of, value_for, all_reservations}
use Rattle.plan_model.specs.Allowed.{keeps_need}
use Rattle.plan_model.specs.Costs.{move_cost, terms_cost, rack_excess}
use Rattle.plan_model.specs.Rack.{is_movable, none_or_in}
use Rattle.plan_model.proofs.SumLemmas.{sum_by-filter}
use Rattle.program_rows.specs.declared.phases.Phase.TheVariants.{Region}
use Rattle.program_rows.specs.Settings.{Setting, setting_of}
use Rattle.program_rows.specs.Phases.{IsStart, phase_allowed, phase_cost}
use Rattle.steady_plans.specs.Local.{may_take}
use Rattle.steady_plans.specs.Steady.{replaced, IsSettledAt, AreAlike}
use Rattle.steady_plans.proofs.Lists.{sum-same}
use Rattle.steady_plans.proofs.Changes.{changed-sum, share_where}
use Rattle.steady_plans.proofs.Costs.{HaveSameUnits, terms-same, rack_excess-same, keeps-same}
use Rattle.steady_plans.proofs.Nearby.{allowed-length}
use Rattle.steady_plans.proofs.Next.{fixed-settled, needed-settled}
use Rattle.steady_plans.proofs.Places.{takes, allowed-place}

pair-same : (p q : Place) (o r : Option ℕ) → p ≡ q → o ≡ r → ◌≡◌ {A = Place × Option ℕ} (p, o) (q, r)
pair-same p q o r e f = ap (λ x. (x, o)) e ∙ ap (λ y. (q, y)) f

module _ (case : Case) (setting : Setting) (start : IsStart case setting) (a : Assignment) (allowed : phase_allowed case setting a ≡ true)
    (s t : ℕ) (here : s < length case.places) (there : t < length case.places) (alike : AreAlike case setting a s t) where
  size : length a.of ≡ length case.places
  size = allowed-length case setting a allowed

  had : server_with case a s ≡ server_with case a t
  had = pair-same (place_of case s) (place_of case t) (get_or a.of s None) (get_or a.of t None) alike.place alike.gets

  started : server_with case setting.start s ≡ server_with case setting.start t
  started = pair-same (place_of case s) (place_of case t) (get_or setting.start.of s None) (get_or setting.start.of t None) alike.place alike.start

  same-sum : (f : Place × Option ℕ → ℕ) (to : Option ℕ) → sum_by f (servers_with_places case (replaced a s to)) ≡ sum_by f (servers_with_places case (replaced a t to))
  same-sum f to =
      let one = changed-sum case f a s to size here in
      let two = changed-sum case f a t to size there in
      omega (arith, one, two, ap f had, ap (λ p. f (p, to)) alike.place)

  same-units : (to : Option ℕ) (r : ℕ) → HaveSameUnits case (replaced a s to) (replaced a t to) r
  same-units to r test =
      sum_by-filter (λ x. test x.0) (share_of case r) (servers_with_places case (replaced a s to))
      ∙ same-sum (share_where test case r) to
      ∙ sym (sum_by-filter (λ x. test x.0) (share_of case r) (servers_with_places case (replaced a t to)))

  same-cost : (to : Option ℕ) → phase_cost case setting (replaced a s to) ≡ phase_cost case setting (replaced a t to)
  same-cost to =
      let moves = same-sum (move_cost case.moves) to in
      let terms = sum-same (terms_cost case (replaced a s to)) (terms_cost case (replaced a t to)) (λ r. terms-same case (replaced a s to) (replaced a t to) r (same-units to r)) (all_reservations case) in
      let racks = ap (λ n. cond setting.racks n 0)
      (sum-same (rack_excess case (replaced a s to)) (rack_excess case (replaced a t to)) (λ r. rack_excess-same case (replaced a s to) (replaced a t to) r (same-units to r)) setting.active) in
      omega (arith, moves, terms, racks)

  may-same : (to : Option ℕ) → may_take case setting s to ≡ true → may_take case setting t to ≡ true
  may-same to h = sym (ap (λ p. none_or_in setting.active to && option_map_or (λ r. nat_lt 0 (value_for case r p.kind)) to true) alike.place) ∙ h

  settled-by : (to : Option ℕ) (moves keeps : Bool) → is_movable case setting.active (server_with case setting.start s) ≡ moves
      → option_map_or (keeps_need case (replaced a s None)) (get_or a.of s None) true ≡ keeps → IsSettledAt case setting a t
      → phase_allowed case setting (replaced a s to) ≡ true → phase_cost case setting a ≤ phase_cost case setting (replaced a s to)
  settled-by to false keeps e f settled good = fixed-settled case setting start a allowed s here e to good
  settled-by to true false e f settled good = needed-settled case setting start a allowed s here (get_or a.of s None) refl f to good
  settled-by to true true e f settled good =
      let movable : is_movable case setting.active (server_with case setting.start t) ≡ true = sym (ap (is_movable case setting.active) started) ∙ e in
      let may = may-same to (takes case setting start a allowed s here to e good) in
      let own : (r : ℕ) → get_or a.of t None ≡ Some r → keeps_need case (replaced a t None) r ≡ true =
      λ r is. sym (keeps-same case (replaced a s None) (replaced a t None) r (same-units None r))
      ∙ sym (ap (λ o. option_map_or (keeps_need case (replaced a s None)) o true) (alike.gets ∙ is)) ∙ f in
      let there_allowed = allowed-place case setting start a allowed t there to movable may own in
      let least = settled to there_allowed in
      omega (arith, least, same-cost to)

  pub alike-settled : IsSettledAt case setting a t → IsSettledAt case setting a s
  alike-settled settled to good =
      settled-by to (is_movable case setting.active (server_with case setting.start s)) (option_map_or (keeps_need case (replaced a s None)) (get_or a.of s None) true) refl refl settled good

-- ---- what a comparison shows

pub place-same : (p q : Place) → p.kind ≡ q.kind → p.rack ≡ q.rack → p.board ≡ q.board → p.center ≡ q.center → p.holder ≡ q.holder → p.busy ≡ q.busy → p.up ≡ q.up → p ≡ q
place-same p q kind rack board center holder busy up =
    ap (λ (n : ℕ). let x : Place = record { kind = n; rack = p.rack; board = p.board; center = p.center; holder = p.holder; busy = p.busy; up = p.up } in x) kind
    ∙ ap (λ (n : ℕ). let x : Place = record { kind = q.kind; rack = n; board = p.board; center = p.center; holder = p.holder; busy = p.busy; up = p.up } in x) rack
    ∙ ap (λ (n : ℕ). let x : Place = record { kind = q.kind; rack = q.rack; board = n; center = p.center; holder = p.holder; busy = p.busy; up = p.up } in x) board
    ∙ ap (λ (n : ℕ). let x : Place = record { kind = q.kind; rack = q.rack; board = q.board; center = n; holder = p.holder; busy = p.busy; up = p.up } in x) center
    ∙ ap (λ (h : Holder). let x : Place = record { kind = q.kind; rack = q.rack; board = q.board; center = q.center; holder = h; busy = p.busy; up = p.up } in x) holder
    ∙ ap (λ (b : Bool). let x : Place = record { kind = q.kind; rack = q.rack; board = q.board; center = q.center; holder = q.holder; busy = b; up = p.up } in x) busy
    ∙ ap (λ (b : Bool). let x : Place = record { kind = q.kind; rack = q.rack; board = q.board; center = q.center; holder = q.holder; busy = q.busy; up = b } in x) up

none-of : (n s : ℕ) → get_or (replicate {A = Option ℕ} n None) s None ≡ None
none-of zero s = refl
none-of (suc n) zero = refl
none-of (suc n) (suc s) = none-of n s

-- the region phase starts from nothing
pub region-start : (case : Case) (s : ℕ) → get_or (setting_of case Region).start.of s None ≡ None
region-start case s = none-of (length case.places) s
