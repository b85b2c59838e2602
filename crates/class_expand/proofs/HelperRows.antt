-- The rows of helpers in the program of a phase, at a point that counts an assignment: what they say of the helper's number.
use Rattle.std.proofs.Common.{◌≡◌, ℕ, ◌+◌, ◌*◌, ◌<◌, Bool, true, false, cond, List, [], ◌∷◌, length, get_or, arith, ap, sym, ◌∙◌, refl, Some, None, All}
use Rattle.std.specs.Prelude.{sum_by, zip, Option, nat_lt, ◌==◌, ◌&&◌, ◌||◌, not, ℤ, pos, neg_ℤ, ◌+ℤ◌, ◌-ℤ◌, ◌*ℤ◌, ◌-◌}
use Rattle.std.specs.List.{list_all, list_any}
use Rattle.std.specs.Option.{option_map_or}
use Rattle.std.proofs.lemmas.Int.{ints}
use borrow.Author.Differences.{up, down}
use Rattle.std.proofs.lemmas.List.Filters.{sum_by-filter_both}
use Rattle.std.proofs.lemmas.List.Sums.{sum_by-cons}
use Rattle.std.proofs.lemmas.List.Elements.{All-head, All-tail}
use Rattle.std.proofs.lemmas.List.Recursion.{or_at}
use Rattle.std.proofs.lemmas.Bool.{eqb-true, eq-eqb}
use Rattle.std.specs.Cmp.{nat_eq_equiv}
use Rattle.plan_model.specs.declared.cases.Case.{Case}
use Rattle.plan_model.specs.declared.cases.Place.{Place}
use Rattle.plan_model.specs.declared.cases.Goal.{Goal}
use Rattle.plan_model.specs.declared.cases.Assignment.{Assignment}
use Rattle.plan_model.specs.declared.cases.Grouping.{Grouping}
use Rattle.plan_model.specs.CaseRule.{stand_together}
use Rattle.plan_model.specs.declared.losses.Lost.{Lost}
use Rattle.plan_model.specs.declared.losses.Lost.TheVariants as loss
use Rattle.plan_model.specs.Losses.{is_lost}
use Rattle.plan_model.specs.Units.{want_of, is_for, share_of, servers_with_places, place_of, units, units_where, units_on_board, units_on_rack, units_in_center}
use Rattle.plan_model.proofs.SumLemmas.{sum_by-filter}
use Rattle.plan_model.proofs.CaseFacts.{list_all-at}
use Rattle.symmetry_classes.specs.declared.groups.Class.{Class}
use Rattle.symmetry_classes.proofs.SameClass.{common-from_class}
use Rattle.symmetry_classes.proofs.Partition.{sum_by-zero}
use Rattle.ip_model.specs.declared.parts.Mark.{Mark}
use Rattle.ip_model.specs.declared.parts.Mark.TheVariants.{Share, BoardExcess, Shortage, RackExcess}
use Rattle.ip_model.specs.declared.parts.Column.{Column}
use Rattle.ip_model.specs.declared.parts.RowKind.TheVariants.{Loss, LargestShare, BoardOver, CenterShort, RackOver}
use Rattle.program_rows.specs.Settings.{Setting, phase_classes}
use Rattle.program_rows.specs.Phases.{IsPhase, is_active}
use Rattle.program_rows.proofs.PhaseSums.{IsLawful, start-of}
use Rattle.program_rows.proofs.PhaseRows.{CountsIn, columns_of, point_in, where-columns}
use Rattle.program_rows.specs.Programs.{units_at, has_share, at_rack_excess, at_share, at_board_excess, at_shortage, board_in_center, board_lost, loss_line}
use Rattle.program_rows.proofs.LineSums.{term_sum, column_sum, column_sum-pos, term_sum-line}
use Rattle.program_rows.proofs.Parts.{touches_board, touches_rack, rack_line, IsShortEntry, share_line, over_line, short_line}
use Rattle.program_rows.proofs.Once.{rack-once, share-once, board-once, short-once}

and-left : (a b : Bool) → (a && b) ≡ true → a ≡ true
and-left true b h = refl
and-left false b h = h

and-right : (a b : Bool) → (a && b) ≡ true → b ≡ true
and-right true b h = h
and-right false b h = cc

minus-step : (f g n : ℕ) (s t : ℕ) → ((pos f -ℤ pos g) *ℤ pos n) +ℤ (pos s -ℤ pos t) ≡ pos (f * n + s) -ℤ pos (g * n + t)
minus-step f g n s t =
    let z : ℤ = pos f -ℤ pos g in
    let parts : up z + g ≡ f + down z = omega (arith, ints) in
    omega (arith, ints, ap (λ k. k * n) parts)

plus-step : (f g n : ℕ) (s t : ℕ) → ((pos f +ℤ pos g) *ℤ pos n) +ℤ (pos s +ℤ pos t) ≡ pos (f * n + s) +ℤ pos (g * n + t)
plus-step f g n s t = omega (arith, ints)

-- the sum of a difference, and of a sum, of natural factors
pub column_sum-minus : (f g number : Mark → ℕ) (cs : List Column)
    → column_sum (λ mark. pos (f mark) -ℤ pos (g mark)) number cs ≡ pos (sum_by (λ c. f c.mark * number c.mark) cs) -ℤ pos (sum_by (λ c. g c.mark * number c.mark) cs)
column_sum-minus f g number [] = refl
column_sum-minus f g number (c ∷ cs) =
    ap (λ z. ((pos (f c.mark) -ℤ pos (g c.mark)) *ℤ pos (number c.mark)) +ℤ z) (column_sum-minus f g number cs)
    ∙ minus-step (f c.mark) (g c.mark) (number c.mark) (sum_by (λ d. f d.mark * number d.mark) cs) (sum_by (λ d. g d.mark * number d.mark) cs)
    ∙ sym (ap (λ k. pos k -ℤ pos (sum_by (λ d. g d.mark * number d.mark) (c ∷ cs))) (sum_by-cons (λ d. f d.mark * number d.mark) c cs)
    ∙ ap (λ k. pos (f c.mark * number c.mark + sum_by (λ d. f d.mark * number d.mark) cs) -ℤ pos k) (sum_by-cons (λ d. g d.mark * number d.mark) c cs))

pub column_sum-plus : (f g number : Mark → ℕ) (cs : List Column)
    → column_sum (λ mark. pos (f mark) +ℤ pos (g mark)) number cs ≡ pos (sum_by (λ c. f c.mark * number c.mark) cs + sum_by (λ c. g c.mark * number c.mark) cs)
column_sum-plus f g number [] = refl
column_sum-plus f g number (c ∷ cs) =
    ap (λ z. ((pos (f c.mark) +ℤ pos (g c.mark)) *ℤ pos (number c.mark)) +ℤ z) (column_sum-plus f g number cs)
    ∙ plus-step (f c.mark) (g c.mark) (number c.mark) (sum_by (λ d. f d.mark * number d.mark) cs) (sum_by (λ d. g d.mark * number d.mark) cs)
    ∙ sym (ap (λ k. pos k +ℤ pos (sum_by (λ d. g d.mark * number d.mark) (c ∷ cs))) (sum_by-cons (λ d. f d.mark * number d.mark) c cs)
    ∙ ap (λ k. pos (f c.mark * number c.mark + sum_by (λ d. f d.mark * number d.mark) cs) +ℤ pos k) (sum_by-cons (λ d. g d.mark * number d.mark) c cs))

-- ---- which switchboards lie in a datacenter

stands : (case : Case) → list_all (λ s. list_all (stand_together s) case.places) case.places ≡ true
stands case = and-right _ _ (and-left _ _ case.kept)

any-false : {X : Type 0} (test : X → Bool) (xs : List X) → All (λ x. test x ≡ false) xs → list_any test xs ≡ false
any-false test [] a = refl
any-false test (x ∷ xs) a =
    ap (λ b. b || list_any test xs) (All-head (λ y. test y ≡ false) x xs a) ∙ any-false test xs (All-tail (λ y. test y ≡ false) x xs a)

or-right : (a b : Bool) → (not a || b) ≡ true → a ≡ true → b ≡ true
or-right true b h e = h
or-right false b h e = cc

not_same-center : (x d y : ℕ) → x ≡ y → (y == d) ≡ false → (d == x) ≡ false
not_same-center x d y e h = nat_eq_equiv.symm d x ∙ ap (λ z. z == d) e ∙ h

other-board : (b c : Bool) → (b ≡ true → c ≡ false) → (b && c) ≡ false
other-board true c h = h refl
other-board false c h = refl

-- a switchboard of a server lies in that server's datacenter and in no other
board-lies : (case : Case) (d k : ℕ) (z : Place) → k < length case.places → (b : Bool) → ((get_or case.places k z).center == d) ≡ b
    → board_in_center case (Some d) (get_or case.places k z).board ≡ b
board-lies case d k z within true e =
    let p : Place = get_or case.places k z in
    let test : Place → Bool = λ s. s.board == p.board && is_for s.center (Some d) in
    or_at (list_any test) test refl (λ _ _. refl) case.places k z within
    (ap (λ z. z && (d == p.center)) (eq-eqb p.board p.board refl) ∙ nat_eq_equiv.symm d p.center ∙ e)
board-lies case d k z within false e =
    let p : Place = get_or case.places k z in
    any-false (λ s. s.board == p.board && is_for s.center (Some d)) case.places
    (λ i y inside.
    let s : Place = get_or case.places i y in
    other-board (s.board == p.board) (d == s.center) (λ same.
    let together : stand_together s p ≡ true = list_all-at (stand_together s) case.places k z within (list_all-at (λ t. list_all (stand_together t) case.places) case.places i y inside (stands case)) in
    not_same-center s.center d p.center (eqb-true s.center p.center (or-right (s.board == p.board) (s.center == p.center) (and-right _ _ together) same)) e))

-- sums over two lists side by side, with terms that are equal at each element of the first
sum_by-zip_same : {X Y : Type 0} (f g : X × Y → ℕ) (xs : List X) (ys : List Y) → All (λ x. (y : Y) → f (x, y) ≡ g (x, y)) xs → sum_by f (zip xs ys) ≡ sum_by g (zip xs ys)
sum_by-zip_same f g [] ys a = refl
sum_by-zip_same f g (x ∷ xs) [] a = refl
sum_by-zip_same {Y = Y} f g (x ∷ xs) (y ∷ ys) a =
    sum_by-cons f (x, y) (zip xs ys)
    ∙ ap (λ n. n + sum_by f (zip xs ys)) (All-head (λ z. (w : Y) → f (z, w) ≡ g (z, w)) x xs a y)
    ∙ ap (λ n. g (x, y) + n) (sum_by-zip_same f g xs ys (All-tail (λ z. (w : Y) → f (z, w) ≡ g (z, w)) x xs a))
    ∙ sym (sum_by-cons g (x, y) (zip xs ys))

no-board : (case : Case) (board : ℕ) → board_in_center case None board ≡ false
no-board case board = any-false (λ s. s.board == board && is_for s.center None) case.places (λ i z inside. other-board ((get_or case.places i z).board == board) false (λ _. refl))

-- so the units on the switchboards of a datacenter are the units in it
pub center-units : (case : Case) (a : Assignment) (r : ℕ) (center : Option ℕ)
    → units_where (λ s. board_in_center case center s.board) case a r ≡ option_map_or (units_in_center case a r) center 0
center-units case a r None =
    sum_by-filter (λ s. board_in_center case None s.0.board) (share_of case r) (servers_with_places case a)
    ∙ sum_by-zero (λ s. cond (board_in_center case None s.0.board) (share_of case r s) 0) (λ s. ap (λ b. cond b (share_of case r s) 0) (no-board case s.0.board)) (servers_with_places case a)
center-units case a r (Some d) =
    sum_by-filter (λ s. board_in_center case (Some d) s.0.board) (share_of case r) (servers_with_places case a)
    ∙ sum_by-zip_same (λ s. cond (board_in_center case (Some d) s.0.board) (share_of case r s) 0) (λ s. cond (s.0.center == d) (share_of case r s) 0) case.places a.of
    (λ k z within to.
    ap (λ b. cond b (share_of case r (get_or case.places k z, to)) 0) (board-lies case d k z within ((get_or case.places k z).center == d) refl))
    ∙ sym (sum_by-filter (λ s. s.0.center == d) (share_of case r) (servers_with_places case a))

-- and the units on the switchboards that are lost are the units that are lost
pub lost-units : (case : Case) (a : Assignment) (r : ℕ) (lost : Lost) → units_where (λ s. board_lost case lost s.board) case a r ≡ units_where (is_lost lost) case a r
lost-units case a r loss.Total = refl
lost-units case a r (loss.Board board) = refl
lost-units case a r (loss.Center d) = center-units case a r (Some d)

module _ (case : Case) (setting : Setting) (phase : IsPhase case setting) (a : Assignment) (lawful : IsLawful case setting a) (how : Grouping) (number : Mark → ℕ)
    (counts : CountsIn case setting how a number) where
  abbrev weigh_units : (Class → Bool) → ℕ → Column → ℕ
  weigh_units test r c = units_at case (phase_classes case setting how) test r c.mark * number c.mark

  pub board-columns : (r board : ℕ) → is_active setting r ≡ true
      → sum_by (weigh_units (λ class. class.board == board) r) (columns_of case setting how) ≡ units_on_board case a r board
  board-columns r board active =
      where-columns case setting phase a lawful how number counts r active (λ class. class.board == board) (λ s. s.board == board) (λ _. refl)
      (λ x y e. ap (λ b. b == board) (common-from_class how setting.racks case x y e).board)

  pub center-columns : (r : ℕ) (center : Option ℕ) → is_active setting r ≡ true
      → sum_by (weigh_units (λ class. board_in_center case center class.board) r) (columns_of case setting how) ≡ option_map_or (units_in_center case a r) center 0
  center-columns r center active =
      where-columns case setting phase a lawful how number counts r active (λ class. board_in_center case center class.board) (λ s. board_in_center case center s.board) (λ _. refl)
      (λ x y e. ap (board_in_center case center) (common-from_class how setting.racks case x y e).board)
      ∙ center-units case a r center

  pub rack-columns : (r rack : ℕ) → is_active setting r ≡ true → setting.racks ≡ true
      → sum_by (weigh_units (λ class. is_for rack class.rack) r) (columns_of case setting how) ≡ units_on_rack case a r rack
  rack-columns r rack active racks =
      where-columns case setting phase a lawful how number counts r active (λ class. is_for rack class.rack) (λ s. s.rack == rack)
      (λ x. ap (λ b. is_for rack (cond b (Some (place_of case x).rack) None)) racks)
      (λ x y e. ap (λ b. b == rack) ((common-from_class how setting.racks case x y e).rack racks))

  -- the largest share's row sums to the helper less the units on the switchboard
  pub share-sum : (r board : ℕ) → is_active setting r ≡ true → has_share case setting r ≡ true
      → term_sum (share_line case setting how r board).terms (point_in case setting how number) ≡ pos (number (Share r)) -ℤ pos (units_on_board case a r board)
  share-sum r board within has =
      let units : Mark → ℕ = units_at case (phase_classes case setting how) (λ class. class.board == board) r in
      term_sum-line (columns_of case setting how) LargestShare (λ mark. pos (at_share r mark) -ℤ pos (units mark)) (pos 0) number
      ∙ column_sum-minus (at_share r) units number (columns_of case setting how)
      ∙ ap (λ k. pos k -ℤ pos (sum_by (λ c. units c.mark * number c.mark) (columns_of case setting how))) (share-once case setting (start-of case setting phase) how number r within has)
      ∙ ap (λ k. pos (number (Share r)) -ℤ pos k) (board-columns r board within)

  pub over-sum : (r board : ℕ) → is_active setting r ≡ true → board < case.boards → nat_lt 0 (want_of case r).spread_weight ≡ true → touches_board case setting r board ≡ true
      → term_sum (over_line case setting how r board).terms (point_in case setting how number) ≡ pos (number (BoardExcess r board)) -ℤ pos (units_on_board case a r board)
  over-sum r board within there weight touched =
      let units : Mark → ℕ = units_at case (phase_classes case setting how) (λ class. class.board == board) r in
      term_sum-line (columns_of case setting how) BoardOver (λ mark. pos (at_board_excess r board mark) -ℤ pos (units mark)) (neg_ℤ (pos (want_of case r).spread_limit)) number
      ∙ column_sum-minus (at_board_excess r board) units number (columns_of case setting how)
      ∙ ap (λ k. pos k -ℤ pos (sum_by (λ c. units c.mark * number c.mark) (columns_of case setting how))) (board-once case setting (start-of case setting phase) how number r board within there weight touched)
      ∙ ap (λ k. pos (number (BoardExcess r board)) -ℤ pos k) (board-columns r board within)

  pub rack-sum : (r rack : ℕ) → is_active setting r ≡ true → rack < case.racks → (setting.racks && nat_lt 0 (want_of case r).rack_weight) ≡ true → touches_rack case setting r rack ≡ true
      → term_sum (rack_line case setting how r rack).terms (point_in case setting how number) ≡ pos (number (RackExcess r rack)) -ℤ pos (units_on_rack case a r rack)
  rack-sum r rack active there weight touched =
      let units : Mark → ℕ = units_at case (phase_classes case setting how) (λ class. is_for rack class.rack) r in
      term_sum-line (columns_of case setting how) RackOver (λ mark. pos (at_rack_excess r rack mark) -ℤ pos (units mark)) (neg_ℤ (pos (want_of case r).rack_limit)) number
      ∙ column_sum-minus (at_rack_excess r rack) units number (columns_of case setting how)
      ∙ ap (λ k. pos k -ℤ pos (sum_by (λ c. units c.mark * number c.mark) (columns_of case setting how))) (rack-once case setting (start-of case setting phase) how number r rack active there weight touched)
      ∙ ap (λ k. pos (number (RackExcess r rack)) -ℤ pos k) (rack-columns r rack active (and-left _ _ weight))

  pub short-sum : (r entry : ℕ) (goal : Goal) → is_active setting r ≡ true → IsShortEntry case r entry goal
      → term_sum (short_line case setting how r entry goal).terms (point_in case setting how number) ≡ pos (number (Shortage r entry) + option_map_or (units_in_center case a r) goal.center 0)
  short-sum r entry goal within short =
      let units : Mark → ℕ = units_at case (phase_classes case setting how) (λ class. board_in_center case goal.center class.board) r in
      term_sum-line (columns_of case setting how) CenterShort (λ mark. pos (at_shortage r entry mark) +ℤ pos (units mark)) (pos goal.least) number
      ∙ column_sum-plus (at_shortage r entry) units number (columns_of case setting how)
      ∙ ap (λ k. pos (k + sum_by (λ c. units c.mark * number c.mark) (columns_of case setting how))) (short-once case setting (start-of case setting phase) how number r entry goal within short)
      ∙ ap (λ k. pos (number (Shortage r entry) + k)) (center-columns r goal.center within)

  -- the row of a loss sums to the units that are left
  pub loss-sum : (r : ℕ) → is_active setting r ≡ true → (lost : Lost)
      → term_sum (loss_line case (phase_classes case setting how) (columns_of case setting how) r lost).terms (point_in case setting how number)
      ≡ pos (units case a r - units_where (is_lost lost) case a r)
  loss-sum r active lost =
      let outside : Class → Bool = λ class. not (board_lost case lost class.board) in
      let apart : Place → Bool = λ s. not (board_lost case lost s.board) in
      let factor : Mark → ℕ = units_at case (phase_classes case setting how) outside r in
      let split = sum_by-filter_both (λ s. board_lost case lost s.0.board) (λ s. not (board_lost case lost s.0.board)) (λ _. refl) (share_of case r) (servers_with_places case a) in
      let left : units_where apart case a r ≡ units case a r - units_where (is_lost lost) case a r = omega (arith, split, lost-units case a r lost) in
      term_sum-line (columns_of case setting how) Loss (λ mark. pos (factor mark)) (pos (want_of case r).need) number
      ∙ column_sum-pos factor number (columns_of case setting how)
      ∙ ap pos (where-columns case setting phase a lawful how number counts r active outside apart (λ _. refl)
      (λ x y e. ap (λ b. not (board_lost case lost b)) (common-from_class how setting.racks case x y e).board) ∙ left)
