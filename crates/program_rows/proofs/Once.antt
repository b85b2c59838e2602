-- The column of a helper stands once among the columns of the program of a phase.
use Rattle.std.proofs.Common.{◌≡◌, ℕ, ◌+◌, ◌*◌, ◌<◌, Bool, true, false, cond, [], ◌∷◌, ◌++◌, arith, ap, sym, ◌∙◌, refl, zero-add}
use Rattle.std.specs.Prelude.{sum_by, flat_map, Option, nat_lt, ◌==◌, ◌&&◌}
use Rattle.std.specs.List.{enumerate_from, range_with_len}
use Rattle.std.proofs.lemmas.List.Sums.{sum_by-cons, sum_by-append}
use Rattle.std.proofs.lemmas.Bool.{eqb-true, eq-eqb}
use Rattle.plan_model.specs.declared.cases.Case.{Case}
use Rattle.plan_model.specs.declared.cases.Goal.{Goal}
use Rattle.plan_model.specs.declared.cases.Grouping.{Grouping}
use Rattle.plan_model.specs.Units.{want_of}
use Rattle.plan_model.proofs.SumLemmas.{sum_by-filter}
use Rattle.symmetry_classes.proofs.Partition.{sum_by-same, sum_by-zero}
use Rattle.ip_model.specs.declared.parts.Mark.{Mark}
use Rattle.ip_model.specs.declared.parts.Mark.TheVariants.{Count, Share, BoardExcess, Shortage, RackExcess}
use Rattle.ip_model.specs.declared.parts.Column.{Column}
use Rattle.program_rows.specs.Settings.{Setting, phase_classes}
use Rattle.program_rows.specs.Phases.{IsStart, is_active}
use Rattle.program_rows.proofs.PhaseSums.{once-active}
use Rattle.program_rows.proofs.PhaseRows.{columns_of}
use Rattle.program_rows.specs.Programs.{touched_boards, touched_racks, excess_racks, at_rack_excess, has_share, excess_boards, short_entries, destinations, count_column, count_columns, share_columns, board_excess_columns, shortage_columns, rack_excess_columns, helper_columns, at_share, at_board_excess, at_shortage}
use Rattle.program_rows.proofs.ListSums.{sum_by-map, sum_by-flat_map, sum_by-times}
use Rattle.program_rows.proofs.RangeSums.{once-in_range}
use Rattle.program_rows.proofs.ClassRows.{pick}
use Rattle.program_rows.proofs.Parts.{touches_board, touches_rack, rack_column, share_column, board_column, short_column, IsShortEntry}

zero-times : (n : ℕ) → 0 * n ≡ 0
zero-times n = omega arith

times-one : (n : ℕ) → n * 1 ≡ n
times-one n = omega arith

one-by : (b : Bool) (n v : ℕ) → (b ≡ true → n ≡ v) → (b ≡ false → n ≡ 0) → n ≡ v * cond b 1 0
one-by true n v same none = same refl ∙ sym (times-one v)
one-by false n v same none = none refl ∙ omega arith

-- a sum over the numbers below a bound that only one of them adds to
pub sum_by-only : (f : ℕ → ℕ) (n r : ℕ) → r < n → ((q : ℕ) → (q == r) ≡ false → f q ≡ 0) → sum_by f (range_with_len 0 n) ≡ f r
sum_by-only f n r within none =
    sum_by-same f (λ q. f r * cond (q == r) 1 0) (λ q. one-by (q == r) (f q) (f r) (λ e. ap f (eqb-true q r e)) (none q)) (range_with_len 0 n)
    ∙ sum_by-times (f r) (λ q. cond (q == r) 1 0) (range_with_len 0 n)
    ∙ ap (λ k. f r * k) (once-in_range n r within) ∙ times-one (f r)

and-second : (b c : Bool) → c ≡ false → (b && c) ≡ false
and-second true c e = e
and-second false c e = refl

cond-zero : (b : Bool) → ◌≡◌ {A = ℕ} (cond b 0 0) 0
cond-zero true = refl
cond-zero false = refl

one-more : (n : ℕ) → 1 * n ≡ n
one-more n = omega arith

-- the one that is asked for, where it passes
asked : (b s t : Bool) (n m : ℕ) → t ≡ true → (b ≡ true → n ≡ m) → cond s (cond (t && b) 1 0 * n) 0 ≡ cond b (cond s m 0) 0
asked true true true n m e h = one-more n ∙ h refl
asked true false true n m e h = refl
asked false true true n m e h = zero-times n
asked false false true n m e h = refl
asked b s false n m e h = cc

module _ (case : Case) (setting : Setting) (phase : IsStart case setting) (how : Grouping) (number : Mark → ℕ) where
  -- a sum over the active reservations that only one of them adds to
  pub active-only : (f : ℕ → ℕ) (r : ℕ) → is_active setting r ≡ true → ((q : ℕ) → (q == r) ≡ false → f q ≡ 0) → sum_by f setting.active ≡ f r
  active-only f r active none =
      sum_by-same f (λ q. f r * cond (q == r) 1 0) (λ q. one-by (q == r) (f q) (f r) (λ e. ap f (eqb-true q r e)) (none q)) setting.active
      ∙ sum_by-times (f r) (λ q. cond (q == r) 1 0) setting.active
      ∙ ap (λ k. f r * k) (once-active case setting phase r active) ∙ times-one (f r)

  module _ (factor : Mark → ℕ) where
    abbrev weigh : Column → ℕ
    weigh c = factor c.mark * number c.mark

    -- a factor that is 0 at the counts
    pub only-helpers : ((c : ℕ) (to : Option ℕ) → factor (Count c to) ≡ 0)
        → sum_by weigh (columns_of case setting how) ≡ sum_by (λ q. sum_by weigh (helper_columns case setting q)) setting.active
    only-helpers none =
        let classes = phase_classes case setting how in
        let counts : sum_by weigh (flat_map (count_columns case setting) (enumerate_from 0 classes)) ≡ 0 =
        sum_by-flat_map weigh (count_columns case setting) (enumerate_from 0 classes)
        ∙ sum_by-zero (λ e. sum_by weigh (count_columns case setting e))
        (λ e. sum_by-map weigh (count_column case e) (destinations case setting e.1)
        ∙ sum_by-zero (λ to. weigh (count_column case e to)) (λ to. ap (λ k. k * number (Count e.0 to)) (none e.0 to) ∙ zero-times (number (Count e.0 to))) (destinations case setting e.1))
        (enumerate_from 0 classes) in
        sum_by-append weigh (flat_map (count_columns case setting) (enumerate_from 0 classes)) (flat_map (helper_columns case setting) setting.active)
        ∙ ap (λ k. k + sum_by weigh (flat_map (helper_columns case setting) setting.active)) counts
        ∙ zero-add (sum_by weigh (flat_map (helper_columns case setting) setting.active))
        ∙ sum_by-flat_map weigh (helper_columns case setting) setting.active

    -- the helpers of one reservation, kind by kind
    pub by-kind : (q : ℕ) → sum_by weigh (helper_columns case setting q)
        ≡ sum_by weigh (share_columns case setting q) + sum_by weigh (board_excess_columns case setting q) + sum_by weigh (shortage_columns case q) + sum_by weigh (rack_excess_columns case setting q)
    by-kind q =
        let shares = share_columns case setting q in
        let boards = board_excess_columns case setting q in
        let shortages = shortage_columns case q in
        let racks = rack_excess_columns case setting q in
        omega (arith, sum_by-append weigh (shares ++ boards ++ shortages) racks, sum_by-append weigh (shares ++ boards) shortages, sum_by-append weigh shares boards)

    shares-are : (q n : ℕ) → weigh (share_column case setting q) ≡ n → sum_by weigh (share_columns case setting q) ≡ cond (has_share case setting q) n 0
    shares-are q n h =
        let step : (b : Bool) → sum_by weigh (cond b (share_column case setting q ∷ []) []) ≡ cond b n 0 =
        λ b. elim b as (λ v. sum_by weigh (cond v (share_column case setting q ∷ []) []) ≡ cond v n 0) [ true ↦ sum_by-cons weigh (share_column case setting q) [] ∙ omega arith | false ↦ refl ] in
        step (has_share case setting q)

    boards-zero : (q : ℕ) → ((b : ℕ) → factor (BoardExcess q b) ≡ 0) → sum_by weigh (board_excess_columns case setting q) ≡ 0
    boards-zero q none =
        sum_by-map weigh (board_column case setting q) (excess_boards case setting q)
        ∙ sum_by-zero (λ b. weigh (board_column case setting q b)) (λ b. ap (λ k. k * number (BoardExcess q b)) (none b) ∙ zero-times (number (BoardExcess q b))) (excess_boards case setting q)

    shorts-zero : (q : ℕ) → ((e : ℕ) → factor (Shortage q e) ≡ 0) → sum_by weigh (shortage_columns case q) ≡ 0
    shorts-zero q none =
        sum_by-map weigh (λ e. short_column q e.0 e.1) (short_entries case q)
        ∙ sum_by-zero (λ e. weigh (short_column q e.0 e.1)) (λ e. ap (λ k. k * number (Shortage q e.0)) (none e.0) ∙ zero-times (number (Shortage q e.0))) (short_entries case q)

    racks-zero : (q : ℕ) → ((k : ℕ) → factor (RackExcess q k) ≡ 0) → sum_by weigh (rack_excess_columns case setting q) ≡ 0
    racks-zero q none =
        sum_by-map weigh (rack_column case setting q) (excess_racks case setting q)
        ∙ sum_by-zero (λ k. weigh (rack_column case setting q k)) (λ k. ap (λ n. n * number (RackExcess q k)) (none k) ∙ zero-times (number (RackExcess q k))) (excess_racks case setting q)

    shares-zero : (q : ℕ) → factor (Share q) ≡ 0 → sum_by weigh (share_columns case setting q) ≡ 0
    shares-zero q none =
        let any : (b : Bool) → ◌≡◌ {A = ℕ} (cond b 0 0) 0 = λ b. elim b as (λ v. ◌≡◌ {A = ℕ} (cond v 0 0) 0) [ true ↦ refl | false ↦ refl ] in
        shares-are q 0 (ap (λ k. k * number (Share q)) none ∙ zero-times (number (Share q))) ∙ any (has_share case setting q)

  one-times : (b : Bool) (n : ℕ) → b ≡ true → cond b 1 0 * n ≡ n
  one-times true n e = omega arith
  one-times false n e = cc

  none-times : (b : Bool) (n : ℕ) → b ≡ false → cond b 1 0 * n ≡ 0
  none-times false n e = omega arith
  none-times true n e = cc

  pub share-once : (r : ℕ) → is_active setting r ≡ true → has_share case setting r ≡ true → sum_by (λ c. at_share r c.mark * number c.mark) (columns_of case setting how) ≡ number (Share r)
  share-once r within has =
      let factor : Mark → ℕ = at_share r in
      let w : Column → ℕ = weigh factor in
      let mine : sum_by w (helper_columns case setting r) ≡ number (Share r) =
      by-kind factor r
      ∙ (let share = shares-are factor r (number (Share r)) (one-times (r == r) (number (Share r)) (eq-eqb r r refl)) ∙ ap (λ b. cond b (number (Share r)) 0) has in
      let board = boards-zero factor r (λ b. refl) in
      let short = shorts-zero factor r (λ e. refl) in let rack = racks-zero factor r (λ k. refl) in omega (arith, share, board, short, rack)) in
      only-helpers factor (λ c to. refl)
      ∙ active-only (λ q. sum_by w (helper_columns case setting q)) r within
      (λ q e. by-kind factor q
      ∙ (let share = shares-zero factor q (ap (λ b. cond b 1 0) e) in
      let board = boards-zero factor q (λ b. refl) in
      let short = shorts-zero factor q (λ x. refl) in let rack = racks-zero factor q (λ k. refl) in omega (arith, share, board, short, rack)))
      ∙ mine

  pub board-once : (r board : ℕ) → is_active setting r ≡ true → board < case.boards → nat_lt 0 (want_of case r).spread_weight ≡ true → touches_board case setting r board ≡ true
      → sum_by (λ c. at_board_excess r board c.mark * number c.mark) (columns_of case setting how) ≡ number (BoardExcess r board)
  board-once r board within there weight touched =
      let factor : Mark → ℕ = at_board_excess r board in
      let w : Column → ℕ = weigh factor in
      let f : ℕ → ℕ = λ b. w (board_column case setting r b) in
      let n : ℕ = number (BoardExcess r board) in
      let at : f board ≡ n = ap (λ z. cond (z && (board == board)) 1 0 * n) (eq-eqb r r refl) ∙ one-times (board == board) n (eq-eqb board board refl) in
      let block : sum_by w (board_excess_columns case setting r) ≡ n =
      sum_by-map w (board_column case setting r) (excess_boards case setting r)
      ∙ ap (λ z. sum_by f (cond z (touched_boards case setting r) [])) weight
      ∙ sum_by-filter (touches_board case setting r) f (range_with_len 0 case.boards)
      ∙ sum_by-only (λ b. cond (touches_board case setting r b) (f b) 0) case.boards board there
      (λ b e. ap (λ k. cond (touches_board case setting r b) k 0) (none-times (r == r && b == board) (number (BoardExcess r b)) (and-second (r == r) (b == board) e)) ∙ cond-zero (touches_board case setting r b))
      ∙ ap (λ z. cond z (f board) 0) touched ∙ at in
      only-helpers factor (λ c to. refl)
      ∙ active-only (λ q. sum_by w (helper_columns case setting q)) r within
      (λ q e. by-kind factor q
      ∙ (let share = shares-zero factor q refl in
      let other = boards-zero factor q (λ b. ap (λ z. cond (z && (b == board)) 1 0) e) in
      let short = shorts-zero factor q (λ x. refl) in let rack = racks-zero factor q (λ k. refl) in omega (arith, share, other, short, rack)))
      ∙ by-kind factor r
      ∙ (let share = shares-zero factor r refl in
      let short = shorts-zero factor r (λ e. refl) in let rack = racks-zero factor r (λ k. refl) in omega (arith, share, block, short, rack))

  pub rack-once : (r rack : ℕ) → is_active setting r ≡ true → rack < case.racks → (setting.racks && nat_lt 0 (want_of case r).rack_weight) ≡ true → touches_rack case setting r rack ≡ true
      → sum_by (λ c. at_rack_excess r rack c.mark * number c.mark) (columns_of case setting how) ≡ number (RackExcess r rack)
  rack-once r rack within there weight touched =
      let factor : Mark → ℕ = at_rack_excess r rack in
      let w : Column → ℕ = weigh factor in
      let f : ℕ → ℕ = λ b. w (rack_column case setting r b) in
      let n : ℕ = number (RackExcess r rack) in
      let at : f rack ≡ n = ap (λ z. cond (z && (rack == rack)) 1 0 * n) (eq-eqb r r refl) ∙ one-times (rack == rack) n (eq-eqb rack rack refl) in
      let block : sum_by w (rack_excess_columns case setting r) ≡ n =
      sum_by-map w (rack_column case setting r) (excess_racks case setting r)
      ∙ ap (λ z. sum_by f (cond z (touched_racks case setting r) [])) weight
      ∙ sum_by-filter (touches_rack case setting r) f (range_with_len 0 case.racks)
      ∙ sum_by-only (λ b. cond (touches_rack case setting r b) (f b) 0) case.racks rack there
      (λ b e. ap (λ k. cond (touches_rack case setting r b) k 0) (none-times (r == r && b == rack) (number (RackExcess r b)) (and-second (r == r) (b == rack) e)) ∙ cond-zero (touches_rack case setting r b))
      ∙ ap (λ z. cond z (f rack) 0) touched ∙ at in
      only-helpers factor (λ c to. refl)
      ∙ active-only (λ q. sum_by w (helper_columns case setting q)) r within
      (λ q e. by-kind factor q
      ∙ (let share = shares-zero factor q refl in
      let other = racks-zero factor q (λ b. ap (λ z. cond (z && (b == rack)) 1 0) e) in
      let short = shorts-zero factor q (λ x. refl) in let none = boards-zero factor q (λ k. refl) in omega (arith, share, other, short, none)))
      ∙ by-kind factor r
      ∙ (let share = shares-zero factor r refl in
      let short = shorts-zero factor r (λ e. refl) in let none = boards-zero factor r (λ k. refl) in omega (arith, share, block, short, none))

  pub short-once : (r entry : ℕ) (goal : Goal) → is_active setting r ≡ true → IsShortEntry case r entry goal
      → sum_by (λ c. at_shortage r entry c.mark * number c.mark) (columns_of case setting how) ≡ number (Shortage r entry)
  short-once r entry goal within short =
      let factor : Mark → ℕ = at_shortage r entry in
      let w : Column → ℕ = weigh factor in
      let passes : Goal → Bool = λ g. nat_lt 0 g.weight && nat_lt 0 g.least in
      let near = (want_of case r).near in
      let f : ℕ × Goal → ℕ = λ e. w (short_column r e.0 e.1) in
      let n : ℕ = number (Shortage r entry) in
      let block : sum_by w (shortage_columns case r) ≡ n =
      sum_by-map w (λ e. short_column r e.0 e.1) (short_entries case r)
      ∙ sum_by-filter (λ e. passes e.1) f (enumerate_from 0 near)
      ∙ sum_by-same (λ e. cond (passes e.1) (f e) 0) (λ e. cond (e.0 == entry) (cond (passes e.1) n 0) 0)
      (λ e. asked (e.0 == entry) (passes e.1) (r == r) (number (Shortage r e.0)) n (eq-eqb r r refl) (λ same. ap (λ k. number (Shortage r k)) (eqb-true e.0 entry same))) (enumerate_from 0 near)
      ∙ sym (ap (λ j. sum_by (λ e. cond (e.0 == j) (cond (passes e.1) n 0) 0) (enumerate_from 0 near)) (zero-add entry))
      ∙ pick (λ g. cond (passes g) n 0) near 0 entry goal short.read
      ∙ ap (λ z. cond (z && nat_lt 0 goal.least) n 0) short.weight ∙ ap (λ z. cond z n 0) short.least in
      only-helpers factor (λ c to. refl)
      ∙ active-only (λ q. sum_by w (helper_columns case setting q)) r within
      (λ q e. by-kind factor q
      ∙ (let share = shares-zero factor q refl in
      let other = boards-zero factor q (λ b. refl) in
      let none = shorts-zero factor q (λ x. ap (λ z. cond (z && (x == entry)) 1 0) e) in let rack = racks-zero factor q (λ k. refl) in omega (arith, share, other, none, rack)))
      ∙ by-kind factor r
      ∙ (let share = shares-zero factor r refl in
      let other = boards-zero factor r (λ b. refl) in let rack = racks-zero factor r (λ k. refl) in omega (arith, share, other, block, rack))
