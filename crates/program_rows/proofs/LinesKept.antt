-- Each row of the program of a phase keeps the limits of rows.
use Rattle.std.proofs.Common.{◌≡◌, ℕ, suc, ◌+◌, ◌*◌, ◌<◌, ◌≤◌, Bool, true, false, cond, List, [], ◌∷◌, length, get_or, arith, ap, sym, ◌∙◌, refl, Some, None, All}
use Rattle.std.specs.Prelude.{sum_by, map, filter, slice_get, Option, nat_lt, ◌==◌, ◌&&◌, not, pos, neg_ℤ}
use Rattle.std.specs.List.{enumerate_from}
use Rattle.std.proofs.lemmas.List.Sums.{sum_by-cons}
use Rattle.std.proofs.lemmas.List.Elements.{All-nil, All-cons}
use Rattle.std.proofs.lemmas.Slice.Zip.{length-zip}
use Rattle.plan_model.specs.declared.cases.Holder.{Holder}
use Rattle.plan_model.specs.declared.cases.Holder.TheVariants.{Free, Held, Gone}
use Rattle.ras_requests.specs.declared.requests.Moves.{Moves}
use Rattle.plan_model.specs.Costs.{up_move_cost}
use Rattle.plan_model.specs.Rack.{is_movable}
use Rattle.plan_model.proofs.SumLemmas.{length-fits, few-places}
use Rattle.program_rows.proofs.PhaseSums.{most-all}
use Rattle.program_rows.proofs.Lists.{all-at, length_map}
use Rattle.std.specs.Option.{option_map_or}
use Rattle.std.proofs.lemmas.Int.{ints}
use Rattle.std.proofs.lemmas.Bool.{eqb-true}
use Rattle.std.proofs.lemmas.Bool.Decides.{nat_tests}
use Rattle.plan_model.specs.declared.cases.Case.{Case}
use Rattle.plan_model.specs.declared.cases.Goal.{Goal}
use Rattle.plan_model.specs.declared.cases.Grouping.{Grouping}
use Rattle.plan_model.specs.CaseRule.{goal_in_range}
use Rattle.plan_model.specs.declared.losses.Lost.{Lost}
use Rattle.plan_model.specs.Losses.{loss_at}
use Rattle.plan_model.specs.Units.{want_of, value_for, is_for, place_of, servers_with_places}
use Rattle.plan_model.proofs.CaseFacts.{list_all-at, want-in_range, near-in_range, want-limits}
use Rattle.symmetry_classes.specs.declared.groups.Class.{Class}
use Rattle.symmetry_classes.specs.Groups.{same_class, class_of, first_of_each}
use Rattle.symmetry_classes.proofs.SameClass.{common-from_class}
use Rattle.ip_model.specs.declared.parts.Mark.{Mark}
use Rattle.ip_model.specs.declared.parts.Mark.TheVariants.{Count, Share, BoardExcess, Shortage, RackExcess}
use Rattle.ip_model.specs.declared.parts.Column.{Column}
use Rattle.ip_model.specs.declared.parts.Line.{Line}
use Rattle.ip_model.specs.declared.parts.RowKind.TheVariants.{ClassMost, ClassLeast, Total, Loss, LargestShare, BoardOver, CenterShort, RackOver}
use Rattle.ip_model.specs.Limits.{is_helper, LineInRange, ColumnInRange}
use Rattle.program_rows.specs.Phases.{IsStart, is_active}
use Rattle.program_rows.specs.Settings.{Setting, movable_flags, movable_servers, phase_classes}
use Rattle.program_rows.specs.Programs.{in_class, units_at, at_share, at_board_excess, at_shortage, at_rack_excess, has_share, movable_value, board_in_center, board_lost, total_line, loss_line, program_lines}
use Rattle.program_rows.proofs.ClassRows.{IsCountFactor}
use Rattle.program_rows.proofs.PhaseRows.{columns_of}
use Rattle.program_rows.proofs.Parts.{columns-all, touches_board, touches_rack, IsShortEntry, lines-to, most_line, least_line, share_line, over_line, short_line, rack_line}
use Rattle.program_rows.proofs.Once.{share-once, board-once, short-once, rack-once}
use Rattle.program_rows.proofs.RowLimits.{plain-line, minus-line, plus-line, count-only}
use Rattle.program_rows.proofs.UnitLimits.{value-most, tops-most}

and-left : (a b : Bool) → (a && b) ≡ true → a ≡ true
and-left true b h = refl
and-left false b h = h

and-right : (a b : Bool) → (a && b) ≡ true → b ≡ true
and-right true b h = h
and-right false b h = cc

cond-one : (b : Bool) → cond b 1 0 ≤ 1
cond-one true = omega arith
cond-one false = omega arith

one-true : (b : Bool) → 1 ≤ cond b 1 0 → b ≡ true
one-true true h = refl
one-true false h = absurd (omega arith)

at_share-most : (r : ℕ) (m : Mark) → at_share r m ≤ 1
at_share-most r (Count c to) = omega arith
at_share-most r (Share q) = cond-one (q == r)
at_share-most r (BoardExcess q b) = omega arith
at_share-most r (Shortage q e) = omega arith
at_share-most r (RackExcess q k) = omega arith

at_board_excess-most : (r board : ℕ) (m : Mark) → at_board_excess r board m ≤ 1
at_board_excess-most r board (Count c to) = omega arith
at_board_excess-most r board (Share q) = omega arith
at_board_excess-most r board (BoardExcess q b) = cond-one (q == r && b == board)
at_board_excess-most r board (Shortage q e) = omega arith
at_board_excess-most r board (RackExcess q k) = omega arith

at_shortage-most : (r entry : ℕ) (m : Mark) → at_shortage r entry m ≤ 1
at_shortage-most r entry (Count c to) = omega arith
at_shortage-most r entry (Share q) = omega arith
at_shortage-most r entry (BoardExcess q b) = omega arith
at_shortage-most r entry (Shortage q e) = cond-one (q == r && e == entry)
at_shortage-most r entry (RackExcess q k) = omega arith

at_rack_excess-most : (r rack : ℕ) (m : Mark) → at_rack_excess r rack m ≤ 1
at_rack_excess-most r rack (Count c to) = omega arith
at_rack_excess-most r rack (Share q) = omega arith
at_rack_excess-most r rack (BoardExcess q b) = omega arith
at_rack_excess-most r rack (Shortage q e) = omega arith
at_rack_excess-most r rack (RackExcess q k) = cond-one (q == r && k == rack)

in_class-most : (c : ℕ) (m : Mark) → in_class c m ≤ 1
in_class-most c (Count d to) = cond-one (d == c)
in_class-most c (Share q) = omega arith
in_class-most c (BoardExcess q b) = omega arith
in_class-most c (Shortage q e) = omega arith
in_class-most c (RackExcess q k) = omega arith

in_class-counts : (c : ℕ) → IsCountFactor (in_class c)
in_class-counts c = record { share = λ _. refl; board = λ _ _. refl; shortage = λ _ _. refl; rack = λ _ _. refl }

cond-most : (b c : Bool) (n m : ℕ) → n ≤ m → cond b (cond c n 0) 0 ≤ m
cond-most true true n m h = h
cond-most true false n m h = omega arith
cond-most false c n m h = omega arith

cond-under : (b : Bool) (n m : ℕ) → n ≤ m → cond b n 0 ≤ m
cond-under true n m h = h
cond-under false n m h = omega arith

length-filter : {X : Type 0} (p : X → Bool) (xs : List X) → length (filter p xs) ≤ length xs
length-filter p [] = omega arith
length-filter p (x ∷ xs) =
    let rest = length-filter p xs in
    let step : (b : Bool) → length (cond b (x ∷ filter p xs) (filter p xs)) ≤ suc (length xs) =
    λ b. elim b as (λ v. length (cond v (x ∷ filter p xs) (filter p xs)) ≤ suc (length xs)) [ true ↦ omega (arith, rest) | false ↦ omega (arith, rest) ] in
    step (p x)

length-enumerate : {X : Type 0} (xs : List X) (n : ℕ) → length (enumerate_from n xs) ≡ length xs
length-enumerate [] n = refl
length-enumerate (x ∷ xs) n = ap suc (length-enumerate xs (n + 1))

pub thousands : (xs : List ℕ) → sum_by (λ _. 1000) xs ≡ 1000 * length xs
thousands [] = let none : 0 ≡ 1000 * 0 = omega arith in none
thousands (x ∷ xs) = omega (arith, sum_by-cons (λ (y : ℕ). 1000) x xs, thousands xs)

all-map : {X Y : Type 0} (P : Y → Type 0) (f : X → Y) (xs : List X) → ((x : X) → P (f x)) → All P (map f xs)
all-map P f [] h = All-nil P
all-map P f (x ∷ xs) h = All-cons P (f x) (map f xs) (h x) (all-map P f xs h)

cond-least : (b : Bool) (n m k : ℕ) → n ≤ k → m ≤ k → cond b n m ≤ k
cond-least true n m k h g = h
cond-least false n m k h g = g

move-by : (moves : Moves) (holder : Holder) (busy : Bool) (to : Option ℕ) → moves.take ≤ 10000 → moves.idle ≤ 10000 → moves.busy ≤ 10000 → up_move_cost moves holder busy to ≤ 10000
move-by moves Free busy None t i b = omega arith
move-by moves Free busy (Some q) t i b = t
move-by moves (Held q) busy to t i b = cond-least (is_for q to) 0 (cond busy moves.busy moves.idle) 10000 (omega arith) (cond-least busy moves.busy moves.idle 10000 b i)
move-by moves Gone busy None t i b = omega arith
move-by moves Gone busy (Some q) t i b = t

-- at most 20,000 servers are movable
pub servers-few : (case : Case) (setting : Setting) → IsStart case setting → length (movable_servers case setting) ≤ 20000
servers-few case setting phase =
    let flags = movable_flags case setting in
    let numbered = filter (λ e. e.1) (enumerate_from 0 flags) in
    let named : length (map (λ e. e.0) numbered) ≡ length numbered = length_map (λ e. e.0) numbered in
    let less = length-filter (λ e. e.1) (enumerate_from 0 flags) in
    let all = length-enumerate flags 0 in
    let tests = length_map (is_movable case setting.active) (servers_with_places case setting.start) in
    let start = length-fits case setting.start phase.fit in
    let few = few-places case in
    omega (arith, named, less, all, tests, start, few, length-zip case.places setting.start.of)

above-none : (n : ℕ) → nat_lt 0 n ≡ true → 1 ≤ n
above-none n h = grind (arith, nat_tests)

pub move-most : (case : Case) (holder : Holder) (busy : Bool) (to : Option ℕ) → up_move_cost case.moves holder busy to ≤ 10000
move-most case holder busy to =
    let take : case.moves.take ≤ 10000 = grind (arith, nat_tests, case.kept) in
    let idle : case.moves.idle ≤ 10000 = grind (arith, nat_tests, case.kept) in
    let busy_cost : case.moves.busy ≤ 10000 = grind (arith, nat_tests, case.kept) in
    move-by case.moves holder busy to take idle busy_cost

need-most : (case : Case) (r : ℕ) → r < length case.wants → (want_of case r).need ≤ 20000000
need-most case r within = let rule = want-in_range case r within in let less : (want_of case r).need ≤ 10000000 = grind (arith, nat_tests, rule) in omega (arith, less)

limit-most : (case : Case) (r : ℕ) → r < length case.wants → (want_of case r).spread_limit ≤ 20000000
limit-most case r within = let rule = want-in_range case r within in let less : (want_of case r).spread_limit ≤ 10000000 = grind (arith, nat_tests, rule) in omega (arith, less)

rack_limit-most : (case : Case) (r : ℕ) → r < length case.wants → (want_of case r).rack_limit ≤ 20000000
rack_limit-most case r within = let rule = want-in_range case r within in let less : (want_of case r).rack_limit ≤ 10000000 = grind (arith, nat_tests, rule) in omega (arith, less)

module _ (case : Case) (setting : Setting) (phase : IsStart case setting) (how : Grouping) where
  abbrev columns : List Column
  columns = columns_of case setting how

  abbrev kept : Line → Type 0
  kept = LineInRange columns

  abbrev units : (Class → Bool) → ℕ → Mark → ℕ
  units test r = units_at case (phase_classes case setting how) test r

  read-most : (test : Class → Bool) (r : ℕ) → r < length case.wants → (o : Option Class) → option_map_or (λ k. cond (test k) (value_for case r k.kind) 0) o 0 ≤ 1000
  read-most test r within None = omega arith
  read-most test r within (Some k) = cond-under (test k) (value_for case r k.kind) 1000 (value-most case r k.kind within)

  units-small : (test : Class → Bool) (r : ℕ) → r < length case.wants → (m : Mark) → units test r m ≤ 1000
  units-small test r within (Count c to) =
      cond-under (is_for r to) (option_map_or (λ k. cond (test k) (value_for case r k.kind) 0) (slice_get (phase_classes case setting how) c) 0) 1000 (read-most test r within (slice_get (phase_classes case setting how) c))
  units-small test r within (Share q) = omega arith
  units-small test r within (BoardExcess q b) = omega arith
  units-small test r within (Shortage q e) = omega arith
  units-small test r within (RackExcess q k) = omega arith

  units-counts : (test : Class → Bool) (r : ℕ) → IsCountFactor (units test r)
  units-counts test r = record { share = λ _. refl; board = λ _ _. refl; shortage = λ _ _. refl; rack = λ _ _. refl }

  pos-none : (u : Mark → ℕ) → IsCountFactor u → (m : Mark) → is_helper m ≡ true → pos (u m) ≡ pos 0
  pos-none u only m h = ap (λ n. pos n) (count-only u only m h)

  board-tops : (r board : ℕ) → is_active setting r ≡ true → sum_by (λ c. units (λ class. class.board == board) r c.mark * c.top) columns ≤ movable_value case setting r
  board-tops r board active =
      tops-most case setting phase how r active (λ class. class.board == board) (λ s. s.board == board) (λ _. refl) (λ x y e. ap (λ b. b == board) (common-from_class how setting.racks case x y e).board)

  rack-tops : (r rack : ℕ) → is_active setting r ≡ true → setting.racks ≡ true → sum_by (λ c. units (λ class. is_for rack class.rack) r c.mark * c.top) columns ≤ movable_value case setting r
  rack-tops r rack active racks =
      tops-most case setting phase how r active (λ class. is_for rack class.rack) (λ s. s.rack == rack)
      (λ x. ap (λ b. is_for rack (cond b (Some (place_of case x).rack) None)) racks) (λ x y e. ap (λ b. b == rack) ((common-from_class how setting.racks case x y e).rack racks))

  same-value : (q r : ℕ) → q ≡ r → movable_value case setting r ≤ movable_value case setting q
  same-value q r e = let same : movable_value case setting q ≡ movable_value case setting r = ap (movable_value case setting) e in omega (arith, same)

  share-kept : (r : ℕ) → is_active setting r ≡ true → has_share case setting r ≡ true → (board : ℕ) → kept (share_line case setting how r board)
  share-kept r active has board =
      minus-line columns LargestShare (at_share r) (units (λ class. class.board == board) r) (movable_value case setting r) 0 (record {
        units = units-counts (λ class. class.board == board) r;
        small = units-small (λ class. class.board == board) r (phase.there r active);
        most = at_share-most r;
        counts = λ c to. refl;
        once = (let one = share-once case setting phase how (λ _. 1) r active has in omega (arith, one));
        tops = all-at (λ c. 1 ≤ at_share r c.mark → movable_value case setting r ≤ c.top) columns (columns-all case setting (λ c. 1 ≤ at_share r c.mark → movable_value case setting r ≤ c.top) how (record {
          counts = λ c class to read p. absurd (omega arith);
          helpers = λ q a. record {
            share = λ h p. same-value q r (eqb-true q r (one-true (q == r) p));
            board = λ b there weight touched p. absurd (omega arith);
            short = λ entry goal short p. absurd (omega arith);
            rack = λ k there weight touched p. absurd (omega arith);
          };
        }));
      }) (board-tops r board active) (omega arith)

  over-kept : (r : ℕ) → is_active setting r ≡ true → nat_lt 0 (want_of case r).spread_weight ≡ true → (board : ℕ) → board < case.boards → touches_board case setting r board ≡ true → kept (over_line case setting how r board)
  over-kept r active weight board there touched =
      minus-line columns BoardOver (at_board_excess r board) (units (λ class. class.board == board) r) (movable_value case setting r) (want_of case r).spread_limit (record {
        units = units-counts (λ class. class.board == board) r;
        small = units-small (λ class. class.board == board) r (phase.there r active);
        most = at_board_excess-most r board;
        counts = λ c to. refl;
        once = (let one = board-once case setting phase how (λ _. 1) r board active there weight touched in omega (arith, one));
        tops = all-at (λ c. 1 ≤ at_board_excess r board c.mark → movable_value case setting r ≤ c.top) columns (columns-all case setting (λ c. 1 ≤ at_board_excess r board c.mark → movable_value case setting r ≤ c.top) how (record {
          counts = λ c class to read p. absurd (omega arith);
          helpers = λ q a. record {
            share = λ h p. absurd (omega arith);
            board = λ b th w tt p. same-value q r (eqb-true q r (and-left _ _ (one-true (q == r && b == board) p)));
            short = λ entry goal short p. absurd (omega arith);
            rack = λ k th w tt p. absurd (omega arith);
          };
        }));
      }) (board-tops r board active) (limit-most case r (phase.there r active))

  rack-kept : (r : ℕ) → is_active setting r ≡ true → (setting.racks && nat_lt 0 (want_of case r).rack_weight) ≡ true → (rack : ℕ) → rack < case.racks → touches_rack case setting r rack ≡ true → kept (rack_line case setting how r rack)
  rack-kept r active weight rack there touched =
      minus-line columns RackOver (at_rack_excess r rack) (units (λ class. is_for rack class.rack) r) (movable_value case setting r) (want_of case r).rack_limit (record {
        units = units-counts (λ class. is_for rack class.rack) r;
        small = units-small (λ class. is_for rack class.rack) r (phase.there r active);
        most = at_rack_excess-most r rack;
        counts = λ c to. refl;
        once = (let one = rack-once case setting phase how (λ _. 1) r rack active there weight touched in omega (arith, one));
        tops = all-at (λ c. 1 ≤ at_rack_excess r rack c.mark → movable_value case setting r ≤ c.top) columns (columns-all case setting (λ c. 1 ≤ at_rack_excess r rack c.mark → movable_value case setting r ≤ c.top) how (record {
          counts = λ c class to read p. absurd (omega arith);
          helpers = λ q a. record {
            share = λ h p. absurd (omega arith);
            board = λ b th w tt p. absurd (omega arith);
            short = λ entry goal short p. absurd (omega arith);
            rack = λ k th w tt p. same-value q r (eqb-true q r (and-left _ _ (one-true (q == r && k == rack) p)));
          };
        }));
      }) (rack-tops r rack active (and-left _ _ weight)) (rack_limit-most case r (phase.there r active))

  pub plain-kept : (r : ℕ) → is_active setting r ≡ true → kept (total_line case (phase_classes case setting how) columns r)
  plain-kept r active =
      plain-line columns Total (λ m. pos (units (λ _. true) r m)) (pos (want_of case r).need) (units-small (λ _. true) r (phase.there r active)) (pos-none (units (λ _. true) r) (units-counts (λ _. true) r)) (need-most case r (phase.there r active))

  pub loss-kept : (r : ℕ) → is_active setting r ≡ true → (lost : Lost) → kept (loss_line case (phase_classes case setting how) columns r lost)
  loss-kept r active lost =
      let outside : Class → Bool = λ class. not (board_lost case lost class.board) in
      plain-line columns Loss (λ m. pos (units outside r m)) (pos (want_of case r).need) (units-small outside r (phase.there r active)) (pos-none (units outside r) (units-counts outside r)) (need-most case r (phase.there r active))

  goal-most : (r entry : ℕ) (goal : Goal) → is_active setting r ≡ true → IsShortEntry case r entry goal → goal.least ≤ 10000000
  goal-most r entry goal active short =
      let all = near-in_range case r (phase.there r active) in
      let rule : goal_in_range case.centers goal ≡ true =
      all-at (λ g. goal_in_range case.centers g ≡ true) (want_of case r).near (λ k d inside. list_all-at (goal_in_range case.centers) (want_of case r).near k d inside all) entry goal short.read in
      grind (arith, nat_tests, rule)

  goal_weight-most : (r entry : ℕ) (goal : Goal) → is_active setting r ≡ true → IsShortEntry case r entry goal → goal.weight ≤ 10000
  goal_weight-most r entry goal active short =
      let all = near-in_range case r (phase.there r active) in
      let rule : goal_in_range case.centers goal ≡ true =
      all-at (λ g. goal_in_range case.centers g ≡ true) (want_of case r).near (λ k d inside. list_all-at (goal_in_range case.centers) (want_of case r).near k d inside all) entry goal short.read in
      grind (arith, nat_tests, rule)

  same-goal : (q e r entry : ℕ) (g goal : Goal) → q ≡ r → e ≡ entry → IsShortEntry case q e g → IsShortEntry case r entry goal → goal.least ≤ g.least
  same-goal q e r entry g goal same_r same_e one other =
      let read : Some g ≡ Some goal =
      sym one.read ∙ ap (λ z. slice_get (want_of case z).near e) same_r ∙ ap (λ z. slice_get (want_of case r).near z) same_e ∙ other.read in
      let same : g ≡ goal = cc in
      let least : g.least ≡ goal.least = ap (λ z. z.least) same in
      omega (arith, least)

  short-kept : (r : ℕ) → is_active setting r ≡ true → (entry : ℕ) (goal : Goal) → IsShortEntry case r entry goal → kept (short_line case setting how r entry goal)
  short-kept r active entry goal short =
      plus-line columns CenterShort (at_shortage r entry) (units (λ class. board_in_center case goal.center class.board) r) goal.least (record {
        units = units-counts (λ class. board_in_center case goal.center class.board) r;
        small = units-small (λ class. board_in_center case goal.center class.board) r (phase.there r active);
        most = at_shortage-most r entry;
        counts = λ c to. refl;
        once = (let one = short-once case setting phase how (λ _. 1) r entry goal active short in omega (arith, one));
        tops = all-at (λ c. 1 ≤ at_shortage r entry c.mark → goal.least ≤ c.top) columns (columns-all case setting (λ c. 1 ≤ at_shortage r entry c.mark → goal.least ≤ c.top) how (record {
          counts = λ c class to read p. absurd (omega arith);
          helpers = λ q a. record {
            share = λ h p. absurd (omega arith);
            board = λ b th w tt p. absurd (omega arith);
            short = λ e g sh p. let both_same = one-true (q == r && e == entry) p in same-goal q e r entry g goal (eqb-true q r (and-left _ _ both_same)) (eqb-true e entry (and-right _ _ both_same)) sh short;
            rack = λ k th w tt p. absurd (omega arith);
          };
        }));
      }) (let less = goal-most r entry goal active short in omega (arith, less))

  members-few : (c : ℕ) (class : Class) → slice_get (phase_classes case setting how) c ≡ Some class → length class.members ≤ 20000
  members-few c class read =
      all-at (λ k. length k.members ≤ 20000) (phase_classes case setting how)
      (all-map (λ k. length k.members ≤ 20000) (class_of how setting.racks case (movable_servers case setting)) (first_of_each (same_class how setting.racks case) (movable_servers case setting))
      (λ x. let less = length-filter (same_class how setting.racks case x) (movable_servers case setting) in let few = servers-few case setting phase in omega (arith, less, few))) c class read

  most-kept : (c : ℕ) (class : Class) → slice_get (phase_classes case setting how) c ≡ Some class → kept (most_line case setting how c class)
  most-kept c class read =
      plain-line columns ClassMost (λ m. neg_ℤ (pos (in_class c m))) (neg_ℤ (pos (length class.members)))
      (λ m. let less = in_class-most c m in omega (arith, ints, less)) (λ m h. ap (λ n. neg_ℤ (pos n)) (count-only (in_class c) (in_class-counts c) m h))
      (let few = members-few c class read in omega (arith, ints, few))

  least-kept : (c : ℕ) (class : Class) → slice_get (phase_classes case setting how) c ≡ Some class → kept (least_line case setting how c class)
  least-kept c class read =
      plain-line columns ClassLeast (λ m. pos (in_class c m)) (pos (length class.members))
      (λ m. let less = in_class-most c m in omega (arith, ints, less)) (pos-none (in_class c) (in_class-counts c))
      (let few = members-few c class read in omega (arith, ints, few))

  -- every row
  pub lines-kept : All kept (program_lines case setting (phase_classes case setting how))
  lines-kept = lines-to case setting how kept (record {
    most = most-kept;
    least = least-kept;
    rows = λ r active. record {
      total = plain-kept r active;
      loss = λ number there touched. loss-kept r active (loss_at (want_of case r).protection number);
      share = λ has board there touched. share-kept r active has board;
      over = λ weight board there touched. over-kept r active weight board there touched;
      short = λ entry goal short. short-kept r active entry goal short;
      racks = λ weight rack there touched. rack-kept r active weight rack there touched;
    };
  })

  value-few : (r : ℕ) → is_active setting r ≡ true → movable_value case setting r ≤ 20000000
  value-few r active =
      let servers = movable_servers case setting in
      let most = most-all (λ s. value_for case r (place_of case s).kind) (λ _. 1000) servers (λ k d inside. value-most case r (place_of case (get_or servers k d)).kind (phase.there r active)) in
      let sum = thousands servers in
      let few = servers-few case setting phase in
      omega (arith, most, sum, few)

  -- every column
  pub columns-kept : All ColumnInRange columns
  columns-kept = columns-all case setting ColumnInRange how (record {
    counts = λ c class to read. record { cost = move-most case class.holder class.busy to; top = (let few = members-few c class read in omega (arith, few)); helper_costs = λ h. cc };
    helpers = λ r active. record {
      share = λ has. record { cost = (want-limits case r (phase.there r active)).buffer_weight; top = value-few r active; helper_costs = λ h. above-none (want_of case r).buffer_weight (and-left _ _ has) };
      board = λ b there weight touched. record { cost = (want-limits case r (phase.there r active)).spread_weight; top = value-few r active; helper_costs = λ h. above-none (want_of case r).spread_weight weight };
      short = λ entry goal short. record {
        cost = goal_weight-most r entry goal active short;
        top = (let less = goal-most r entry goal active short in omega (arith, less));
        helper_costs = λ h. above-none goal.weight short.weight;
      };
      rack = λ k there weight touched. record { cost = (want-limits case r (phase.there r active)).rack_weight; top = value-few r active; helper_costs = λ h. above-none (want_of case r).rack_weight (and-right _ _ weight) };
    };
  })
