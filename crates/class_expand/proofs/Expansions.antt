-- Handing a whole point out over the classes expands it.
use Rattle.std.proofs.Common.{◌≡◌, ℕ, zero, suc, ◌+◌, ◌*◌, ◌<◌, ◌≤◌, Bool, true, false, cond, List, [], ◌∷◌, ◌++◌, All, length, get_or, replicate, arith, ap, sym, ◌∙◌, refl, Some, None, subst}
use Rattle.std.specs.Prelude.{fold, flat_map, sum_by, nat_eq, ◌==◌, ◌&&◌, slice_get, slice_index, Option, pos, neg_ℤ, ◌+ℤ◌, ◌*ℤ◌, ℤ}
use Rattle.std.specs.List.{enumerate_from}
use Rattle.std.specs.Option.{option_eq}
use Rattle.std.specs.Cmp.{nat_eq_equiv}
use Rattle.std.proofs.lemmas.Int.{ints}
use borrow.Author.Differences.{up, down}
use Rattle.std.proofs.lemmas.List.{append_assoc, get_or_at, get_or-map, length-append, length-replicate}
use Rattle.std.proofs.lemmas.List.Elements.{All-filter}
use Rattle.std.proofs.lemmas.List.Sums.{sum_by-cons, sum_by-append}
use Rattle.std.proofs.lemmas.Slice.Zip.{get_or-zip, length-zip}
use Rattle.std.proofs.lemmas.Bool.{eqb-true, eq-eqb}
use Rattle.std.proofs.lemmas.Bool.Decides.{nat_tests}
use Rattle.plan_model.specs.declared.cases.Case.{Case}
use Rattle.plan_model.specs.declared.cases.Assignment.{Assignment}
use Rattle.plan_model.specs.declared.cases.Grouping.{Grouping}
use Rattle.plan_model.specs.Units.{servers_with_places, server_with, no_place}
use Rattle.plan_model.specs.Rack.{is_movable}
use Rattle.plan_model.proofs.SumLemmas.{length-fits}
use Rattle.symmetry_classes.specs.declared.groups.Class.{Class}
use Rattle.symmetry_classes.specs.Groups.{same_class, class_of, first_of_each, flagged_servers}
use Rattle.symmetry_classes.proofs.Partition.{sum_by-same, sum_by-zero, sum_by-classes}
use Rattle.symmetry_classes.proofs.SameClass.{same_class-equivalence}
use Rattle.ip_model.specs.declared.parts.Mark.{Mark}
use Rattle.ip_model.specs.declared.parts.Mark.TheVariants.{Count, Share, BoardExcess, Shortage, RackExcess}
use Rattle.ip_model.specs.declared.parts.Column.{Column}
use Rattle.ip_model.specs.declared.parts.Line.{Line}
use Rattle.ip_model.specs.declared.parts.RowKind.TheVariants.{ClassMost, ClassLeast}
use Rattle.ip_model.specs.declared.program.Program.{Program}
use Rattle.ip_model.specs.Points.{MeetsLine, IsWholePoint}
use Rattle.program_rows.specs.Members.{members_with}
use Rattle.program_rows.specs.Phases.{IsPhase}
use Rattle.program_rows.specs.Settings.{Setting, movable_flags, movable_servers, phase_classes}
use Rattle.program_rows.specs.Programs.{in_class, destinations, count_column, count_columns, helper_columns, program_lines}
use Rattle.program_rows.proofs.ClassRows.{IsCountFactor, helpers-vanish}
use Rattle.program_rows.proofs.LineLimits.{sum_at, whole_at, line-at}
use Rattle.program_rows.proofs.ListSums.{sum_by-map, sum_by-flat_map}
use Rattle.program_rows.proofs.Lists.{All-map_to, All-enumerate_to, All-enumerate_from, all-at}
use Rattle.program_rows.proofs.Parts.{columns-all, lines-from}
use Rattle.program_rows.proofs.PhaseRows.{columns_of}
use Rattle.program_rows.proofs.PhaseSums.{most-all, same-all}
use Rattle.program_rows.proofs.RangeSums.{sum_by-flagged}
use Rattle.class_expand.specs.Lifting.{IsProgramOf, Expands, mark_at}
use Rattle.class_expand.specs.Dealing.{given_by, goes_to, dealt, deal, AreDealt}
use Rattle.class_expand.proofs.ClassCounts.{stands-most}
use Rattle.class_expand.proofs.Dealings.{times, stands, placed, Deals, deals-found, deals-keep, length-deals}
use Rattle.class_expand.proofs.Numbers.{found, found-one, at-least}

-- ---- rows at a point

whole-pos : (h : Mark → ℕ) (x : ℕ → ℕ) (n : ℕ) (cs : List Column) → whole_at (λ m. pos (h m)) x n cs ≡ pos (sum_at h x n cs)
whole-pos h x n [] = refl
whole-pos h x n (c ∷ cs) =
    ap (λ z. (pos (h c.mark) *ℤ pos (x n)) +ℤ z) (whole-pos h x (n + 1) cs) ∙ omega (arith, ints)

neg-step : (f n s : ℕ) → (neg_ℤ (pos f) *ℤ pos n) +ℤ neg_ℤ (pos s) ≡ neg_ℤ (pos (f * n + s))
neg-step f n s =
    let z : ℤ = neg_ℤ (pos f) in
    let parts : up z + f ≡ down z = omega (arith, ints) in
    omega (arith, ints, ap (λ k. k * n) parts)

whole-neg : (h : Mark → ℕ) (x : ℕ → ℕ) (n : ℕ) (cs : List Column) → whole_at (λ m. neg_ℤ (pos (h m))) x n cs ≡ neg_ℤ (pos (sum_at h x n cs))
whole-neg h x n [] = refl
whole-neg h x n (c ∷ cs) =
    ap (λ z. (neg_ℤ (pos (h c.mark)) *ℤ pos (x n)) +ℤ z) (whole-neg h x (n + 1) cs) ∙ neg-step (h c.mark) (x n) (sum_at h x (n + 1) cs)

sum_at-found : (h : Mark → ℕ) (before xs : List ℕ) (n : ℕ) (cs : List Column) → length before ≡ n → length xs ≡ length cs → sum_at h (slice_index (before ++ xs)) n cs ≡ found h cs xs
sum_at-found h before xs n [] e l = refl
sum_at-found h before [] n (c ∷ cs) e l = cc
sum_at-found h before (x ∷ xs) n (c ∷ cs) e l =
    let fewer : length xs ≡ length cs = cc in
    let more : length (before ++ x ∷ []) ≡ n + 1 = omega (arith, length-append before (x ∷ []), e) in
    ap (λ k. h c.mark * k + sum_at h (slice_index (before ++ x ∷ xs)) (n + 1) cs) (get_or_at before x xs 0 n e)
    ∙ ap (λ k. h c.mark * x + k)
    (ap (λ ys. sum_at h (slice_index ys) (n + 1) cs) (sym (append_assoc before (x ∷ []) xs)) ∙ sum_at-found h (before ++ x ∷ []) xs (n + 1) cs more fewer)

given-is : (class : ℕ) (m : Mark) (n : ℕ) → given_by class m n ≡ in_class class m * n
given-is class (Count c to) n =
    let step : (b : Bool) → cond b n 0 ≡ cond b 1 0 * n = λ b. elim b as (λ v. cond v n 0 ≡ cond v 1 0 * n) [ true ↦ omega arith | false ↦ omega arith ] in step (c == class)
given-is class (Share r) n = omega arith
given-is class (BoardExcess r b) n = omega arith
given-is class (Shortage r e) n = omega arith
given-is class (RackExcess r k) n = omega arith

length-dealt : (class : ℕ) (cs : List Column) (ns : List ℕ) → length (dealt class cs ns) ≡ found (in_class class) cs ns
length-dealt class [] ns = refl
length-dealt class (c ∷ cs) [] = refl
length-dealt class (c ∷ cs) (n ∷ ns) =
    let here = length-replicate (given_by class c.mark n) (goes_to c.mark) in
    omega (arith, length-append (replicate (given_by class c.mark n) (goes_to c.mark)) (dealt class cs ns), here, given-is class c.mark n, length-dealt class cs ns)

-- ---- how often a destination is dealt

-- 1 at the column of a class and a destination
abbrev pub at_count : ℕ → Option ℕ → Mark → ℕ
at_count class to (Count c t) = cond (c == class && option_eq nat_eq to t) 1 0
at_count class to _ = 0

option-symm : (o p : Option ℕ) → option_eq nat_eq o p ≡ option_eq nat_eq p o
option-symm None None = refl
option-symm None (Some y) = refl
option-symm (Some x) None = refl
option-symm (Some x) (Some y) = nat_eq_equiv.symm x y

option-same : (o : Option ℕ) → option_eq nat_eq o o ≡ true
option-same None = refl
option-same (Some x) = eq-eqb x x refl

replicate-sum : (f : Option ℕ → ℕ) (n : ℕ) (to : Option ℕ) → sum_by f (replicate n to) ≡ n * f to
replicate-sum f zero to = let none : 0 ≡ 0 * f to = omega arith in none
replicate-sum f (suc n) to = omega (arith, sum_by-cons f to (replicate n to), replicate-sum f n to)

count-by : (a b : Bool) (n : ℕ) → cond a n 0 * cond b 1 0 ≡ cond (a && b) 1 0 * n
count-by true true n = omega arith
count-by true false n = omega arith
count-by false b n = omega arith

counts-at : (class : ℕ) (to : Option ℕ) (m : Mark) (n : ℕ) → given_by class m n * cond (option_eq nat_eq (goes_to m) to) 1 0 ≡ at_count class to m * n
counts-at class to (Count c t) n =
    ap (λ b. cond (c == class) n 0 * cond b 1 0) (option-symm t to) ∙ count-by (c == class) (option_eq nat_eq to t) n
counts-at class to (Share r) n = omega arith
counts-at class to (BoardExcess r b) n = omega arith
counts-at class to (Shortage r e) n = omega arith
counts-at class to (RackExcess r k) n = omega arith

dealt-count : (class : ℕ) (to : Option ℕ) (cs : List Column) (ns : List ℕ)
    → sum_by (λ o. cond (option_eq nat_eq o to) 1 0) (dealt class cs ns) ≡ found (at_count class to) cs ns
dealt-count class to [] ns = refl
dealt-count class to (c ∷ cs) [] = refl
dealt-count class to (c ∷ cs) (n ∷ ns) =
    let f : Option ℕ → ℕ = λ o. cond (option_eq nat_eq o to) 1 0 in
    let split = sum_by-append f (replicate (given_by class c.mark n) (goes_to c.mark)) (dealt class cs ns) in
    let here = replicate-sum f (given_by class c.mark n) (goes_to c.mark) in
    omega (arith, split, here, counts-at class to c.mark n, dealt-count class to cs ns)

-- ---- each number of a list stands once

numbers-none : {X : Type 0} (xs : List X) (n s : ℕ) → s < n → sum_by (λ e. cond (e.0 == s) 1 0) (enumerate_from n xs) ≡ 0
numbers-none [] n s h = refl
numbers-none (x ∷ xs) n s h =
    let other : (n == s) ≡ false = grind (arith, nat_tests) in
    let more : s < n + 1 = omega arith in
    let here : ◌≡◌ {A = ℕ} (cond (n == s) 1 0) 0 = ap (λ b. cond b 1 0) other in
    sum_by-cons (λ e. cond (e.0 == s) 1 0) (n, x) (enumerate_from (n + 1) xs)
    ∙ (let sum : cond (n == s) 1 0 + sum_by (λ e. cond (e.0 == s) 1 0) (enumerate_from (n + 1) xs) ≡ 0 = omega (arith, here, numbers-none xs (n + 1) s more) in sum)

numbers-once : {X : Type 0} (xs : List X) (n s : ℕ) → sum_by (λ e. cond (e.0 == s) 1 0) (enumerate_from n xs) ≤ 1
numbers-once [] n s = omega arith
numbers-once (x ∷ xs) n s =
    let split = sum_by-cons (λ e. cond (e.0 == s) 1 0) (n, x) (enumerate_from (n + 1) xs) in
    let step : (b : Bool) → (n == s) ≡ b → cond b 1 0 + sum_by (λ e. cond (e.0 == s) 1 0) (enumerate_from (n + 1) xs) ≤ 1 =
    λ b. elim b as (λ v. (n == s) ≡ v → cond v 1 0 + sum_by (λ e. cond (e.0 == s) 1 0) (enumerate_from (n + 1) xs) ≤ 1) [
      | true ↦ λ e. let same : n ≡ s = eqb-true n s e in let later : s < n + 1 = omega (arith, same) in let none = numbers-none xs (n + 1) s later in omega (arith, none)
      | false ↦ λ e. let rest = numbers-once xs (n + 1) s in omega (arith, rest)
    ] in
    omega (arith, split, step (n == s) refl)

flag-most : (b c : Bool) → cond b (cond c 1 0) 0 ≤ cond c 1 0
flag-most true true = omega arith
flag-most true false = omega arith
flag-most false c = omega arith

flagged-once : (flags : List Bool) (s : ℕ) → times s (flagged_servers flags) ≤ 1
flagged-once flags s =
    let sum = sum_by-flagged (λ m. cond (m == s) 1 0) flags in
    let less = most-all (λ (e : ℕ × Bool). cond e.1 (cond (e.0 == s) 1 0) 0) (λ e. cond (e.0 == s) 1 0) (enumerate_from 0 flags)
    (λ k d inside. let e = get_or (enumerate_from 0 flags) k d in flag-most e.1 (e.0 == s)) in
    let once = numbers-once flags 0 s in
    omega (arith, sum, less, once)

unflagged-by : (flags : List Bool) (s i : ℕ) (b : Bool) → get_or flags s false ≡ false → slice_get flags i ≡ Some b → (c : Bool) → (i == s) ≡ c → ◌≡◌ {A = ℕ} (cond b (cond c 1 0) 0) 0
unflagged-by flags s i false h read c e = refl
unflagged-by flags s i true h read false e = refl
unflagged-by flags s i true h read true e =
    let same : i ≡ s = eqb-true i s e in
    let flag : get_or flags i false ≡ true = read-flag flags i read in
    let clash : true ≡ false = sym flag ∙ ap (λ k. get_or flags k false) same ∙ h in
    cc
  where
    read-flag : (fs : List Bool) (k : ℕ) → slice_get fs k ≡ Some true → get_or fs k false ≡ true
    read-flag [] k r = cc
    read-flag (f ∷ fs) zero r = cc
    read-flag (f ∷ fs) (suc k) r = read-flag fs k r

unflagged-none : (flags : List Bool) (s : ℕ) → get_or flags s false ≡ false → times s (flagged_servers flags) ≡ 0
unflagged-none flags s h =
    sum_by-flagged (λ m. cond (m == s) 1 0) flags
    ∙ same-all (λ (e : ℕ × Bool). cond e.1 (cond (e.0 == s) 1 0) 0) (λ e. 0) (enumerate_from 0 flags)
    (All-enumerate_to (λ (e : ℕ × Bool). ◌≡◌ {A = ℕ} (cond e.1 (cond (e.0 == s) 1 0) 0) 0) flags (λ i b read. unflagged-by flags s i b h read (i == s) refl))
    ∙ sum_by-zero (λ (e : ℕ × Bool). 0) (λ e. refl) (enumerate_from 0 flags)

sum_by-numbered : {X : Type 0} (f : X → ℕ) (xs : List X) (n : ℕ) → sum_by (λ e. f e.1) (enumerate_from n xs) ≡ sum_by f xs
sum_by-numbered f [] n = refl
sum_by-numbered f (x ∷ xs) n =
    sum_by-cons (λ e. f e.1) (n, x) (enumerate_from (n + 1) xs) ∙ ap (λ k. f x + k) (sum_by-numbered f xs (n + 1)) ∙ sym (sum_by-cons f x xs)

column-at : (cs : List Column) (j : ℕ) (m : Mark) → mark_at cs j ≡ Some m → (c : Column) × (slice_get cs j ≡ Some c) × (c.mark ≡ m)
column-at [] j m h = cc
column-at (c ∷ cs) zero m h = (c, refl, (let same : c.mark ≡ m = cc in same))
column-at (c ∷ cs) (suc j) m h = column-at cs j m h

-- a class that a count column names is there
abbrev pub Known : List Class → Mark → Type 0
Known classes (Count c to) = (k : Class) × (slice_get classes c ≡ Some k)
Known classes (Share r) = Unit {0}
Known classes (BoardExcess r b) = Unit {0}
Known classes (Shortage r e) = Unit {0}
Known classes (RackExcess r k) = Unit {0}

module _ (case : Case) (setting : Setting) (phase : IsPhase case setting) (how : Grouping) where
  abbrev classes : List Class
  classes = phase_classes case setting how

  abbrev columns : List Column
  columns = columns_of case setting how

  abbrev servers : List ℕ
  servers = movable_servers case setting

  -- each server stands in the classes as often as among the movable ones
  stands-are : (s : ℕ) → stands s (enumerate_from 0 classes) ≡ times s servers
  stands-are s =
      sum_by-numbered (λ class. times s class.members) classes 0
      ∙ sum_by-map (λ class. times s class.members) (class_of how setting.racks case servers) (first_of_each (same_class how setting.racks case) servers)
      ∙ sum_by-classes (same_class how setting.racks case) (same_class-equivalence how setting.racks case) (λ m. cond (m == s) 1 0) servers

  pub stands-once : (s : ℕ) → stands s (enumerate_from 0 classes) ≤ 1
  stands-once s = let once = flagged-once (movable_flags case setting) s in omega (arith, stands-are s, once)

  known : All (λ c. Known classes c.mark) columns
  known = columns-all case setting (λ c. Known classes c.mark) how (record {
    counts = λ c class to read. (class, read);
    helpers = λ r active. record { share = λ has. tt {0}; board = λ b there weight touched. tt {0}; short = λ e goal short. tt {0}; rack = λ k there weight touched. tt {0} };
  })

  module _ (class : ℕ) (to : Option ℕ) where
    only : IsCountFactor (at_count class to)
    only = record { share = λ _. refl; board = λ _ _. refl; shortage = λ _ _. refl; rack = λ _ _. refl }

    within-class : (e : ℕ × Class) → sum_by (λ c. at_count class to c.mark * 1) (count_columns case setting e) ≤ cond (e.0 == class) 1 0
    within-class e =
        let tos = destinations case setting e.1 in
        let named = sum_by-map (λ c. at_count class to c.mark * 1) (count_column case e) tos in
        let step : (b : Bool) → (e.0 == class) ≡ b → sum_by (λ t. cond (b && option_eq nat_eq to t) 1 0 * 1) tos ≤ cond b 1 0 =
        λ b. elim b as (λ v. (e.0 == class) ≡ v → sum_by (λ t. cond (v && option_eq nat_eq to t) 1 0 * 1) tos ≤ cond v 1 0) [
          | true ↦ λ h. let ones = sum_by-same (λ t. cond (option_eq nat_eq to t) 1 0 * 1) (λ t. cond (option_eq nat_eq to t) 1 0) (λ t. omega arith) tos in
              let most = stands-most case setting phase e.1 to in omega (arith, ones, most)
          | false ↦ λ h. let none = sum_by-zero (λ (t : Option ℕ). 0 * 1) (λ t. refl) tos in omega (arith, none)
        ] in
        let less = step (e.0 == class) refl in
        omega (arith, named, less)

    once-most : sum_by (λ c. at_count class to c.mark * 1) columns ≤ 1
    once-most =
        let weigh : Column → ℕ = λ c. at_count class to c.mark * 1 in
        let helpers : sum_by weigh (flat_map (helper_columns case setting) setting.active) ≡ 0 =
        sum_by-flat_map weigh (helper_columns case setting) setting.active
        ∙ sum_by-zero (λ q. sum_by weigh (helper_columns case setting q)) (helpers-vanish case setting (at_count class to) (λ _. 1) only) setting.active in
        let split = sum_by-append weigh (flat_map (count_columns case setting) (enumerate_from 0 classes)) (flat_map (helper_columns case setting) setting.active) in
        let by_class = sum_by-flat_map weigh (count_columns case setting) (enumerate_from 0 classes) in
        let less = most-all (λ e. sum_by weigh (count_columns case setting e)) (λ e. cond (e.0 == class) 1 0) (enumerate_from 0 classes)
        (λ k d inside. within-class (get_or (enumerate_from 0 classes) k d)) in
        let once = numbers-once classes 0 class in
        omega (arith, helpers, split, by_class, less, once)

  module _ (program : Program) (is : IsProgramOf case setting how program) (point : List ℕ) (whole : IsWholePoint program point) where
    size : length point ≡ length columns
    size = whole.size ∙ ap length is.columns

    abbrev meets : Line → Type 0
    meets l = MeetsLine 1 (slice_index point) l

    met : All meets (program_lines case setting classes)
    met = subst (λ (ls : List Line). All meets ls) is.rows whole.is_point.meets

    found-is : (h : Mark → ℕ) → sum_at h (slice_index point) 0 columns ≡ found h columns point
    found-is h = sum_at-found h [] point 0 columns refl size

    -- the point gives out each class
    pub class-dealt : (c : ℕ) (class : Class) → slice_get classes c ≡ Some class → length (dealt c columns point) ≡ length class.members
    class-dealt c class read =
        let rows = lines-from case setting how meets met in
        let least = rows.least c class read in
        let most = rows.most c class read in
        let sum_least = line-at columns ClassLeast (λ m. pos (in_class c m)) (pos (length class.members)) (slice_index point) ∙ whole-pos (in_class c) (slice_index point) 0 columns in
        let sum_most = line-at columns ClassMost (λ m. neg_ℤ (pos (in_class c m))) (neg_ℤ (pos (length class.members))) (slice_index point) ∙ whole-neg (in_class c) (slice_index point) 0 columns in
        let total = found-is (in_class c) in
        omega (arith, ints, least, most, sum_least, sum_most, total, length-dealt c columns point)

    members-within : All (λ s. s < length case.places) servers → All (λ class. All (λ s. s < length case.places) class.members) classes
    members-within all =
        All-map_to (λ class. All (λ s. s < length case.places) class.members) (class_of how setting.racks case servers) (first_of_each (same_class how setting.racks case) servers)
        (λ k d inside. All-filter (same_class how setting.racks case (get_or (first_of_each (same_class how setting.racks case) servers) k d)) (λ s. s < length case.places) servers all)

    pub are-dealt : All (λ s. s < length case.places) servers → AreDealt columns point (length case.places) classes
    are-dealt all c class read = record {
      within = all-at (λ k. All (λ s. s < length case.places) k.members) classes (members-within all) c class read;
      whole = class-dealt c class read;
    }

    module _ (all : All (λ s. s < length case.places) servers) (start : List (Option ℕ)) (long : length start ≡ length case.places) (a : Assignment)
        (final : a.of ≡ fold (deal columns point) start (enumerate_from 0 classes)) where
      placed-right : All (λ e. placed columns point a.of e ≡ dealt e.0 columns point) (enumerate_from 0 classes)
      placed-right =
          subst (λ (of : List (Option ℕ)). All (λ e. placed columns point of e ≡ dealt e.0 columns point) (enumerate_from 0 classes)) (sym final)
          (deals-found columns point start (enumerate_from 0 classes) stands-once
          (All-enumerate_to (Deals columns point (length start)) classes (λ c class read. record {
            within = subst (λ (n : ℕ). All (λ m. m < n) class.members) (sym long) (are-dealt all c class read).within;
            whole = class-dealt c class read;
          })))

      counts-right : (j class : ℕ) (to : Option ℕ) → mark_at columns j ≡ Some (Count class to) → slice_index point j ≡ members_with a to (slice_get classes class)
      counts-right j class to h =
          let at = column-at columns j (Count class to) h in
          let there = subst (λ (m : Mark). Known classes m) at.2 (all-at (λ c. Known classes c.mark) columns known j at.0 at.1) in
          let k = there.0 in
          let one : at_count class to at.0.mark ≡ 1 =
          ap (at_count class to) at.2 ∙ ap (λ b. cond (b && option_eq nat_eq to to) 1 0) (eq-eqb class class refl) ∙ ap (λ b. cond b 1 0) (option-same to) in
          let some = at-least (at_count class to) columns j at.0 at.1 in
          let most = once-most class to in
          let once : sum_by (λ c. at_count class to c.mark * 1) columns ≡ 1 = omega (arith, some, most, one) in
          let right = All-enumerate_from (λ e. placed columns point a.of e ≡ dealt e.0 columns point) classes placed-right class k there.1 in
          sym (ap (members_with a to) there.1
          ∙ sym (sum_by-map (λ o. cond (option_eq nat_eq o to) 1 0) (λ m. get_or a.of m None) k.members)
          ∙ ap (sum_by (λ o. cond (option_eq nat_eq o to) 1 0)) right
          ∙ dealt-count class to columns point
          ∙ found-one (at_count class to) columns point j at.0 size at.1 one once)

      stays-right : (s : ℕ) → get_or (movable_flags case setting) s false ≡ false → get_or a.of s None ≡ get_or start s None
      stays-right s h =
          let none = unflagged-none (movable_flags case setting) s h in
          ap (λ of. get_or of s None) final
          ∙ deals-keep columns point start (enumerate_from 0 classes) s (stands-are s ∙ none)

      size-right : length a.of ≡ length case.places
      size-right = ap length final ∙ length-deals columns point start (enumerate_from 0 classes) ∙ long

      pub expands-right : a.of ≡ fold (deal columns point) start (enumerate_from 0 classes) → start ≡ setting.start.of → Expands case setting how point a
      expands-right f begins = record {
        size = size-right;
        stays = λ s within fixed. stays-right s (flag-fixed s within fixed) ∙ ap (λ of. get_or of s None) begins;
        counts = counts-right;
      }
        where
          flag-fixed : (s : ℕ) → s < length case.places → is_movable case setting.active (server_with case setting.start s) ≡ false → get_or (movable_flags case setting) s false ≡ false
          flag-fixed s within fixed =
              let same = length-fits case setting.start phase.fit in
              let second : s < length setting.start.of = omega (arith, same, within) in
              let beside : s < length (servers_with_places case setting.start) = omega (arith, length-zip case.places setting.start.of, same, within) in
              get_or-map (is_movable case setting.active) (servers_with_places case setting.start) s (no_place, None) false beside
              ∙ ap (is_movable case setting.active) (get_or-zip case.places setting.start.of s (no_place, None) within second) ∙ fixed
