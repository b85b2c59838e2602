-- What an active reservation finds among the movable servers is within limits.
use Rattle.std.proofs.Common.{◌≡◌, ℕ, ◌+◌, ◌<◌, ◌≤◌, Bool, true, false, cond, List, [], ◌∷◌, length, get_or, arith, ap, refl, All}
use Rattle.std.specs.Prelude.{filter, map, sum_by, nat_lt, ◌==◌, ◌&&◌, ◌||◌}
use Rattle.std.specs.List.{list_any, range_with_len}
use Rattle.std.specs.Cmp.{nat_eq_equiv}
use Rattle.std.proofs.lemmas.List.FromFn.{length-range_with_len}
use Rattle.std.proofs.lemmas.Bool.Decides.{nat_tests}
use Rattle.plan_model.specs.declared.cases.Case.{Case}
use Rattle.plan_model.specs.Units.{want_of, value_for, place_of}
use Rattle.plan_model.specs.Losses.{losses_named, loss_at}
use Rattle.plan_model.proofs.CaseFacts.{few-boards, few-centers}
use Rattle.plan_model.proofs.SumLemmas.{sum_by-filter}
use Rattle.symmetry_classes.proofs.Partition.{sum_by-zero}
use Rattle.program_rows.specs.declared.phases.Phase.{Phase}
use Rattle.program_rows.specs.declared.phases.Phase.TheVariants.{Region, Rack as RackPhase}
use Rattle.program_rows.specs.declared.reach.Level.TheVariants.{Board, Rack}
use Rattle.ras_requests.specs.declared.requests.Protection.{Protection}
use Rattle.ras_requests.specs.declared.requests.Protection.TheVariants as protection
use Rattle.program_rows.specs.Settings.{setting_of, start_fits, movable_flags, movable_servers, racks_count}
use Rattle.program_rows.specs.Reach.{reaches_at, reaches_loss, losses_among, reach_of, ReachFits}
use Rattle.program_rows.proofs.Actives.{is-start, length-flags, active-there, in_range-most}
use Rattle.program_rows.proofs.BaseLimit.{constants}
use Rattle.program_rows.proofs.ClassSums.{sum_by-plus}
use Rattle.program_rows.proofs.LinesKept.{servers-few, thousands}
use Rattle.program_rows.proofs.Lists.{All-map_to}
use Rattle.program_rows.proofs.PhaseSums.{most-all}
use Rattle.program_rows.proofs.Pushes.{length-filter}
use Rattle.program_rows.proofs.UnitLimits.{value-most, flagged-within}

pub racks-are : (case : Case) (phase : Phase) → (setting_of case phase).racks ≡ racks_count phase
racks-are case Region = refl
racks-are case (RackPhase from chosen) = refl

-- the movable servers are in the case
pub servers-within : (case : Case) (phase : Phase) → start_fits case phase ≡ true → All (λ s. s < length case.places) (movable_servers case (setting_of case phase))
servers-within case phase fit k d inside =
    let below = flagged-within (movable_flags case (setting_of case phase)) k d inside in
    omega (arith, below, length-flags case phase fit)

or-most : (b c : Bool) → cond (b || c) 1 0 ≤ cond b 1 0 + cond c 1 0
or-most true c = omega arith
or-most false c = omega arith

and-most : (b c d : Bool) → b ≡ d → cond (b && c) 1 0 ≤ cond d 1 0
and-most true true d e = let same : ◌≡◌ {A = ℕ} 1 (cond d 1 0) = ap (λ v. cond v 1 0) e in omega (arith, same)
and-most true false d e = omega arith
and-most false c d e = omega arith

every : (f g : ℕ → ℕ) → ((k : ℕ) → f k ≤ g k) → (xs : List ℕ) → sum_by f xs ≤ sum_by g xs
every f g h xs = most-all f g xs (λ k d inside. h (get_or xs k d))

-- at most one number is reached for each server
reached-most : (g : ℕ → ℕ) (t : ℕ → Bool) (n : ℕ) (xs : List ℕ) → sum_by (λ k. cond (list_any (λ s. (g s == k) && t s) xs) 1 0) (range_with_len 0 n) ≤ length xs
reached-most g t n [] = let none = sum_by-zero (λ (k : ℕ). 0) (λ k. refl) (range_with_len 0 n) in omega (arith, none)
reached-most g t n (x ∷ xs) =
    let numbers = range_with_len 0 n in
    let here : ℕ → ℕ = λ k. cond (k == g x) 1 0 in
    let later : ℕ → ℕ = λ k. cond (list_any (λ s. (g s == k) && t s) xs) 1 0 in
    let split = every (λ k. cond (list_any (λ s. (g s == k) && t s) (x ∷ xs)) 1 0) (λ k. here k + later k)
    (λ k. let first = or-most ((g x == k) && t x) (list_any (λ s. (g s == k) && t s) xs) in let second = and-most (g x == k) (t x) (k == g x) (nat_eq_equiv.symm (g x) k) in omega (arith, first, second)) numbers in
    let sum = sum_by-plus here later numbers in
    let one = in_range-most n (g x) (nat_lt (g x) n) refl in
    let rest = reached-most g t n xs in
    omega (arith, split, sum, one, rest)

length-count : {X : Type 0} (p : X → Bool) (xs : List X) → length (filter p xs) ≡ sum_by (λ x. cond (p x) 1 0) xs
length-count {X = X} p xs =
    let ones = constants 1 (filter p xs) in
    let same = sum_by-filter p (λ (x : X). 1) xs in
    omega (arith, ones, same)

reached-few : (case : Case) (servers : List ℕ) (r : ℕ) → length (filter (reaches_at case servers r Rack) (range_with_len 0 case.racks)) ≤ length servers
reached-few case servers r =
    let count = length-count (reaches_at case servers r Rack) (range_with_len 0 case.racks) in
    let most = reached-most (λ s. (place_of case s).rack) (λ s. nat_lt 0 (value_for case r (place_of case s).kind)) case.racks servers in
    omega (arith, count, most)

named-few : (case : Case) (p : Protection) → losses_named case p ≤ 64
named-few case protection.Total = omega arith
named-few case protection.Board = few-boards case
named-few case protection.Center = few-centers case

-- at most 64 losses touch servers
pub losses-few : (case : Case) (servers : List ℕ) (r : ℕ) (p : Protection) → length (losses_among case servers r p) ≤ 64
losses-few case servers r p =
    let less = length-filter (λ number. reaches_loss case servers r (loss_at p number)) (range_with_len 0 (losses_named case p)) in
    omega (arith, less, length-range_with_len 0 (losses_named case p), named-few case p)

if-few : (b : Bool) (xs : List ℕ) (m : ℕ) → length xs ≤ m → length (cond b xs []) ≤ m
if-few true xs m h = h
if-few false xs m h = omega arith

pub reach-fits : (case : Case) (phase : Phase) → start_fits case phase ≡ true → (r : ℕ) → r < length case.wants → ReachFits case (reach_of case (setting_of case phase) r)
reach-fits case phase fit r there =
    let setting = setting_of case phase in
    let servers = movable_servers case setting in
    let few = servers-few case setting (is-start case phase fit) in
    record {
      there = there;
      value = (let most = most-all (λ s. value_for case r (place_of case s).kind) (λ _. 1000) servers (λ k d inside. value-most case r (place_of case (get_or servers k d)).kind there) in
          let sum = thousands servers in omega (arith, most, sum, few));
      boards = (let less = length-filter (reaches_at case servers r Board) (range_with_len 0 case.boards) in
          let boards : case.boards ≤ 64 = grind (arith, nat_tests, case.kept) in omega (arith, less, boards, length-range_with_len 0 case.boards));
      losses = losses-few case servers r (want_of case r).protection;
      racks = if-few (setting.racks && nat_lt 0 (want_of case r).rack_weight) (filter (reaches_at case servers r Rack) (range_with_len 0 case.racks)) 20000
          (let less = reached-few case servers r in omega (arith, less, few));
    }

-- each active reservation's is
pub reaches-fit : (case : Case) (phase : Phase) → start_fits case phase ≡ true → All (ReachFits case) (map (reach_of case (setting_of case phase)) (setting_of case phase).active)
reaches-fit case phase fit =
    All-map_to (ReachFits case) (reach_of case (setting_of case phase)) (setting_of case phase).active
    (λ k d inside. reach-fits case phase fit (get_or (setting_of case phase).active k d) (active-there case phase k d inside))
