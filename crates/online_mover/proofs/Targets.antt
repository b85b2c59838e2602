-- Other targets, and the state at the start.
use Rattle.std.proofs.Common.{◌≡◌, ℕ, suc, zero, ◌+◌, ◌<◌, ◌≤◌, Bool, true, false, cond, List, [], ◌∷◌, ◌++◌, length, get_or, set, map, take, drop, arith, ap, sym, ◌∙◌, refl, None}
use Rattle.std.specs.Prelude.{Option, zip, ◌&&◌, nat_lt, count_by}
use Rattle.std.specs.List.{list_all}
use Rattle.std.specs.Option.{option_map_or}
use Rattle.std.proofs.lemmas.List.Sums.{sum_by-cons}
use Rattle.plan_model.specs.declared.cases.Holder.{Holder}
use Rattle.plan_model.specs.declared.cases.Holder.TheVariants.{Held, Gone, Free as Nobody}
use Rattle.plan_model.specs.declared.cases.Place.{Place}
use Rattle.plan_model.specs.declared.cases.Case.{Case}
use Rattle.plan_model.specs.declared.cases.Assignment.{Assignment}
use Rattle.plan_model.specs.CaseRule.{place_in_range, holder_in_range as place_holder_in_range}
use Rattle.plan_model.specs.Allowed.{fits}
use Rattle.plan_model.proofs.SumLemmas.{length-fits}
use Rattle.online_mover.specs.declared.stands.Server.{Server}
use Rattle.online_mover.specs.States.{State, state_rule, state_at_start, server_at_start, stand_at_start, with_target, with_targets, counts_for, no_server, moves, stand_moves, server_in_range, stand_in_range}
use Rattle.online_mover.proofs.Covers.{and-left, and-right, both}
use Rattle.online_mover.proofs.Rules.{facts-of, rule-of}

abbrev so_far : List Server → List (Option ℕ) → ℕ → List Server
so_far xs ys i = map with_target (zip (take i xs) ys) ++ drop i xs

more-suc : (xs : List Server) (ys : List (Option ℕ)) (i : ℕ) → i < length xs → i < length ys
    → set (so_far xs ys i) i (with_target (get_or (so_far xs ys i) i no_server, get_or ys i None)) ≡ so_far xs ys (suc i)
more-suc [] ys i h k = absurd (omega (arith, h))
more-suc (x ∷ xs) [] i h k = absurd (omega (arith, k))
more-suc (x ∷ xs) (y ∷ ys) zero h k = refl
more-suc (x ∷ xs) (y ∷ ys) (suc i) h k = ap (λ zs. with_target (x, y) ∷ zs) (more-suc xs ys i (omega (arith, h)) (omega (arith, k)))

pub more : (xs : List Server) (ys : List (Option ℕ)) (zs : List Server) (i : ℕ) → zs ≡ so_far xs ys i → i < length xs → i < length ys
    → set zs i (with_target (get_or zs i no_server, get_or ys i None)) ≡ so_far xs ys (i + 1)
more xs ys zs i e h k =
    let next : suc i ≡ i + 1 = omega arith in
    ap (λ ws. set ws i (with_target (get_or ws i no_server, get_or ys i None))) e ∙ more-suc xs ys i h k ∙ ap (so_far xs ys) next

so_far-length : (xs : List Server) (ys : List (Option ℕ)) (i : ℕ) → i ≤ length ys → length (so_far xs ys i) ≡ length xs
so_far-length [] ys zero h = refl
so_far-length [] ys (suc i) h = refl
so_far-length (x ∷ xs) ys zero h = refl
so_far-length (x ∷ xs) [] (suc i) h = absurd (omega (arith, h))
so_far-length (x ∷ xs) (y ∷ ys) (suc i) h = let rest = so_far-length xs ys i (omega (arith, h)) in cc

pub long : (xs : List Server) (ys : List (Option ℕ)) (zs : List Server) (i : ℕ) → zs ≡ so_far xs ys i → i ≤ length ys → length zs ≡ length xs
long xs ys zs i e h = ap length e ∙ so_far-length xs ys i h

targets-length : (xs : List Server) (ys : List (Option ℕ)) → length ys ≡ length xs → length (map with_target (zip xs ys)) ≡ length xs
targets-length [] ys h = refl
targets-length (x ∷ xs) [] h = cc
targets-length (x ∷ xs) (y ∷ ys) h = let same : length ys ≡ length xs = cc in let rest = targets-length xs ys same in cc

pub targets-counts : (xs : List Server) (ys : List (Option ℕ)) → length ys ≡ length xs → map counts_for (map with_target (zip xs ys)) ≡ map counts_for xs
targets-counts [] ys h = refl
targets-counts (x ∷ xs) [] h = cc
targets-counts (x ∷ xs) (y ∷ ys) h = let same : length ys ≡ length xs = cc in ap (λ zs. counts_for x ∷ zs) (targets-counts xs ys same)

pub targets-flight : (xs : List Server) (ys : List (Option ℕ)) → length ys ≡ length xs → count_by moves (map with_target (zip xs ys)) ≡ count_by moves xs
targets-flight [] ys h = refl
targets-flight (x ∷ xs) [] h = cc
targets-flight (x ∷ xs) (y ∷ ys) h =
    let same : length ys ≡ length xs = cc in
    sum_by-cons (λ server. cond (moves server) 1 0) (with_target (x, y)) (map with_target (zip xs ys))
    ∙ ap (λ k. cond (moves x) 1 0 + k) (targets-flight xs ys same)
    ∙ sym (sum_by-cons (λ server. cond (moves server) 1 0) x xs)

abbrev in_range : ℕ → Option ℕ → Bool
in_range n to = option_map_or (λ r. nat_lt r n) to true

targets-range : (n : ℕ) (xs : List Server) (ys : List (Option ℕ)) → list_all (server_in_range n) xs ≡ true → list_all (in_range n) ys ≡ true
    → list_all (server_in_range n) (map with_target (zip xs ys)) ≡ true
targets-range n [] ys h k = refl
targets-range n (x ∷ xs) [] h k = refl
targets-range n (x ∷ xs) (y ∷ ys) h k =
    let here = and-left (server_in_range n x) (list_all (server_in_range n) xs) h in
    both (stand_in_range n x.stand && in_range n y) (list_all (server_in_range n) (map with_target (zip xs ys)))
    (both (stand_in_range n x.stand) (in_range n y) (and-left (stand_in_range n x.stand) (in_range n x.target) here) (and-left (in_range n y) (list_all (in_range n) ys) k))
    (targets-range n xs ys (and-right (server_in_range n x) (list_all (server_in_range n) xs) h) (and-right (in_range n y) (list_all (in_range n) ys) k))

-- other targets keep the rule
pub targets-rule : (state : State) (target : Assignment) → state_rule state ≡ true → fits state.case target ≡ true → state_rule (with_targets state target) ≡ true
targets-rule state target rule fitting =
    let f = facts-of state rule in
    let same : length target.of ≡ length state.servers = length-fits state.case target fitting ∙ sym f.long in
    rule-of (with_targets state target) (record {
      long = targets-length state.servers target.of same ∙ f.long;
      some = f.some;
      few = f.few;
      room = omega (arith, f.room, targets-flight state.servers target.of same);
      range = targets-range (length state.case.wants) state.servers target.of f.range (and-right _ _ fitting);
    })

-- at the start nothing is in flight, and every server is within its range
start-still : (q : Holder) → stand_moves (stand_at_start q) ≡ false
start-still (Held r) = refl
start-still Gone = refl
start-still Nobody = refl

pub start-flight : (xs : List Place) (ys : List (Option ℕ)) → count_by moves (map server_at_start (zip xs ys)) ≡ 0
start-flight [] ys = refl
start-flight (x ∷ xs) [] = refl
start-flight (x ∷ xs) (y ∷ ys) =
    let still : ◌≡◌ {A = ℕ} (cond (moves (server_at_start (x, y))) 1 0) 0 = ap (λ (b : Bool). let k : ℕ = cond b 1 0 in k) (start-still x.holder) in
    omega (arith, sum_by-cons (λ server. cond (moves server) 1 0) (server_at_start (x, y)) (map server_at_start (zip xs ys)), still, start-flight xs ys)

start-range : (n : ℕ) (q : Holder) → place_holder_in_range n q ≡ true → stand_in_range n (stand_at_start q) ≡ true
start-range n (Held r) h = h
start-range n Gone h = refl
start-range n Nobody h = refl

pub starts-range : (kinds racks boards centers n : ℕ) (xs : List Place) (ys : List (Option ℕ)) → list_all (place_in_range kinds racks boards centers n) xs ≡ true → list_all (in_range n) ys ≡ true
    → list_all (server_in_range n) (map server_at_start (zip xs ys)) ≡ true
starts-range kinds racks boards centers n [] ys h k = refl
starts-range kinds racks boards centers n (x ∷ xs) [] h k = refl
starts-range kinds racks boards centers n (x ∷ xs) (y ∷ ys) h k =
    let here = and-left (place_in_range kinds racks boards centers n x) (list_all (place_in_range kinds racks boards centers n) xs) h in
    both (stand_in_range n (stand_at_start x.holder) && in_range n y) (list_all (server_in_range n) (map server_at_start (zip xs ys)))
    (both (stand_in_range n (stand_at_start x.holder)) (in_range n y) (start-range n x.holder (and-right _ (place_holder_in_range n x.holder) here)) (and-left (in_range n y) (list_all (in_range n) ys) k))
    (starts-range kinds racks boards centers n xs ys (and-right (place_in_range kinds racks boards centers n x) (list_all (place_in_range kinds racks boards centers n) xs) h) (and-right (in_range n y) (list_all (in_range n) ys) k))

pub start-length : (xs : List Place) (ys : List (Option ℕ)) → length ys ≡ length xs → length (map server_at_start (zip xs ys)) ≡ length xs
start-length [] ys h = refl
start-length (x ∷ xs) [] h = cc
start-length (x ∷ xs) (y ∷ ys) h = let same : length ys ≡ length xs = cc in let rest = start-length xs ys same in cc

pub places-range : (case : Case) → list_all (place_in_range case.kinds case.racks case.boards case.centers (length case.wants)) case.places ≡ true
places-range case = and-right _ _ (and-left _ _ (and-left _ _ case.kept))

pub start-rule : (case : Case) (target : Assignment) (at_once : ℕ) → fits case target ≡ true → 1 ≤ at_once → at_once ≤ 64 → state_rule (state_at_start case target at_once) ≡ true
start-rule case target at_once fitting some few =
    rule-of (state_at_start case target at_once) (record {
      long = start-length case.places target.of (length-fits case target fitting);
      some = some;
      few = few;
      room = omega (arith, start-flight case.places target.of);
      range = starts-range case.kinds case.racks case.boards case.centers (length case.wants) case.places target.of (places-range case) (and-right _ _ fitting);
    })
