-- One server is put in place of another: what is kept beside the servers.
use Rattle.std.proofs.Common.{◌≡◌, ℕ, zero, suc, ◌+◌, ◌<◌, ◌≤◌, Bool, true, false, cond, List, [], ◌∷◌, ◌++◌, length, get_or, set, map, take, drop, arith, ap, sym, ◌∙◌, refl, None}
use Rattle.std.specs.Prelude.{Option, count_by, nat_lt, replicate}
use Rattle.std.specs.List.{list_all}
use Rattle.std.specs.Option.{option_map_or}
use Rattle.std.proofs.lemmas.List.{get_or-set_same, length-set, take_all, drop_all, append-nil, length-replicate}
use Rattle.std.proofs.lemmas.List.Sums.{get_or-le-sum_by}
use Rattle.plan_model.proofs.CaseFacts.{list_all-at}
use Rattle.plan_model.proofs.SumLemmas.{few-places}
use Rattle.online_mover.specs.declared.stands.Server.{Server}
use Rattle.online_mover.specs.States.{State, state_rule, server_of, with_server, no_server, moves, counts_for, server_in_range}
use Rattle.online_mover.proofs.Rules.{facts-of, at-range}
use Rattle.online_mover.proofs.CountingFacts.{count-range}
use Rattle.online_mover.proofs.Flight.{flight-set}

-- a state has few servers, one for each of its case
pub few-servers : (state : State) → state_rule state ≡ true → length state.servers ≤ 20000
few-servers state rule = omega (arith, (facts-of state rule).long, few-places state.case)

pub put-range : (state : State) (s : ℕ) (new : Server) → s < length state.servers → state_rule (with_server state s new) ≡ true
    → option_map_or (λ r. nat_lt r (length state.case.wants)) (counts_for new) true ≡ true
put-range state s new within rule =
    let there : s < length (set state.servers s new) = omega (arith, within, length-set state.servers s new) in
    let here : server_in_range (length state.case.wants) (server_of (with_server state s new) s) ≡ true = at-range (with_server state s new) s (facts-of (with_server state s new) rule) there in
    count-range (length state.case.wants) new
    (sym (ap (server_in_range (length state.case.wants)) (get_or-set_same state.servers s new no_server within)) ∙ here)

one-if : (b : Bool) → b ≡ true → 1 ≤ cond b 1 0
one-if true h = omega arith
one-if false h = cc

pub flying-some : (servers : List Server) (s flying : ℕ) (was : Bool) → s < length servers → flying ≡ count_by moves servers → was ≡ moves (get_or servers s no_server)
    → was ≡ true → 1 ≤ flying
flying-some servers s flying was within is e h =
    omega (arith, is, one-if (moves (get_or servers s no_server)) (sym e ∙ h), get_or-le-sum_by (λ server. cond (moves server) 1 0) servers s no_server within)

pub flying-few : (state : State) (flying : ℕ) → state_rule state ≡ true → flying ≡ count_by moves state.servers → flying ≤ 64
flying-few state flying rule is = omega (arith, is, (facts-of state rule).room, (facts-of state rule).few)

pub flying-after : (state : State) (s flying after : ℕ) (new : Server) (was is : Bool) → s < length state.servers → flying ≡ count_by moves state.servers
    → was ≡ moves (server_of state s) → is ≡ moves new → after + cond was 1 0 ≡ flying + cond is 1 0 → after ≡ count_by moves (set state.servers s new)
flying-after state s flying after new was is within so e k sum =
    let old : cond was 1 0 ≡ cond (moves (server_of state s)) 1 0 = ap (λ (b : Bool). let n : ℕ = cond b 1 0 in n) e in
    let now : cond is 1 0 ≡ cond (moves new) 1 0 = ap (λ (b : Bool). let n : ℕ = cond b 1 0 in n) k in
    omega (arith, sum, so, old, now, flight-set state s new within)

-- what the servers up to the next count for
abbrev pub so_far : List Server → ℕ → List (Option ℕ)
so_far servers i = map counts_for (take i servers) ++ drop i (replicate (length servers) None)

more-suc : (servers : List Server) (i : ℕ) → i < length servers → set (so_far servers i) i (counts_for (get_or servers i no_server)) ≡ so_far servers (suc i)
more-suc [] i h = absurd (omega (arith, h))
more-suc (x ∷ servers) zero h = refl
more-suc (x ∷ servers) (suc i) h = ap (λ xs. counts_for x ∷ xs) (more-suc servers i (omega (arith, h)))

pub counts-more : (servers : List Server) (of : List (Option ℕ)) (i : ℕ) (to : Option ℕ) → i < length servers → of ≡ so_far servers i → to ≡ counts_for (get_or servers i no_server)
    → set of i to ≡ so_far servers (i + 1)
counts-more servers of i to within so is =
    let next : suc i ≡ i + 1 = omega arith in
    ap (λ xs. set xs i to) so ∙ ap (set (so_far servers i) i) is ∙ more-suc servers i within ∙ ap (so_far servers) next

pub counts-whole : (servers : List Server) (of : List (Option ℕ)) (i : ℕ) → length servers ≤ i → of ≡ so_far servers i → of ≡ map counts_for servers
counts-whole servers of i past so =
    let n = length-replicate (length servers) (let o : Option ℕ = None in o) in
    let rest : drop i (replicate (length servers) (let o : Option ℕ = None in o)) ≡ [] = drop_all i (replicate (length servers) None) (omega (arith, n, past)) in
    so ∙ ap (λ xs. map counts_for xs ++ drop i (replicate (length servers) None)) (take_all i servers past)
    ∙ ap (λ xs. map counts_for servers ++ xs) rest ∙ append-nil (map counts_for servers)

-- each server counts for what is there
pub server-range : (n : ℕ) (servers : List Server) (i : ℕ) → i < length servers → list_all (server_in_range n) servers ≡ true
    → option_map_or (λ r. nat_lt r n) (counts_for (get_or servers i no_server)) true ≡ true
server-range n servers i within all = count-range n (get_or servers i no_server) (list_all-at (server_in_range n) servers i no_server within all)
