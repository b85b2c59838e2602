-- The takes for a reservation end before the servers do.
use Rattle.std.proofs.Common.{◌≡◌, ℕ, zero, suc, ◌+◌, ◌<◌, ◌≤◌, cond, length, get_or, arith, ap, sym, refl, Some, None}
use Rattle.std.specs.Prelude.{Option, IsTrue, sum_by, is_none, option_and_then}
use Rattle.std.proofs.lemmas.List.Sums.{sum_by-set, sum_by-le}
use Rattle.plan_model.specs.declared.cases.Case.{Case}
use Rattle.plan_model.specs.declared.cases.Assignment.{Assignment}
use Rattle.plan_model.specs.Allowed.{fits, keeps_need}
use Rattle.plan_model.proofs.SumLemmas.{length-fits}
use Rattle.first_plans.specs.FirstPlan.{given, next_server, filled, MoreTakesChangeNothing}
use Rattle.first_plans.proofs.Given.{given-fits, next-is_taken, IsTaken}

abbrev one_if_none : Option ℕ → ℕ
one_if_none o = cond (is_none o) 1 0

-- how many servers have none
abbrev free_servers : Assignment → ℕ
free_servers a = sum_by one_if_none a.of

at-most-one : (o : Option ℕ) → one_if_none o ≤ 1
at-most-one None = omega arith
at-most-one (Some r) = omega arith

free-le-length : (case : Case) (a : Assignment) → IsTrue (fits case a) → free_servers a ≤ length case.places
free-le-length case a fitting =
    omega (arith, sum_by-le one_if_none 1 a.of (λ k d inside. at-most-one (get_or a.of k d)), length-fits case a fitting)

-- a server that is taken is one fewer
one-fewer : (case : Case) (a : Assignment) (r s : ℕ) → IsTrue (fits case a) → IsTaken case a r s → free_servers (given a s r) + 1 ≡ free_servers a
one-fewer case a r s fitting taken =
    let there : s < length a.of = omega (arith, taken.there, length-fits case a fitting) in
    let had : one_if_none (get_or a.of s None) ≡ 1 = ap one_if_none taken.free in
    omega (arith, sum_by-set one_if_none a.of s (Some r) None there, had)

-- where no server is free, none is taken
none-left : (case : Case) (a : Assignment) (r : ℕ) → IsTrue (fits case a) → free_servers a ≤ 0 → (f : ℕ → Option Assignment) → (o : Option ℕ) → next_server case a r ≡ o
    → option_and_then f o ≡ None
none-left case a r fitting none f None next = refl
none-left case a r fitting none f (Some s) next = absurd (omega (arith, one-fewer case a r s fitting (next-is_taken case a r s fitting next)))

same-then : (case : Case) (a : Assignment) (r : ℕ) → IsTrue (fits case a) → (f g : ℕ → Option Assignment) → ((s : ℕ) → IsTaken case a r s → f s ≡ g s)
    → (o : Option ℕ) → next_server case a r ≡ o → option_and_then f o ≡ option_and_then g o
same-then case a r fitting f g same None next = refl
same-then case a r fitting f g same (Some s) next = same s (next-is_taken case a r s fitting next)

same-takes : (case : Case) (r n m : ℕ) (a : Assignment) → r < length case.wants → IsTrue (fits case a) → free_servers a ≤ n → free_servers a ≤ m → filled case r n a ≡ filled case r m a
same-takes case r zero zero a within fitting h k = refl
same-takes case r zero (suc m) a within fitting h k =
    sym (ap (λ (o : Option Assignment). cond (keeps_need case a r) (Some a) o) (none-left case a r fitting h (λ s. filled case r m (given a s r)) (next_server case a r) refl))
same-takes case r (suc n) zero a within fitting h k =
    ap (λ (o : Option Assignment). cond (keeps_need case a r) (Some a) o) (none-left case a r fitting k (λ s. filled case r n (given a s r)) (next_server case a r) refl)
same-takes case r (suc n) (suc m) a within fitting h k =
    ap (λ (o : Option Assignment). cond (keeps_need case a r) (Some a) o)
    (same-then case a r fitting (λ s. filled case r n (given a s r)) (λ s. filled case r m (given a s r))
    (λ s taken. same-takes case r n m (given a s r) within (given-fits case a s r fitting within) (omega (arith, one-fewer case a r s fitting taken)) (omega (arith, one-fewer case a r s fitting taken)))
    (next_server case a r) refl)

pub more-takes : MoreTakesChangeNothing
more-takes case a r most fitting within enough =
    same-takes case r most (length case.places) a within fitting (omega (arith, free-le-length case a fitting)) (free-le-length case a fitting)
