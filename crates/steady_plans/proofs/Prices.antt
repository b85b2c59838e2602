-- Prices of places, and the best of them.
use Rattle.std.proofs.Common.{◌≡◌, ◌⊎◌, inl, inr, ℕ, ◌+◌, ◌-◌, ◌<◌, ◌≤◌, Bool, true, false, length, get_or, arith, ap, sym, ◌∙◌, refl, Some, None, subst}
use Rattle.std.specs.Prelude.{Option, nat_le}
use Rattle.std.proofs.lemmas.Grind.{get_or-set_at}
use Rattle.std.proofs.lemmas.List.{length-set}
use Rattle.std.proofs.lemmas.Bool.Decides.{nat_tests}
use Rattle.plan_model.specs.declared.cases.Case.{Case}
use Rattle.plan_model.specs.declared.cases.Assignment.{Assignment}
use Rattle.plan_model.specs.Units.{place_of}
use Rattle.plan_model.specs.Costs.{move_cost}
use Rattle.plan_model.proofs.CaseFacts.{and-left}
use Rattle.program_rows.specs.Settings.{Setting}
use Rattle.program_rows.specs.Phases.{IsStart, phase_cost}
use Rattle.steady_plans.specs.declared.moves.Choice.{Choice}
use Rattle.steady_plans.specs.Steady.{replaced}
use Rattle.steady_plans.specs.Local.{local_cost, IsPrice, may_take}
use Rattle.steady_plans.proofs.Changes.{replaced-twice}
use Rattle.steady_plans.proofs.Costs.{cost-changes}

pub price-none : (case : Case) (setting : Setting) (a : Assignment) (s price : ℕ) → price ≡ 1125899906842624 + move_cost case.moves (place_of case s, None) → IsPrice case setting a s None price
price-none case setting a s price is = omega (arith, is)

pub price-some : (case : Case) (setting : Setting) → IsStart case setting → (a : Assignment) (s r : ℕ) → length a.of ≡ length case.places → s < length case.places → r < length case.wants
    → (before after price : ℕ)
    → before ≡ local_cost case setting (replaced a s None) r (place_of case s).rack
    → after ≡ local_cost case setting (replaced (replaced a s None) s (Some r)) r (place_of case s).rack
    → before ≤ 1125899906842624
    → price ≡ 1125899906842624 + move_cost case.moves (place_of case s, Some r) + after - before
    → IsPrice case setting a s (Some r) price
price-some case setting start a s r size within there before after price was now most is =
    let bare = replaced a s None in
    let long : length bare.of ≡ length case.places = length-set a.of s None ∙ size in
    let none : get_or bare.of s None ≡ None = get_or-set_at a.of s s None None refl (omega (arith, size, within)) in
    let change = cost-changes case setting bare s r start long within there none in
    let same : phase_cost case setting (replaced bare s (Some r)) ≡ phase_cost case setting (replaced a s (Some r)) = ap (λ (x : Assignment). phase_cost case setting x) (replaced-twice a s None (Some r)) in
    omega (arith, change, same, was, now, most, is)

le-or_lt : (m n : ℕ) → (m ≤ n) ⊎ (n < m)
le-or_lt m n = by (nat_le m n) refl
  where
    by : (b : Bool) → nat_le m n ≡ b → (m ≤ n) ⊎ (n < m)
    by true e = let h : m ≤ n = grind (arith, nat_tests, e) in inl h
    by false e = let h : n < m = grind (arith, nat_tests, e) in inr h

module _ (case : Case) (setting : Setting) (a : Assignment) (s : ℕ) where
  abbrev cost_at : Option ℕ → ℕ
  cost_at to = phase_cost case setting (replaced a s to)

  pub cheaper-le : (first second : Option ℕ) (m n : ℕ) → IsPrice case setting a s first m → IsPrice case setting a s second n → m ≤ n → cost_at first ≤ cost_at second
  cheaper-le first second m n one two less = omega (arith, one, two, less)

  pub cheaper-lt : (first second : Option ℕ) (m n : ℕ) → IsPrice case setting a s first m → IsPrice case setting a s second n → m < n → cost_at first < cost_at second
  cheaper-lt first second m n one two less = omega (arith, one, two, less)

  -- the cheaper of two choices
  pub record IsCheaper (first second result : Choice) : Type 0 where
    pub price : IsPrice case setting a s result.to result.price
    pub least : cost_at result.to ≤ cost_at second.to
    pub which : (result ≡ first) ⊎ ((result ≡ second) × (second.price < first.price))

  cheaper-by : (first second result : Choice) → IsPrice case setting a s first.to first.price → IsPrice case setting a s second.to second.price
      → (first.price ≤ second.price → result ≡ first) → (second.price < first.price → result ≡ second)
      → (first.price ≤ second.price) ⊎ (second.price < first.price) → IsCheaper first second result
  cheaper-by first second result one two kept taken (inl h) =
      let same = kept h in
      record {
        price = subst (λ (c : Choice). IsPrice case setting a s c.to c.price) (sym same) one;
        least = subst (λ (c : Choice). cost_at c.to ≤ cost_at second.to) (sym same) (cheaper-le first.to second.to first.price second.price one two h);
        which = inl same;
      }
  cheaper-by first second result one two kept taken (inr h) =
      let same = taken h in
      let equal : cost_at second.to ≤ cost_at second.to = omega arith in
      record {
        price = subst (λ (c : Choice). IsPrice case setting a s c.to c.price) (sym same) two;
        least = subst (λ (c : Choice). cost_at c.to ≤ cost_at second.to) (sym same) equal;
        which = inr (same, h);
      }

  pub cheaper-of : (first second result : Choice) → IsPrice case setting a s first.to first.price → IsPrice case setting a s second.to second.price
      → (first.price ≤ second.price → result ≡ first) → (second.price < first.price → result ≡ second) → IsCheaper first second result
  cheaper-of first second result one two kept taken = cheaper-by first second result one two kept taken (le-or_lt first.price second.price)

  -- the best choice after so many reservations were tried
  pub record IsBest (from : Option ℕ) (most tried : ℕ) (best : Choice) : Type 0 where
    pub kept : IsPrice case setting a s from most
    pub price : IsPrice case setting a s best.to best.price
    pub which : (best.to ≡ from) ⊎ ((may_take case setting s best.to ≡ true) × (best.price < most))
    pub none : cost_at best.to ≤ cost_at None
    pub some : (r : ℕ) → r < tried → may_take case setting s (Some r) ≡ true → cost_at best.to ≤ cost_at (Some r)
    pub below : best.price ≤ most

  first-which : (from : Option ℕ) (kept freed best : Choice) → kept.to ≡ from → freed.to ≡ None → (best ≡ kept) ⊎ ((best ≡ freed) × (freed.price < kept.price))
      → (best.to ≡ from) ⊎ ((may_take case setting s best.to ≡ true) × (best.price < kept.price))
  first-which from kept freed best is none (inl same) = inl (ap (λ (c : Choice). c.to) same ∙ is)
  first-which from kept freed best is none (inr other) =
      let to : best.to ≡ None = ap (λ (c : Choice). c.to) other.0 ∙ none in
      inr (ap (may_take case setting s) to, subst (λ (c : Choice). c.price < kept.price) (sym other.0) other.1)

  le-of_which : (first best : Choice) (m : ℕ) → (best ≡ first) ⊎ (best.price < first.price) → first.price ≤ m → best.price ≤ m
  le-of_which first best m (inl same) h = subst (λ (c : Choice). c.price ≤ m) (sym same) h
  le-of_which first best m (inr less) h = omega (arith, less, h)

  weaken : (first second best : Choice) → (best ≡ first) ⊎ ((best ≡ second) × (second.price < first.price)) → (best ≡ first) ⊎ (best.price < first.price)
  weaken first second best (inl same) = inl same
  weaken first second best (inr other) = inr (subst (λ (c : Choice). c.price < first.price) (sym other.0) other.1)

  pub best-first : (from : Option ℕ) (kept freed best : Choice) → kept.to ≡ from → freed.to ≡ None → IsPrice case setting a s kept.to kept.price → IsCheaper kept freed best → IsBest from kept.price 0 best
  best-first from kept freed best is none one cheaper =
      let self : kept.price ≤ kept.price = omega arith in
      record {
        kept = subst (λ (o : Option ℕ). IsPrice case setting a s o kept.price) is one;
        price = cheaper.price;
        which = first-which from kept freed best is none cheaper.which;
        none = subst (λ (o : Option ℕ). cost_at best.to ≤ cost_at o) none cheaper.least;
        some = λ r less may. absurd (omega (arith, less));
        below = le-of_which kept best kept.price (weaken kept freed best cheaper.which) self;
      }

  -- what trying a reservation leaves
  pub record IsTried (r : ℕ) (best next : Choice) : Type 0 where
    pub price : IsPrice case setting a s next.to next.price
    pub tried : may_take case setting s (Some r) ≡ true → cost_at next.to ≤ cost_at (Some r)
    pub which : (next ≡ best) ⊎ ((may_take case setting s next.to ≡ true) × (next.price < best.price))

  next-le : (from : Option ℕ) (most tried : ℕ) (best next : Choice) → IsBest from most tried best → IsPrice case setting a s next.to next.price
      → (next ≡ best) ⊎ ((may_take case setting s next.to ≡ true) × (next.price < best.price)) → cost_at next.to ≤ cost_at best.to
  next-le from most tried best next is price (inl same) = let equal : cost_at best.to ≤ cost_at best.to = omega arith in subst (λ (c : Choice). cost_at c.to ≤ cost_at best.to) (sym same) equal
  next-le from most tried best next is price (inr other) = let less : next.price ≤ best.price = (let h = other.1 in omega (arith, h)) in cheaper-le next.to best.to next.price best.price price is.price less

  next-which : (from : Option ℕ) (most : ℕ) (best next : Choice) → (best.to ≡ from) ⊎ ((may_take case setting s best.to ≡ true) × (best.price < most)) → best.price ≤ most
      → (next ≡ best) ⊎ ((may_take case setting s next.to ≡ true) × (next.price < best.price)) → (next.to ≡ from) ⊎ ((may_take case setting s next.to ≡ true) × (next.price < most))
  next-which from most best next was less (inl same) = subst (λ (c : Choice). (c.to ≡ from) ⊎ ((may_take case setting s c.to ≡ true) × (c.price < most))) (sym same) was
  next-which from most best next was less (inr other) = let h = other.1 in let lower : next.price < most = omega (arith, h, less) in inr (other.0, lower)

  next-some : (tried r q : ℕ) → (q < tried) ⊎ (q ≡ tried) → tried ≡ r → (best next : Choice) → cost_at next.to ≤ cost_at best.to
      → ((k : ℕ) → k < tried → may_take case setting s (Some k) ≡ true → cost_at best.to ≤ cost_at (Some k)) → (may_take case setting s (Some r) ≡ true → cost_at next.to ≤ cost_at (Some r))
      → may_take case setting s (Some q) ≡ true → cost_at next.to ≤ cost_at (Some q)
  next-some tried r q (inl less) same best next lower before here may = let h = before q less may in omega (arith, lower, h)
  next-some tried r q (inr is) same best next lower before here may =
      subst (λ (k : ℕ). cost_at next.to ≤ cost_at (Some k)) (sym (is ∙ same)) (here (subst (λ (k : ℕ). may_take case setting s (Some k) ≡ true) (is ∙ same) may))

  lt-or_eq : (q n : ℕ) → q < n + 1 → (q < n) ⊎ (q ≡ n)
  lt-or_eq q n h = pick (le-or_lt n q)
    where
      pick : (n ≤ q) ⊎ (q < n) → (q < n) ⊎ (q ≡ n)
      pick (inl le) = let same : q ≡ n = omega (arith, h, le) in inr same
      pick (inr lt) = inl lt

  weaker : (best next : Choice) → (next ≡ best) ⊎ ((may_take case setting s next.to ≡ true) × (next.price < best.price)) → (next ≡ best) ⊎ (next.price < best.price)
  weaker best next (inl same) = inl same
  weaker best next (inr other) = inr other.1

  pub best-next : (from : Option ℕ) (most r : ℕ) (best next : Choice) → IsBest from most r best → IsTried r best next → IsBest from most (r + 1) next
  best-next from most r best next is tried =
      let lower = next-le from most r best next is tried.price tried.which in
      record {
        kept = is.kept;
        price = tried.price;
        which = next-which from most best next is.which is.below tried.which;
        none = (let h = is.none in omega (arith, lower, h));
        some = λ q less may. next-some r r q (lt-or_eq q r less) refl best next lower is.some tried.tried may;
        below = le-of_which best next most (weaker best next tried.which) is.below;
      }

  pub best-least : IsStart case setting → (from : Option ℕ) (most : ℕ) (best : Choice) → IsBest from most (length case.wants) best
      → (to : Option ℕ) → may_take case setting s to ≡ true → cost_at best.to ≤ cost_at to
  best-least start from most best is None may = is.none
  best-least start from most best is (Some q) may = is.some q (start.there q (and-left _ _ may)) may

  last-by : (from : Option ℕ) (most tried : ℕ) (best : Choice) → IsBest from most tried best → (best.to ≡ from) ⊎ ((may_take case setting s best.to ≡ true) × (best.price < most))
      → (best.to ≡ from) ⊎ ((may_take case setting s best.to ≡ true) × (cost_at best.to < cost_at from))
  last-by from most tried best is (inl same) = inl same
  last-by from most tried best is (inr other) = inr (other.0, cheaper-lt best.to from best.price most is.price is.kept other.1)

  pub best-which : (from : Option ℕ) (most tried : ℕ) (best : Choice) → IsBest from most tried best
      → (best.to ≡ from) ⊎ ((may_take case setting s best.to ≡ true) × (cost_at best.to < cost_at from))
  best-which from most tried best is = last-by from most tried best is is.which

  -- a reservation that was tried and may be taken
  pub try-which : (r : ℕ) (best next result : Choice) → next.to ≡ Some r → may_take case setting s (Some r) ≡ true → (result ≡ best) ⊎ ((result ≡ next) × (next.price < best.price))
      → (result ≡ best) ⊎ ((may_take case setting s result.to ≡ true) × (result.price < best.price))
  try-which r best next result to may (inl same) = inl same
  try-which r best next result to may (inr other) =
      inr (ap (λ (c : Choice). may_take case setting s c.to) other.0 ∙ ap (may_take case setting s) to ∙ may, subst (λ (c : Choice). c.price < best.price) (sym other.0) other.1)
