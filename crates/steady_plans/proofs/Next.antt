-- The next place of one server, and when it is settled.
use Rattle.std.proofs.Common.{◌≡◌, ◌⊎◌, inl, inr, ℕ, ◌+◌, ◌<◌, ◌≤◌, Bool, true, false, length, get_or, arith, ap, sym, ◌∙◌, refl, Some, None, subst}
use Rattle.std.specs.Prelude.{Option, nat_lt, ◌||◌}
use Rattle.std.proofs.Common.{below_more}
use Rattle.std.proofs.lemmas.Grind.{get_or-set_at}
use Rattle.std.specs.Option.{option_map_or}
use Rattle.std.proofs.lemmas.Bool.Decides.{nat_tests}
use Rattle.plan_model.specs.declared.cases.Case.{Case}
use Rattle.plan_model.specs.declared.cases.Assignment.{Assignment}
use Rattle.plan_model.specs.Units.{server_with}
use Rattle.plan_model.specs.Allowed.{keeps_need}
use Rattle.plan_model.specs.Rack.{is_movable}
use Rattle.plan_model.proofs.CaseFacts.{list_all-at, and-right}
use Rattle.program_rows.specs.Settings.{Setting}
use Rattle.program_rows.specs.Phases.{IsStart, phase_allowed, phase_cost}
use Rattle.steady_plans.specs.Steady.{replaced, IsSettledAt}
use Rattle.steady_plans.specs.Local.{may_take}
use Rattle.steady_plans.proofs.Changes.{replaced-same}
use Rattle.steady_plans.proofs.Nearby.{allowed-fits, allowed-length}
use Rattle.steady_plans.proofs.Places.{stays, takes, needed, allowed-place}

-- what a server of an assignment that fits gets is there
pub place-there : (case : Case) (setting : Setting) (a : Assignment) (s : ℕ) → phase_allowed case setting a ≡ true → s < length case.places
    → option_map_or (λ r. nat_lt r (length case.wants)) (get_or a.of s None) true ≡ true
place-there case setting a s allowed within =
    let fit = allowed-fits case setting a allowed in
    let size = allowed-length case setting a allowed in
    list_all-at (λ o. option_map_or (λ r. nat_lt r (length case.wants)) o true) a.of s None (omega (arith, size, within)) (and-right _ _ fit)

pub there-of : (case : Case) (o : Option ℕ) (r : ℕ) → option_map_or (λ q. nat_lt q (length case.wants)) o true ≡ true → o ≡ Some r → r < length case.wants
there-of case None r h is = cc
there-of case (Some q) r h is = let same : q ≡ r = cc in let below : q < length case.wants = grind (arith, nat_tests, h) in omega (arith, same, below)

same-cost : (m n : ℕ) → m ≡ n → m ≤ n
same-cost m n h = omega (arith, h)

module _ (case : Case) (setting : Setting) (start : IsStart case setting) (a : Assignment) (allowed : phase_allowed case setting a ≡ true) (s : ℕ) (within : s < length case.places) where
  abbrev own : Option ℕ
  own = get_or a.of s None

  stays-settled : (to : Option ℕ) → to ≡ own → phase_cost case setting a ≤ phase_cost case setting (replaced a s to)
  stays-settled to same = same-cost (phase_cost case setting a) (phase_cost case setting (replaced a s to)) (ap (λ (x : Assignment). phase_cost case setting x) (sym (replaced-same a s to (sym same))))

  -- a server that the phase does not move
  pub fixed-settled : is_movable case setting.active (server_with case setting.start s) ≡ false → IsSettledAt case setting a s
  fixed-settled fixed to good = stays-settled to (stays case setting start a allowed s within to fixed good)

  -- a server that its reservation needs
  pub needed-settled : (o : Option ℕ) → own ≡ o → option_map_or (keeps_need case (replaced a s None)) o true ≡ false → IsSettledAt case setting a s
  needed-settled None is lacks to good = cc
  needed-settled (Some r) is lacks to good =
      let there = there-of case own r (place-there case setting a s allowed within) is in
      stays-settled to (needed case setting start a allowed s within r to is there lacks good ∙ sym is)

  -- a server with no cheaper place that it may take
  pub best-settled : (o : Option ℕ) → own ≡ o → is_movable case setting.active (server_with case setting.start s) ≡ true
      → ((to : Option ℕ) → may_take case setting s to ≡ true → phase_cost case setting (replaced a s o) ≤ phase_cost case setting (replaced a s to)) → IsSettledAt case setting a s
  best-settled o is movable least to good =
      subst (λ (x : Assignment). phase_cost case setting x ≤ phase_cost case setting (replaced a s to)) (replaced-same a s o is)
      (least to (takes case setting start a allowed s within to movable good))

  -- a best place is allowed, and costs less where it is another one
  pub best-allowed : (o next : Option ℕ) → own ≡ o → is_movable case setting.active (server_with case setting.start s) ≡ true → option_map_or (keeps_need case (replaced a s None)) o true ≡ true
      → (next ≡ o) ⊎ ((may_take case setting s next ≡ true) × (phase_cost case setting (replaced a s next) < phase_cost case setting (replaced a s o)))
      → phase_allowed case setting (replaced a s next) ≡ true
  best-allowed o next is movable keeps (inl same) = subst (λ (x : Assignment). phase_allowed case setting x ≡ true) (sym (replaced-same a s next (is ∙ sym same))) allowed
  best-allowed o next is movable keeps (inr other) =
      allowed-place case setting start a allowed s within next movable other.0
      (λ r some. sym (ap (λ z. option_map_or (keeps_need case (replaced a s None)) z true) (sym is ∙ some)) ∙ keeps)

  pub best-less : (o next : Option ℕ) → own ≡ o
      → (next ≡ o) ⊎ ((may_take case setting s next ≡ true) × (phase_cost case setting (replaced a s next) < phase_cost case setting (replaced a s o)))
      → (next ≡ o) ⊎ (phase_cost case setting (replaced a s next) < phase_cost case setting a)
  best-less o next is (inl same) = inl same
  best-less o next is (inr other) = inr (subst (λ (x : Assignment). phase_cost case setting (replaced a s next) < phase_cost case setting x) (replaced-same a s o is) other.1)

  pub next-there : (next : Option ℕ) → phase_allowed case setting (replaced a s next) ≡ true → option_map_or (λ r. nat_lt r (length case.wants)) next true ≡ true
  next-there next good =
      let size = allowed-length case setting a allowed in
      sym (ap (λ o. option_map_or (λ r. nat_lt r (length case.wants)) o true) (get_or-set_at a.of s s next None refl (omega (arith, size, within)))) ∙ place-there case setting (replaced a s next) s good within

-- ---- one pass over the servers

settled-more : (case : Case) (setting : Setting) (a : Assignment) (s : ℕ) → ((t : ℕ) → t < s → IsSettledAt case setting a t) → IsSettledAt case setting a s → (t : ℕ) → t < s + 1 → IsSettledAt case setting a t
settled-more case setting a s before here = below_more (IsSettledAt case setting a) s before here

pub each-step : (case : Case) (setting : Setting) (first before after : Assignment) (s : ℕ) (b n : Bool)
    → (b ≡ true → phase_cost case setting before < phase_cost case setting first)
    → (b ≡ false → (before ≡ first) × ((t : ℕ) → t < s → IsSettledAt case setting first t))
    → (n ≡ true → phase_cost case setting after < phase_cost case setting before)
    → (n ≡ false → (after ≡ before) × IsSettledAt case setting before s)
    → ((b || n) ≡ true → phase_cost case setting after < phase_cost case setting first)
    × ((b || n) ≡ false → (after ≡ first) × ((t : ℕ) → t < s + 1 → IsSettledAt case setting first t))
each-step case setting first before after s true true less same lower stays = (λ _. let one = less refl in let two = lower refl in omega (arith, one, two), λ e. cc)
each-step case setting first before after s true false less same lower stays = (λ _. let one = less refl in let two = ap (λ (x : Assignment). phase_cost case setting x) (stays refl).0 in omega (arith, one, two), λ e. cc)
each-step case setting first before after s false true less same lower stays = (λ _. let one = lower refl in let two = ap (λ (x : Assignment). phase_cost case setting x) (same refl).0 in omega (arith, one, two), λ e. cc)
each-step case setting first before after s false false less same lower stays =
    (λ e. cc, λ _. ((stays refl).0 ∙ (same refl).0, settled-more case setting first s (same refl).1 (subst (λ (x : Assignment). IsSettledAt case setting x s) (same refl).0 (stays refl).1)))

-- the servers that are settled since the last change, one server on
pub first-step : (case : Case) (setting : Setting) (before after : Assignment) (first next s : ℕ) (n : Bool) → (n ≡ true → next ≡ s + 1) → (n ≡ false → next ≡ first)
    → (n ≡ false → (after ≡ before) × IsSettledAt case setting before s)
    → ((t : ℕ) → first ≤ t → t < s → IsSettledAt case setting before t)
    → (t : ℕ) → next ≤ t → t < s + 1 → IsSettledAt case setting after t
first-step case setting before after first next s true moved kept stays known t low high = let past = moved refl in absurd (omega (arith, past, low, high))
first-step case setting before after first next s false moved kept stays known t low high =
    let same = kept refl in
    subst (λ (x : Assignment). IsSettledAt case setting x t) (sym (stays refl).0)
    (below_more (λ k. first ≤ k → IsSettledAt case setting before k) s (λ k within from. known k from within) (λ _. (stays refl).1) t high (omega (arith, same, low)))

pub other-less : (case : Case) (setting : Setting) (a : Assignment) (s : ℕ) (o next : Option ℕ) → (next ≡ o) ⊎ (phase_cost case setting (replaced a s next) < phase_cost case setting a) → (next ≡ o → ⊥)
    → phase_cost case setting (replaced a s next) < phase_cost case setting a
other-less case setting a s o next (inl same) apart = absurd (apart same)
other-less case setting a s o next (inr less) apart = less
