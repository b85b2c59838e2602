-- An assignment that differs from another at one server is that other one with another place there.
use Rattle.std.proofs.Common.{◌≡◌, ℕ, set, ◌<◌, ◌≤◌, Bool, true, false, List, length, get_or, arith, ap, sym, ◌∙◌, refl, None, subst}
use Rattle.std.specs.Prelude.{Option, ◌==◌, IsTrue}
use Rattle.std.proofs.lemmas.List.{ext_get_or, get_or-set_other, length-set}
use Rattle.std.proofs.lemmas.Grind.{get_or-set_at}
use Rattle.std.proofs.lemmas.Bool.{eqb-true, eq-eqb}
use Rattle.plan_model.specs.declared.cases.Case.{Case}
use Rattle.plan_model.specs.declared.cases.Assignment.{Assignment}
use Rattle.plan_model.specs.Allowed.{fits}
use Rattle.plan_model.proofs.SumLemmas.{length-fits}
use Rattle.plan_model.proofs.CaseFacts.{and-left}
use Rattle.program_rows.specs.Settings.{Setting}
use Rattle.program_rows.specs.Phases.{phase_allowed, phase_cost}
use Rattle.steady_plans.specs.Steady.{replaced, DifferAtMostAt, SteadyIsLeastNearby}

-- an assignment that a phase allows fits
pub allowed-fits : (case : Case) (setting : Setting) (a : Assignment) → phase_allowed case setting a ≡ true → IsTrue (fits case a)
allowed-fits case setting a allowed = and-left _ _ (and-left _ _ (and-left _ _ allowed))

pub allowed-length : (case : Case) (setting : Setting) (a : Assignment) → phase_allowed case setting a ≡ true → length a.of ≡ length case.places
allowed-length case setting a allowed = length-fits case a (allowed-fits case setting a allowed)

place-same : (os ps : List (Option ℕ)) (s i : ℕ) (b : Bool) → (i == s) ≡ b → s < length os → ((i ≡ s → ⊥) → get_or ps i None ≡ get_or os i None)
    → get_or (set os s (get_or ps s None)) i None ≡ get_or ps i None
place-same os ps s i true e within elsewhere =
    let same = eqb-true i s e in
    get_or-set_at os s i (get_or ps s None) None same within ∙ ap (λ k. get_or ps k None) (sym same)
place-same os ps s i false e within elsewhere =
    let apart : i ≡ s → ⊥ = λ same. let clash : true ≡ false = sym (eq-eqb i s same) ∙ e in cc in
    get_or-set_other os s i (get_or ps s None) None apart ∙ sym (elsewhere apart)

pub differs-replaced : (case : Case) (a b : Assignment) (s : ℕ) → length a.of ≡ length case.places → length b.of ≡ length case.places → DifferAtMostAt case a b s
    → replaced a s (get_or b.of s None) ≡ b
differs-replaced case a b s size same differ =
    let new = set a.of s (get_or b.of s None) in
    let long : length new ≡ length a.of = length-set a.of s (get_or b.of s None) in
    let there = differ.there in
    ap (λ (os : List (Option ℕ)). let c : Assignment = record { of = os } in c)
    (ext_get_or None new b.of (omega (arith, long, size, same))
    (λ i within. place-same a.of b.of s i (i == s) refl (omega (arith, size, there)) (differ.elsewhere i (omega (arith, within, long, size)))))

pub steady-least : SteadyIsLeastNearby
steady-least case setting a b s steady differ allowed =
    let same = differs-replaced case a b s (allowed-length case setting a steady.allowed) (allowed-length case setting b allowed) differ in
    subst (λ (c : Assignment). phase_cost case setting a ≤ phase_cost case setting c) same
    (steady.settled s differ.there (get_or b.of s None) (subst (λ (c : Assignment). phase_allowed case setting c ≡ true) (sym same) allowed))
