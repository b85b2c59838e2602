-- Whether a reservation keeps its need, by what is left after each loss.
use Rattle.std.proofs.Common.{◌≡◌, ℕ, ◌-◌, ◌<◌, ◌≤◌, Bool, true, false, arith, sym, ◌∙◌, refl}
use Rattle.std.specs.Prelude.{nat_le}
use Rattle.std.proofs.lemmas.Bool.Decides.{nat_tests}
use Rattle.plan_model.specs.declared.cases.Case.{Case}
use Rattle.plan_model.specs.declared.cases.Assignment.{Assignment}
use Rattle.plan_model.specs.declared.losses.Lost.{Lost}
use Rattle.plan_model.specs.Units.{units, units_where, want_of}
use Rattle.plan_model.specs.Allowed.{keeps_need, survives}
use Rattle.plan_model.specs.Losses.{is_lost, loss_at, losses_named}
use Rattle.plan_model.proofs.AllowedLaws.{keeps-total, keeps-survives, keeps-from, loss-fails, loss-passes}

pub enough-of : (m n : ℕ) → nat_le m n ≡ true → m ≤ n
enough-of m n h = grind (arith, nat_tests, h)

-- what is left after a loss, as it is computed
left-by : (case : Case) (a : Assignment) (r : ℕ) (lost : Lost) (need all gone : ℕ) (b : Bool) → need ≡ (want_of case r).need → all ≡ units case a r
    → gone ≡ units_where (is_lost lost) case a r → nat_le need (all - gone) ≡ b → b ≡ survives case a r lost
left-by case a r lost need all gone true n u g h = sym (loss-passes case a r lost need all gone n u g (enough-of need (all - gone) h))
left-by case a r lost need all gone false n u g h =
    let few : all - gone < need = grind (arith, nat_tests, h) in
    sym (loss-fails case a r lost need all gone n u g few)

pub left-is : (case : Case) (a : Assignment) (r : ℕ) (lost : Lost) (need all gone : ℕ) → need ≡ (want_of case r).need → all ≡ units case a r
    → gone ≡ units_where (is_lost lost) case a r → nat_le need (all - gone) ≡ survives case a r lost
left-is case a r lost need all gone n u g = left-by case a r lost need all gone (nat_le need (all - gone)) n u g refl

module _ (case : Case) (a : Assignment) (r : ℕ) where
  few-by : (b : Bool) → keeps_need case a r ≡ b → units case a r < (want_of case r).need → false ≡ keeps_need case a r
  few-by true e few = let enough = enough-of (want_of case r).need (units case a r) (keeps-total case a r e) in absurd (omega (arith, enough, few))
  few-by false e few = sym e

  -- a reservation with too few units does not keep its need
  pub too-few : units case a r < (want_of case r).need → false ≡ keeps_need case a r
  too-few few = few-by (keeps_need case a r) refl few

  fails-by : (number : ℕ) (b : Bool) → keeps_need case a r ≡ b → number < losses_named case (want_of case r).protection
      → survives case a r (loss_at (want_of case r).protection number) ≡ false → false ≡ keeps_need case a r
  fails-by number true e within fails = let clash : true ≡ false = sym (keeps-survives case a r number e within) ∙ fails in cc
  fails-by number false e within fails = sym e

  -- nor does one that does not survive a loss that its protection names
  pub one-fails : (number : ℕ) → number < losses_named case (want_of case r).protection
      → survives case a r (loss_at (want_of case r).protection number) ≡ false → false ≡ keeps_need case a r
  one-fails number within fails = fails-by number (keeps_need case a r) refl within fails

  -- and any other keeps its need
  pub each-passes : (want_of case r).need ≤ units case a r
      → ((number : ℕ) → number < losses_named case (want_of case r).protection → survives case a r (loss_at (want_of case r).protection number) ≡ true)
      → true ≡ keeps_need case a r
  each-passes enough each =
      let lost = λ (number : ℕ). is_lost (loss_at (want_of case r).protection number) in
      sym (keeps-from case a r enough
      (λ number within. enough-of (want_of case r).need (units case a r - units_where (lost number) case a r) (each number within)))
