-- What writes leave of the tables.
use Rattle.std.proofs.Common.{◌≡◌, ℕ, set, ◌+◌, ◌-◌, ◌*◌, ◌<◌, List, length, get_or, arith, ap, sym, ◌∙◌, refl, Some, None, subst}
use Rattle.std.specs.Prelude.{Option}
use Rattle.plan_model.specs.declared.cases.Place.{Place}
use Rattle.plan_model.specs.declared.cases.Case.{Case}
use Rattle.plan_model.specs.declared.cases.Assignment.{Assignment}
use Rattle.plan_model.specs.Units.{value_for, place_of}
use Rattle.steady_plans.specs.declared.sums.Sums.{Sums}
use Rattle.steady_plans.specs.Steady.{replaced}
use Rattle.steady_plans.specs.Tables.{IsTable, AreSumsOf}
use Rattle.std.proofs.lemmas.List.{length-set}
use Rattle.std.proofs.lemmas.Grind.{get_or-set_at}
use Rattle.steady_plans.proofs.Changes.{gets-table, loses-table, replaced-same, replaced-twice}
use Rattle.steady_plans.proofs.Bounds.{reservation-small}

module _ (case : Case) (a : Assignment) (number : Place → ℕ) (count : ℕ) (old new : List ℕ) (s r part amount : ℕ) (table : IsTable case a number count old)
    (size : length a.of ≡ length case.places) (within : s < length case.places) (reservation : r < length case.wants) (there : number (place_of case s) < count)
    (stands : part ≡ number (place_of case s)) (gives : amount ≡ value_for case r (place_of case s).kind) where
  pub put-table : get_or a.of s None ≡ None → new ≡ set old (part * 64 + r) (get_or old (part * 64 + r) 0 + amount) → IsTable case (replaced a s (Some r)) number count new
  put-table none is =
      subst (λ (cells : List ℕ). IsTable case (replaced a s (Some r)) number count cells)
      (sym (is ∙ ap (λ v. set old (part * 64 + r) (get_or old (part * 64 + r) 0 + v)) gives ∙ ap (λ n. set old (n * 64 + r) (get_or old (n * 64 + r) 0 + value_for case r (place_of case s).kind)) stands))
      (gets-table case a number count old s r table size within there (reservation-small case r reservation) none)

  pub take-table : get_or a.of s None ≡ Some r → new ≡ set old (part * 64 + r) (get_or old (part * 64 + r) 0 - amount) → IsTable case (replaced a s None) number count new
  take-table some is =
      subst (λ (cells : List ℕ). IsTable case (replaced a s None) number count cells)
      (sym (is ∙ ap (λ v. set old (part * 64 + r) (get_or old (part * 64 + r) 0 - v)) gives ∙ ap (λ n. set old (n * 64 + r) (get_or old (n * 64 + r) 0 - value_for case r (place_of case s).kind)) stands))
      (loses-table case a number count old s r table size within there (reservation-small case r reservation) some)

-- no place in place of none leaves all as it is
pub unplaced : (case : Case) (a : Assignment) (s : ℕ) (sums : Sums) → AreSumsOf case a sums → get_or a.of s None ≡ None → AreSumsOf case (replaced a s None) sums
unplaced case a s sums are none = subst (λ (x : Assignment). AreSumsOf case x sums) (sym (replaced-same a s None none)) are

-- ---- a server put in and taken out again

bare-at : (case : Case) (a : Assignment) (s : ℕ) (to : Option ℕ) → length a.of ≡ length case.places → s < length case.places → get_or (replaced a s to).of s None ≡ to
bare-at case a s to size within = get_or-set_at a.of s s to None refl (omega (arith, size, within))

pub bare-none : (case : Case) (a : Assignment) (s : ℕ) → length a.of ≡ length case.places → s < length case.places → get_or (replaced a s None).of s None ≡ None
bare-none case a s size within = bare-at case a s None size within

pub given-some : (case : Case) (a : Assignment) (s r : ℕ) → length a.of ≡ length case.places → s < length case.places → get_or (replaced (replaced a s None) s (Some r)).of s None ≡ Some r
given-some case a s r size within = bare-at case (replaced a s None) s (Some r) (length-set a.of s None ∙ size) within

pub taken-back : (case : Case) (a : Assignment) (s r : ℕ) (sums : Sums) → AreSumsOf case (replaced (replaced (replaced a s None) s (Some r)) s None) sums → AreSumsOf case (replaced a s None) sums
taken-back case a s r sums are =
    subst (λ (x : Assignment). AreSumsOf case x sums) (replaced-twice (replaced a s None) s (Some r) None ∙ replaced-twice a s None None) are

pub put-back : (case : Case) (a : Assignment) (s : ℕ) (to : Option ℕ) (sums : Sums) → AreSumsOf case (replaced (replaced a s None) s to) sums → AreSumsOf case (replaced a s to) sums
put-back case a s to sums are = subst (λ (x : Assignment). AreSumsOf case x sums) (replaced-twice a s None to) are
