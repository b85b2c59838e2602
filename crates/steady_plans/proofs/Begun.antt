-- An assignment of which the first servers have their places, and the others none.
use Rattle.std.proofs.Common.{◌≡◌, ℕ, zero, suc, set, ◌+◌, ◌<◌, ◌≤◌, ◌*◌, ◌==◌, Bool, true, false, cond, List, [], ◌∷◌, length, get_or, replicate, arith, ap, sym, ◌∙◌, refl, None}
use Rattle.std.specs.Prelude.{Option, sum_by, zip}
use Rattle.std.proofs.lemmas.List.{get_or-replicate, length-replicate}
use Rattle.std.proofs.lemmas.List.Sums.{sum_by-cons}
use Rattle.plan_model.specs.declared.cases.Place.{Place}
use Rattle.plan_model.specs.declared.cases.Case.{Case}
use Rattle.plan_model.specs.declared.cases.Assignment.{Assignment}
use Rattle.plan_model.specs.Units.{share_of, units_where, free_plan}
use Rattle.plan_model.proofs.SumLemmas.{sum_by-filter}
use Rattle.steady_plans.specs.Tables.{IsTable}
use Rattle.steady_plans.specs.Steady.{replaced}

abbrev pub begun_places : List (Option ℕ) → ℕ → List (Option ℕ)
begun_places [] n = []
begun_places (o ∷ os) zero = None ∷ begun_places os zero
begun_places (o ∷ os) (suc n) = o ∷ begun_places os n

abbrev pub begun : Assignment → ℕ → Assignment
begun a n = record { of = begun_places a.of n }

start-of : (os : List (Option ℕ)) → begun_places os zero ≡ replicate (length os) None
start-of [] = refl
start-of (o ∷ os) = ap (λ ps. None ∷ ps) (start-of os)

end-of : (os : List (Option ℕ)) (n : ℕ) → length os ≤ n → begun_places os n ≡ os
end-of [] n all = refl
end-of (o ∷ os) zero all = absurd (omega arith)
end-of (o ∷ os) (suc n) all = ap (λ ps. o ∷ ps) (end-of os n (omega arith))

step-of : (os : List (Option ℕ)) (n : ℕ) → set (begun_places os n) n (get_or os n None) ≡ begun_places os (suc n)
step-of [] n = refl
step-of (o ∷ os) zero = refl
step-of (o ∷ os) (suc n) = ap (λ ps. o ∷ ps) (step-of os n)

next-of : (os : List (Option ℕ)) (n : ℕ) → get_or (begun_places os n) n None ≡ None
next-of [] n = refl
next-of (o ∷ os) zero = refl
next-of (o ∷ os) (suc n) = next-of os n

pub begun-first : (case : Case) (a : Assignment) → length a.of ≡ length case.places → begun a 0 ≡ free_plan case
begun-first case a size = ap (λ (os : List (Option ℕ)). let b : Assignment = record { of = os } in b) (start-of a.of ∙ ap (λ n. replicate {A = Option ℕ} n None) size)

pub begun-last : (a : Assignment) (n : ℕ) → length a.of ≤ n → begun a n ≡ a
begun-last a n all = ap (λ (os : List (Option ℕ)). let b : Assignment = record { of = os } in b) (end-of a.of n all)

pub begun-next : (a : Assignment) (n : ℕ) → replaced (begun a n) n (get_or a.of n None) ≡ begun a (n + 1)
begun-next a n =
    let one : suc n ≡ n + 1 = omega arith in
    ap (λ (os : List (Option ℕ)). let b : Assignment = record { of = os } in b) (step-of a.of n ∙ ap (begun_places a.of) one)

pub begun-none : (a : Assignment) (n : ℕ) → get_or (begun a n).of n None ≡ None
begun-none a n = next-of a.of n

-- ---- no units

nothing : (b : Bool) → ◌≡◌ {A = ℕ} (cond b 0 0) 0
nothing true = refl
nothing false = refl

no-shares : (case : Case) (test : Place → Bool) (r n : ℕ) (ps : List Place) → sum_by (λ (s : Place × Option ℕ). cond (test s.0) (share_of case r s) 0) (zip ps (replicate n None)) ≡ 0
no-shares case test r n [] = refl
no-shares case test r zero (p ∷ ps) = refl
no-shares case test r (suc n) (p ∷ ps) =
    let term : Place × Option ℕ → ℕ = λ s. cond (test s.0) (share_of case r s) 0 in
    let first = sum_by-cons term (p, None) (zip ps (replicate n None)) in
    let here : term (p, None) ≡ 0 = nothing (test p) in
    omega (arith, first, here, no-shares case test r n ps)

pub free-units : (test : Place → Bool) (case : Case) (r : ℕ) → units_where test case (free_plan case) r ≡ 0
free-units test case r =
    sum_by-filter (λ s. test s.0) (share_of case r) (zip case.places (replicate (length case.places) None)) ∙ no-shares case test r (length case.places) case.places

pub zero-table : (case : Case) (number : Place → ℕ) (count : ℕ) (cells : List ℕ) → cells ≡ replicate (count * 64) 0 → IsTable case (free_plan case) number count cells
zero-table case number count cells is = record {
  size = ap length is ∙ length-replicate (count * 64) 0;
  counted = λ n r within small.
      let inside : n * 64 + r < count * 64 = omega (arith, within, small) in
      ap (λ (cs : List ℕ). get_or cs (n * 64 + r) 0) is ∙ get_or-replicate (count * 64) (n * 64 + r) 0 0 inside ∙ sym (free-units (λ s. number s == n) case r);
}
