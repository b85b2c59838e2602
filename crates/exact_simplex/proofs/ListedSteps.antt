-- Multipliers that a loop lists.
use Rattle.std.proofs.Common.{◌≡◌, ℕ, ◌+◌, ◌<◌, ◌≤◌, ◌^◌, sym, subst, arith, List, [], ◌∷◌, ◌++◌, length, get_or, length-append, All, AllPairs, ◌⊎◌, inl, inr}
use Rattle.std.proofs.lemmas.List.{get_or_append_left, get_or_push}
use Rattle.bound_certificate.specs.declared.multipliers.Top.{Top}
use Rattle.bound_certificate.specs.Rising.{TopInRange}
use Rattle.exact_simplex.specs.Duals.{IsListed}

either : (k n : ℕ) → k < n + 1 → (k < n) ⊎ (k ≡ n)
either k n h = grind arith

all_pushed : (P : Top → Type 0) (xs : List Top) (x : Top) → All P xs → P x → All P (xs ++ x ∷ [])
all_pushed P xs x before here k d h =
    elim (either k (length xs) (let e = length-append xs (x ∷ []) in omega arith)) [
      | inl p ↦ subst P (sym (get_or_append_left xs (x ∷ []) d k p)) (before k d p)
      | inr p ↦ subst P (sym (get_or_push xs x d k (sym p))) here
    ]

pairs_pushed : (xs : List Top) (x : Top) → AllPairs (λ s t. s.row < t.row) xs → All (λ t. t.row < x.row) xs → AllPairs (λ s t. s.row < t.row) (xs ++ x ∷ [])
pairs_pushed xs x rising below i j d lt h =
    elim (either j (length xs) (let e = length-append xs (x ∷ []) in omega arith)) [
      | inl p ↦
          subst (λ (s : Top). s.row < (get_or (xs ++ x ∷ []) j d).row) (sym (get_or_append_left xs (x ∷ []) d i (omega arith)))
          (subst (λ (s : Top). (get_or xs i d).row < s.row) (sym (get_or_append_left xs (x ∷ []) d j p)) (rising i j d lt p))
      | inr p ↦
          let within : i < length xs = omega arith in
          subst (λ (s : Top). s.row < (get_or (xs ++ x ∷ []) j d).row) (sym (get_or_append_left xs (x ∷ []) d i within))
          (subst (λ (s : Top). (get_or xs i d).row < s.row) (sym (get_or_push xs x d j (sym p))) (below i d within))
    ]

pub wider : (den : ℕ) (tops : List Top) (n : ℕ) → IsListed den tops n → IsListed den tops (n + 1)
wider den tops n h = record { range = h.range; below = λ k d p. (let b = h.below k d p in omega arith) }

pub listed_more : (den : ℕ) (tops : List Top) (top : Top) (n : ℕ) → IsListed den tops n → top.row ≡ n → 1 ≤ top.num → top.num ≤ 2 ^ 60 → IsListed den (tops ++ top ∷ []) (n + 1)
listed_more den tops top n h is some most = record {
  range = record {
    den_above_none = h.range.den_above_none;
    den_most = h.range.den_most;
    nums = all_pushed TopInRange tops top h.range.nums (record { above_none = some; most = most });
    rising = pairs_pushed tops top h.range.rising (λ k d p. (let b = h.below k d p in omega arith));
  };
  below = all_pushed (λ t. t.row < n + 1) tops top (λ k d p. (let b = h.below k d p in omega arith)) (omega arith);
}
