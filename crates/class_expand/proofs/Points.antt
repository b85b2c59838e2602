-- The definitions of points against lists of columns that each have the number of their mark.
use Rattle.std.proofs.Common.{◌≡◌, ℕ, zero, suc, ◌+◌, ◌*◌, ◌<◌, ◌≤◌, List, [], ◌∷◌, length, arith, ap, sym, ◌∙◌, refl, All, replicate}
use Rattle.std.specs.Prelude.{sum_by, map, slice_index, pos, ◌+ℤ◌, ◌*ℤ◌}
use Rattle.std.proofs.lemmas.List.Sums.{sum_by-cons}
use Rattle.std.proofs.lemmas.List.Elements.{All-head, All-tail}
use Rattle.ip_model.specs.declared.parts.Column.{Column}
use Rattle.ip_model.specs.declared.parts.Term.{Term}
use Rattle.ip_model.specs.Sums.{terms_at, total_below}
use Rattle.program_rows.proofs.LineSums.{term_sum}

-- a row's sum is the same by either definition
pub terms_at-is : (ts : List Term) (point : List ℕ) → terms_at ts (slice_index point) ≡ term_sum ts point
terms_at-is [] point = refl
terms_at-is (t ∷ ts) point = ap (λ z. (t.factor *ℤ pos (slice_index point t.column)) +ℤ z) (terms_at-is ts point)

total_below-first : (n : ℕ) (f : ℕ → ℕ) → total_below (suc n) f ≡ f 0 + total_below n (λ j. f (suc j))
total_below-first zero f = let same : 0 + f 0 ≡ f 0 + 0 = omega arith in same
total_below-first (suc n) f =
    let before = total_below-first n f in
    let whole : total_below (suc n) f + f (suc n) ≡ f 0 + (total_below n (λ j. f (suc j)) + f (suc n)) = omega (arith, before) in
    whole

-- the value of columns by number is the sum over the columns
pub total-columns : (f g : Column → ℕ) (cs : List Column) → total_below (length cs) (λ j. slice_index (map f cs) j * slice_index (map g cs) j) ≡ sum_by (λ c. f c * g c) cs
total-columns f g [] = refl
total-columns f g (c ∷ cs) =
    total_below-first (length cs) (λ j. slice_index (map f (c ∷ cs)) j * slice_index (map g (c ∷ cs)) j)
    ∙ ap (λ k. f c * g c + k) (total-columns f g cs)
    ∙ sym (sum_by-cons (λ d. f d * g d) c cs)

pub map-most : (f g : Column → ℕ) (cs : List Column) → All (λ c. f c ≤ g c) cs → (j : ℕ) → j < length cs → slice_index (map f cs) j ≤ slice_index (map g cs) j
map-most f g [] a j within = absurd (omega arith)
map-most f g (c ∷ cs) a zero within = All-head (λ d. f d ≤ g d) c cs a
map-most f g (c ∷ cs) a (suc j) within = map-most f g cs (All-tail (λ d. f d ≤ g d) c cs a) j (omega arith)

pub replicate-none : (n j : ℕ) → slice_index (replicate n 0) j ≡ 0
replicate-none zero j = refl
replicate-none (suc n) zero = refl
replicate-none (suc n) (suc j) = replicate-none n j
