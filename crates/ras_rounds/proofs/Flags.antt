-- The numbers of the flags that are set rise, and a number is among them where its flag is set.
use Rattle.std.proofs.Common.{◌≡◌, ℕ, zero, suc, ◌+◌, ◌<◌, ◌≤◌, Bool, true, false, List, [], ◌∷◌, get_or, arith, refl, inl, inr}
use Rattle.std.specs.Prelude.{filter, map}
use Rattle.std.specs.List.{AllByRecursion, enumerate_from}
use Rattle.symmetry_classes.specs.Groups.{flagged_servers}
use Rattle.ras_rounds.specs.Mends.{Has, Rises}
use Rattle.ras_rounds.proofs.Grouped.{all-at}

abbrev numbers : ℕ → List Bool → List ℕ
numbers n flags = map (λ (e : ℕ × Bool). e.0) (filter (λ e. e.1) (enumerate_from n flags))

all-weaken : (P Q : ℕ → Type 0) → ((y : ℕ) → P y → Q y) → (xs : List ℕ) → AllByRecursion P xs → AllByRecursion Q xs
all-weaken P Q f [] a = tt
all-weaken P Q f (x ∷ xs) a = (f x a.0, all-weaken P Q f xs a.1)

rises-from : (n : ℕ) (flags : List Bool) → AllByRecursion (λ y. n ≤ y) (numbers n flags) × Rises (numbers n flags)
rises-from n [] = (tt, tt)
rises-from n (true ∷ flags) =
    let rest = rises-from (n + 1) flags in (
      (omega arith, all-weaken (λ y. n + 1 ≤ y) (λ y. n ≤ y) (λ y h. omega (arith, h)) (numbers (n + 1) flags) rest.0),
      (all-weaken (λ y. n + 1 ≤ y) (λ y. n < y) (λ y h. omega (arith, h)) (numbers (n + 1) flags) rest.0, rest.1),
    )
rises-from n (false ∷ flags) =
    let rest = rises-from (n + 1) flags in
    (all-weaken (λ y. n + 1 ≤ y) (λ y. n ≤ y) (λ y h. omega (arith, h)) (numbers (n + 1) flags) rest.0, rest.1)

pub flagged-rise : (flags : List Bool) → Rises (flagged_servers flags)
flagged-rise flags = (rises-from 0 flags).1

flag-from : (n : ℕ) (flags : List Bool) (k s : ℕ) → n + k ≡ s → get_or flags k false ≡ true → Has s (numbers n flags)
flag-from n [] k s e h = absurd cc
flag-from n (true ∷ flags) zero s e h = inl (omega (arith, e))
flag-from n (true ∷ flags) (suc k) s e h = inr (flag-from (n + 1) flags k s (omega (arith, e)) h)
flag-from n (false ∷ flags) zero s e h = absurd cc
flag-from n (false ∷ flags) (suc k) s e h = flag-from (n + 1) flags k s (omega (arith, e)) h

from-flag : (n : ℕ) (flags : List Bool) (k s : ℕ) → n + k ≡ s → Has s (numbers n flags) → get_or flags k false ≡ true
from-flag n [] k s e h = absurd h
from-flag n (true ∷ flags) zero s e h = refl
from-flag n (true ∷ flags) (suc k) s e (inl i) = absurd (omega (arith, e, i))
from-flag n (true ∷ flags) (suc k) s e (inr h) = from-flag (n + 1) flags k s (omega (arith, e)) h
from-flag n (false ∷ flags) zero s e h =
    let up : n + 1 ≤ s = all-at (λ y. n + 1 ≤ y) s (numbers (n + 1) flags) (rises-from (n + 1) flags).0 h in
    absurd (omega (arith, up, e))
from-flag n (false ∷ flags) (suc k) s e h = from-flag (n + 1) flags k s (omega (arith, e)) h

pub flagged-has : (flags : List Bool) (s : ℕ) → get_or flags s false ≡ true → Has s (flagged_servers flags)
flagged-has flags s h = flag-from 0 flags s s (omega arith) h

pub has-flagged : (flags : List Bool) (s : ℕ) → Has s (flagged_servers flags) → get_or flags s false ≡ true
has-flagged flags s h = from-flag 0 flags s s (omega arith) h
