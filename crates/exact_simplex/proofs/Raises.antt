-- Written pivots raise the column of values.
use Rattle.std.proofs.Common.{◌≡◌, ℕ, zero, suc, ◌≤◌, pos, ◌-ℤ◌, ◌*ℤ◌, ◌<ℤ◌, arith}
use Rattle.std.proofs.lemmas.Int.{ints}
use Rattle.exact_simplex.specs.Tableaus.{Scaled, IsPivotPlace, IsRaised, pivot_of}
use Rattle.exact_simplex.specs.Forms.{Parts}
use Rattle.exact_simplex.specs.Start.{start_of, Reaches, none, more}
use Rattle.exact_simplex.specs.Laws.{PivotsRaise, PivotsRaiseFrom}
use Rattle.exact_simplex.proofs.Ring.{chain}
use Rattle.exact_simplex.proofs.Order.{first_above-same, first_above-scale, first_above-add}
use Rattle.exact_simplex.proofs.Choice.{first_above_factor}
use Rattle.exact_simplex.proofs.Keeps.{raises}
use Rattle.exact_simplex.proofs.Begin.{Keeps, reached_keeps, start_stands_for, start_positive}

scale_above : (d : ℕ) → 1 ≤ d → pos 0 <ℤ pos d
scale_above d h = omega (arith, ints)

raised_chain : (t m s : Scaled) → 1 ≤ t.scale → 1 ≤ m.scale → 1 ≤ s.scale → IsRaised t m → IsRaised m s → IsRaised t s
raised_chain t m s some_t some_m some_s h k =
    first_above_factor (λ i. s.value i *ℤ pos t.scale -ℤ t.value i *ℤ pos s.scale) (pos m.scale) (scale_above m.scale some_m)
    (first_above-same _ _ (λ i. chain (s.value i) (pos m.scale) (m.value i) (pos s.scale) (pos t.scale) (t.value i))
    (first_above-add _ _
    (first_above-scale (λ i. s.value i *ℤ pos m.scale -ℤ m.value i *ℤ pos s.scale) (pos t.scale) (scale_above t.scale some_t) k)
    (first_above-scale (λ i. m.value i *ℤ pos t.scale -ℤ t.value i *ℤ pos m.scale) (pos s.scale) (scale_above s.scale some_s) h)))

last_raise : (p : Parts) (made : ℕ) (t s : Scaled) (r k : ℕ) → Keeps p t → Reaches p.columns made t s → IsPivotPlace p.columns s r k → IsRaised t (pivot_of s r k)
last_raise p zero t s r k h (none t') place = raises p.columns t r k h.positive h.stands.scale_above_none place
last_raise p (suc made) t s r k h (more made' t' s' r' k' before place') place =
    let at = reached_keeps p (suc made) t s h (more made t s' r' k' before place') in
    let end = reached_keeps p (suc (suc made)) t (pivot_of s r k) h (more (suc made) t s r k (more made t s' r' k' before place') place) in
    raised_chain t s (pivot_of s r k) h.stands.scale_above_none at.stands.scale_above_none end.stands.scale_above_none
    (last_raise p made t s' r' k' h before place') (raises p.columns s r k at.positive at.stands.scale_above_none place)

reached_raises : (p : Parts) (made : ℕ) (t s : Scaled) → Keeps p t → Reaches p.columns made t s → 1 ≤ made → IsRaised t s
reached_raises p zero t s h (none t') some = absurd (omega arith)
reached_raises p (suc made) t s h (more made' t' s' r k before place) some = last_raise p made t s' r k h before place

not_same : (t s : Scaled) → IsRaised t s → ((i : ℕ) → s.value i *ℤ pos t.scale ≡ t.value i *ℤ pos s.scale) → ⊥
not_same t s h same = let above = h.above in let e = same h.first in omega (arith, ints)

pub pivots_raise_from_lem : PivotsRaiseFrom
pivots_raise_from_lem p from first made t s stands positive before after some =
    let at = reached_keeps p first from t (record { stands = stands; positive = positive }) before in
    let raised = reached_raises p made t s at after some in
    (raised, not_same t s raised)

pub pivots_raise_lem : PivotsRaise
pivots_raise_lem p first made t s before after some = pivots_raise_from_lem p (start_of p) first made t s (start_stands_for p) (start_positive p) before after some
