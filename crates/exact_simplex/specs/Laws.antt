-- Laws of the written method.
use Rattle.std.specs.Prelude.{ℕ, ◌≡◌, ◌≤◌, pos, ◌*ℤ◌}
use Rattle.exact_simplex.specs.Tableaus.{Scaled, IsPositive, IsRaised, StandsFor}
use Rattle.exact_simplex.specs.Forms.{Parts, forms_of}
use Rattle.exact_simplex.specs.Start.{start_of, Reaches}

-- of two tableaus that written pivots reach one after the other, the later one's column of values comes after the earlier one's, and is not the same
abbrev pub PivotsRaise : Type 0
PivotsRaise = (p : Parts) (first made : ℕ) (t s : Scaled) → Reaches p.columns first (start_of p) t → Reaches p.columns made t s → 1 ≤ made
    → IsRaised t s × (((i : ℕ) → s.value i *ℤ pos t.scale ≡ t.value i *ℤ pos s.scale) → ⊥)

-- the same of tableaus that written pivots reach from any that stands for the program and is lexicographically positive
abbrev pub PivotsRaiseFrom : Type 0
PivotsRaiseFrom = (p : Parts) (from : Scaled) (first made : ℕ) (t s : Scaled) → StandsFor p.columns (forms_of p) from → IsPositive p.columns from → Reaches p.columns first from t → Reaches p.columns made t s → 1 ≤ made
    → IsRaised t s × (((i : ℕ) → s.value i *ℤ pos t.scale ≡ t.value i *ℤ pos s.scale) → ⊥)
