-- The start tableau of a program in a box, over 1, and the tableaus that written pivots reach.
use Rattle.std.specs.Prelude.{ℕ, zero, suc}
use Rattle.exact_simplex.specs.Tableaus.{Scaled, IsPivotPlace, pivot_of}
use Rattle.exact_simplex.specs.Forms.{Parts, forms_of}

-- unit k + 1 is row k + 1
abbrev pub start_of : Parts → Scaled
start_of p = record {
  scale = 1;
  value = λ i. (forms_of p i).constant;
  factor = λ i k. (forms_of p i).slope k;
  unit = λ k. suc k;
}

-- s is reached from t by so many written pivots
pub data Reaches (n : ℕ) : ℕ → Scaled → Scaled → Type 0 where
  none : (t : Scaled) → Reaches n zero t t
  more : (made : ℕ) (t s : Scaled) (r k : ℕ) → Reaches n made t s → IsPivotPlace n s r k → Reaches n (suc made) t (pivot_of s r k)
