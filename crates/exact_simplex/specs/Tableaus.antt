-- Tableaus over one denominator, what they stand for, and the pivot of the written method.
-- A number t of the tableau is the whole number that stands here over `scale`. Column 0 is `value`, column k + 1 is `factor` at k.
use Rattle.std.specs.Prelude.{ℕ, ◌≡◌, ◌*◌, ◌<◌, ◌≤◌, suc, ℤ, pos, ◌+ℤ◌, ◌-ℤ◌, ◌*ℤ◌, ◌<ℤ◌, ◌≤ℤ◌, unsigned_abs, if◌then◌else◌, ◌==◌}
use Rattle.ip_model.specs.Sums.{sum_below}

-- an affine function of the columns' steps above their lows
pub record Form : Type 0 where
  pub slope : ℕ → ℤ
  pub constant : ℤ

-- its value, times e, where column j lies step j / e above its low
abbrev pub value_at : ℕ → Form → ℤ → (ℕ → ℤ) → ℤ
value_at n f e step = sum_below n (λ j. f.slope j *ℤ step j) +ℤ f.constant *ℤ e

pub record Scaled : Type 0 where
  pub scale : ℕ
  pub value : ℕ → ℤ
  pub factor : ℕ → ℕ → ℤ
  pub unit : ℕ → ℕ

-- the first cell that is not 0 is above 0
pub record IsFirstAbove (column : ℕ → ℤ) : Type 0 where
  pub first : ℕ
  pub above : pos 0 <ℤ column first
  pub before : (i : ℕ) → i < first → column i ≡ pos 0

-- Row i is the affine function `forms i`, and row j + 1 is the step of column j.
pub record StandsFor (n : ℕ) (forms : ℕ → Form) (t : Scaled) : Type 0 where
  pub scale_above_none : 1 ≤ t.scale
  -- for all points each row is its value and the sum of its factors times the unit rows
  pub by_units : (i : ℕ) (e : ℤ) (step : ℕ → ℤ) → pos t.scale *ℤ value_at n (forms i) e step ≡ t.value i *ℤ e +ℤ sum_below n (λ k. t.factor i k *ℤ value_at n (forms (t.unit k)) e step)
  -- each unit row has 1 at its column and 0 elsewhere
  pub unit_value : (k : ℕ) → k < n → t.value (t.unit k) ≡ pos 0
  pub unit_factor : (k l : ℕ) → k < n → l < n → t.factor (t.unit k) l ≡ (if l == k then pos t.scale else pos 0)
  -- the columns are the rows' values at the point where each unit is 0, and their changes as one unit rises
  pub at_value : (i : ℕ) → value_at n (forms i) (pos t.scale) (λ j. t.value (suc j)) ≡ t.value i
  pub at_factor : (i k : ℕ) → k < n → value_at n (forms i) (pos 0) (λ j. t.factor (suc j) k) ≡ t.factor i k

pub record IsPositive (n : ℕ) (t : Scaled) : Type 0 where
  pub columns : (k : ℕ) → k < n → IsFirstAbove (λ i. t.factor i k)

-- the pivot at row r and column k
abbrev pub pivot_of : Scaled → ℕ → ℕ → Scaled
pivot_of t r k = record {
  scale = t.scale * unsigned_abs (t.factor r k);
  value = λ i. t.value i *ℤ t.factor r k -ℤ t.factor i k *ℤ t.value r;
  factor = λ i l. if l == k then t.factor i k *ℤ pos t.scale else (t.factor i l *ℤ t.factor r k -ℤ t.factor i k *ℤ t.factor r l);
  unit = λ l. if l == k then r else t.unit l;
}

-- Row r is the first from 1 on with a value below 0, and column k the candidate whose quotients by row r come first.
pub record IsPivotPlace (n : ℕ) (t : Scaled) (r k : ℕ) : Type 0 where
  pub row : 1 ≤ r
  pub below : t.value r <ℤ pos 0
  pub first : (i : ℕ) → 1 ≤ i → i < r → pos 0 ≤ℤ t.value i
  pub column : k < n
  pub candidate : pos 0 <ℤ t.factor r k
  pub least : (l : ℕ) → l < n → (l ≡ k → ⊥) → pos 0 <ℤ t.factor r l → IsFirstAbove (λ i. t.factor i l *ℤ t.factor r k -ℤ t.factor i k *ℤ t.factor r l)

-- the column of values of s comes after that of t
abbrev pub IsRaised : Scaled → Scaled → Type 0
IsRaised t s = IsFirstAbove (λ i. s.value i *ℤ pos t.scale -ℤ t.value i *ℤ pos s.scale)
