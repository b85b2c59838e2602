-- What a shelf of real files counts.
use Rattle.std.specs.Prelude.{ℕ}

-- the reads that failed, the reads that were too long, and the bytes taken
pub record Filed : Type 0 where
  pub failed : ℕ
  pub over : ℕ
  pub taken : ℕ
