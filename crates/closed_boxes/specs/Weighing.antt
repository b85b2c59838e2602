-- Multipliers of the rows that ask the helpers' numbers.
use Rattle.std.specs.Prelude.{ℕ, ◌≡◌, ◌<◌, ◌≤◌, List, length, All, AllPairs, IsTrue, pos, ◌+ℤ◌, ◌≤ℤ◌, slice_index}
use Rattle.ip_model.specs.declared.program.Program.{Program}
use Rattle.ip_model.specs.Limits.{cost_of, helper_at}
use Rattle.bound_certificate.specs.declared.multipliers.Top.{Top}
use Rattle.bound_certificate.specs.declared.multipliers.Multipliers.{Multipliers}
use Rattle.bound_certificate.specs.Bound.{combined_factor, terms_of, RowsInRange}
use Rattle.bound_certificate.specs.Rising.{TopInRange}
use Rattle.closed_boxes.specs.Helpers.{IsHelperOf, IsTight}

-- Multipliers of tight rows before row i, which take off each helper its cost but for what is left. Nothing is left of a helper above 0 that is in a tight row before row i.
pub record Weighs (program : Program) (point : List ℕ) (i : ℕ) (tops : List Top) (left : List ℕ) : Type 0 where
  pub size : length left ≡ length program.columns
  pub small : (j : ℕ) → slice_index left j ≤ 10000
  pub taken : (j : ℕ) → IsTrue (helper_at program.columns j) → combined_factor program.rows tops j +ℤ pos (slice_index left j) ≡ pos (cost_of program.columns j)
  pub covered : (j k : ℕ) → k < i → 0 < slice_index point j → IsHelperOf program.columns (terms_of program.rows k) j → IsTight program point k → slice_index left j ≡ 0
  pub tight : All (λ top. IsTight program point top.row) tops
  pub before : All (λ top. top.row < i) tops
  pub nums : All TopInRange tops
  pub rising : AllPairs (λ s t. s.row < t.row) tops

-- whole multipliers of tight rows, which take off each helper its whole cost where it is above 0, and never more
pub record AreDuals (program : Program) (point : List ℕ) (y : Multipliers) : Type 0 where
  pub den : y.den ≡ 1
  pub rows : RowsInRange program y
  pub tight : All (λ top. IsTight program point top.row) y.tops
  pub spent : (j : ℕ) → IsTrue (helper_at program.columns j) → 0 < slice_index point j → combined_factor program.rows y.tops j ≡ pos (cost_of program.columns j)
  pub left : (j : ℕ) → IsTrue (helper_at program.columns j) → combined_factor program.rows y.tops j ≤ℤ pos (cost_of program.columns j)
