-- The table of the servers that were tried last.
use Rattle.std.specs.Prelude.{◌≡◌, ◌*◌, ◌+◌, ◌≤◌, ℕ, All, Option, None, Some, length, slice_index}
use Rattle.plan_model.specs.declared.cases.Case.{Case}
use Rattle.steady_plans.specs.declared.tried.Tried.{Tried}

-- which of the 65 places of a likeness: one for none, and one for each reservation
abbrev pub column_of : Option ℕ → ℕ
column_of None = 0
column_of (Some r) = r + 1

-- where the table has the server that was tried last, of those that are like a server and get a place
abbrev pub cell_of : Tried → ℕ → Option ℕ → ℕ
cell_of tried s to = slice_index tried.likeness.items s * 65 + column_of to

-- each server has a likeness, for which the table has its places
pub record HasRoom (case : Case) (tried : Tried) : Type 0 where
  pub size : length tried.likeness.items ≡ length case.places
  pub room : All (λ n. n * 65 + 65 ≤ length tried.servers.items) tried.likeness.items
