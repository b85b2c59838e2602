-- The lines of the text of a run of the pool.
use Rattle.std.specs.Prelude.{ℕ, List, [], ◌∷◌, ◌++◌, codes, decimal, slice_index_or, Option, Some, None}
use Rattle.spare_pool.specs.declared.standings.Change.{Change}
use Rattle.spare_pool.specs.declared.standings.Change.TheVariants.{Fail, Repair}
use Rattle.spare_pool.specs.declared.standings.Outcome.{Outcome}
use Rattle.spare_pool.specs.declared.standings.Outcome.TheVariants.{Replaced, Short, Idle, Returned, Stale}

-- the name with this number, and no text where there is none
abbrev pub name_at : List (List ℕ) → ℕ → List ℕ
name_at names n = slice_index_or names n []

-- the name of a spare, and no text where there is none
abbrev pub spare_name : List (List ℕ) → Option ℕ → List ℕ
spare_name servers None = []
spare_name servers (Some s) = name_at servers s

-- the server of a change
abbrev pub server_of : Change → ℕ
server_of (Fail s) = s
server_of (Repair s) = s

-- a field, and the byte that ends it
abbrev pub ended : List ℕ → ℕ → List ℕ
ended field end = field ++ end ∷ []

-- three fields between commas, and the byte that ends them
abbrev pub begun : List ℕ → List ℕ → List ℕ → ℕ → List ℕ
begun first second third end = ended first 44 ++ (ended second 44 ++ ended third end)

-- what a change to a server led to, at a time
abbrev pub outcome_line : List (List ℕ) → List (List ℕ) → List ℕ → List ℕ → Outcome → List ℕ
outcome_line servers reservations at server (Replaced r by) =
    begun at (codes "replace") server 44 ++ (ended (name_at reservations r) 44 ++ ended (name_at servers by) 10)
outcome_line servers reservations at server (Short r by missing) =
    begun at (codes "short") server 44 ++ begun (name_at reservations r) (spare_name servers by) (decimal missing) 10
outcome_line servers reservations at server Idle = begun at (codes "idle") server 10
outcome_line servers reservations at server Returned = begun at (codes "return") server 10
outcome_line servers reservations at server Stale = begun at (codes "stale") server 10

-- how many changes there were, and how many left a reservation short
abbrev pub total_line : ℕ → ℕ → List ℕ
total_line records shorts = begun (codes "end") (codes "total") (decimal records) 44 ++ ended (decimal shorts) 10
