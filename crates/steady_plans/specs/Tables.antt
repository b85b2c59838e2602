-- Running sums: the units of each reservation in each part of a region, kept in tables.
use Rattle.std.specs.Prelude.{◌≡◌, ◌+◌, ◌*◌, ◌-◌, ◌<◌, ◌==◌, ℕ, List, length, map, slice_index, slice_set}
use Rattle.std.specs.List.{range_with_len}
use Rattle.std.specs.Option.{option_map_or}
use Rattle.plan_model.specs.declared.cases.Place.{Place}
use Rattle.plan_model.specs.declared.cases.Goal.{Goal}
use Rattle.plan_model.specs.declared.cases.Case.{Case}
use Rattle.plan_model.specs.declared.cases.Assignment.{Assignment}
use Rattle.plan_model.specs.Units.{units_where}
use Rattle.steady_plans.specs.declared.sums.Sums.{Sums}

-- the units of reservation r in part n: each part has 64 places, one for each reservation
abbrev pub cell : List ℕ → ℕ → ℕ → ℕ
cell cells n r = slice_index cells (n * 64 + r)

-- the same table with other units there
abbrev pub with_cell : List ℕ → ℕ → ℕ → ℕ → List ℕ
with_cell cells n r units = slice_set cells (n * 64 + r) units

-- the units of reservation r in each of the first parts
abbrev pub column : List ℕ → ℕ → ℕ → List ℕ
column cells r count = map (λ n. cell cells n r) (range_with_len 0 count)

-- a table of so many parts, where `number` tells in which part a server stands, has the units of an assignment
pub record IsTable (case : Case) (a : Assignment) (number : Place → ℕ) (count : ℕ) (cells : List ℕ) : Type 0 where
  pub size : length cells ≡ count * 64
  pub counted : (n r : ℕ) → n < count → r < 64 → cell cells n r ≡ units_where (λ s. number s == n) case a r

-- the whole region is one part
abbrev pub one_part : Place → ℕ
one_part s = 0

-- the tables have the units of that assignment
pub record AreSumsOf (case : Case) (a : Assignment) (sums : Sums) : Type 0 where
  pub places : length a.of ≡ length case.places
  pub all : IsTable case a one_part 1 sums.all.items
  pub boards : IsTable case a (λ s. s.board) case.boards sums.boards.items
  pub racks : IsTable case a (λ s. s.rack) case.racks sums.racks.items
  pub centers : IsTable case a (λ s. s.center) case.centers sums.centers.items

-- the tables have the units of some assignment
abbrev pub AreSums : Case → Sums → Type 0
AreSums case sums = (a : Assignment) × AreSumsOf case a sums

-- a near entry's weight times what its datacenter lacks, by a table
abbrev pub shortage_by : List ℕ → ℕ → Goal → ℕ
shortage_by cells r goal = goal.weight * (goal.least - option_map_or (λ d. cell cells d r) goal.center 0)
