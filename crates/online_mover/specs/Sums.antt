-- The units of each reservation, in total, on each switchboard and in each datacenter.
use Rattle.std.specs.Prelude.{◌≡◌, ℕ, ◌+◌, ◌-◌, ◌<◌, List, [], length, slice_index, slice_index_or, slice_set, replicate, Option}
use Rattle.plan_model.specs.declared.cases.Case.{Case}
use Rattle.plan_model.specs.declared.cases.Assignment.{Assignment}
use Rattle.plan_model.specs.Units.{units, units_on_board, units_in_center}
use Rattle.online_mover.specs.declared.sums.Sums.{Sums}
use Rattle.online_mover.specs.Without.{with_place}

-- the sums of a reservation that is not there
abbrev pub no_sums : Sums
no_sums = record { total = 0; boards = []; centers = [] }

-- the sums of a reservation that no server counts for
abbrev pub empty_sums : Sums
empty_sums = record { total = 0; boards = replicate 64 0; centers = replicate 64 0 }

abbrev pub sums_of : List Sums → ℕ → Sums
sums_of sums r = slice_index_or sums r no_sums

-- so many units less on one switchboard of one datacenter, and so many more
abbrev pub lessened : Sums → ℕ → ℕ → ℕ → Sums
lessened mine board center units = record {
  total = mine.total - units;
  boards = slice_set mine.boards board (slice_index mine.boards board - units);
  centers = slice_set mine.centers center (slice_index mine.centers center - units);
}

abbrev pub raised : Sums → ℕ → ℕ → ℕ → Sums
raised mine board center units = record {
  total = mine.total + units;
  boards = slice_set mine.boards board (slice_index mine.boards board + units);
  centers = slice_set mine.centers center (slice_index mine.centers center + units);
}

-- the sums are those that an assignment gives
pub record AreSums (case : Case) (a : Assignment) (sums : List Sums) : Type 0 where
  pub long : length sums ≡ length case.wants
  pub boards_long : (r : ℕ) → r < length case.wants → length (sums_of sums r).boards ≡ 64
  pub centers_long : (r : ℕ) → r < length case.wants → length (sums_of sums r).centers ≡ 64
  pub total : (r : ℕ) → r < length case.wants → (sums_of sums r).total ≡ units case a r
  pub on_board : (r board : ℕ) → r < length case.wants → slice_index (sums_of sums r).boards board ≡ units_on_board case a r board
  pub in_center : (r center : ℕ) → r < length case.wants → slice_index (sums_of sums r).centers center ≡ units_in_center case a r center

-- a case, and what its servers count for
pub record Counted : Type 0 where
  pub case : Case
  pub counts : Assignment

-- one server counts for another reservation, or for none
abbrev pub with_count : Counted → ℕ → Option ℕ → Counted
with_count counted s to = record { case = counted.case; counts = with_place counted.counts s to }
