-- Running sums of the units of one reservation.
use Rattle.std.specs.Prelude.{ℕ, Bool, ◌≡◌, ◌<◌, ◌+◌, ◌-◌, ◌&&◌, nat_le, length, slice_index, slice_set}
use Rattle.std.specs.List.{list_all, range_with_len}
use Rattle.plan_model.specs.declared.cases.Place.{Place}
use Rattle.plan_model.specs.declared.cases.Case.{Case}
use Rattle.plan_model.specs.declared.cases.Assignment.{Assignment}
use Rattle.plan_model.specs.declared.losses.Lost.{Lost}
use Rattle.plan_model.specs.declared.losses.Lost.TheVariants.{Total, Board, Center}
use Rattle.plan_model.specs.Units.{units, units_where, want_of}
use Rattle.plan_model.specs.Losses.{is_lost, losses_named, loss_at}
use Rattle.first_plans.specs.declared.sums.Sums.{Sums}

-- the sums with so many units more at a server
abbrev pub added : Sums → Place → ℕ → Sums
added sums s units = record {
  all = sums.all + units;
  on_board = slice_set sums.on_board s.board (slice_index sums.on_board s.board + units);
  in_center = slice_set sums.in_center s.center (slice_index sums.in_center s.center + units);
}

-- the units that a loss takes, read from the sums
abbrev pub units_lost : Sums → Lost → ℕ
units_lost sums Total = 0
units_lost sums (Board board) = slice_index sums.on_board board
units_lost sums (Center center) = slice_index sums.in_center center

-- the number of what is lost
abbrev pub number_of : Lost → ℕ
number_of Total = 0
number_of (Board board) = board
number_of (Center center) = center

-- the units of r in all, and those that each loss takes
pub record AreSums (case : Case) (a : Assignment) (r : ℕ) (sums : Sums) : Type 0 where
  pub all : sums.all ≡ units case a r
  pub boards : length sums.on_board ≡ 64
  pub centers : length sums.in_center ≡ 64
  pub lost : (lost : Lost) → number_of lost < 64 → units_lost sums lost ≡ units_where (is_lost lost) case a r

-- what is needed is there after the loss
abbrev pub leaves : ℕ → Sums → Lost → Bool
leaves need sums lost = nat_le need (sums.all - units_lost sums lost)

-- whether r keeps its need, read from the sums
abbrev pub keeps_by : Case → ℕ → Sums → Bool
keeps_by case r sums =
    nat_le (want_of case r).need sums.all
    && list_all (λ n. leaves (want_of case r).need sums (loss_at (want_of case r).protection n)) (range_with_len 0 (losses_named case (want_of case r).protection))
