-- The losses that a reservation has to survive, and what is lost at each.
use Rattle.std.specs.Prelude.{ℕ, Bool, false, ◌==◌, List, ◌∷◌, map}
use Rattle.std.specs.List.{range_with_len}
use Rattle.ras_requests.specs.declared.requests.Protection.{Protection}
use Rattle.ras_requests.specs.declared.requests.Protection.TheVariants as protection
use Rattle.plan_model.specs.declared.cases.Place.{Place}
use Rattle.plan_model.specs.declared.cases.Case.{Case}
use Rattle.plan_model.specs.declared.losses.Lost.{Lost}
use Rattle.plan_model.specs.declared.losses.Lost.TheVariants.{Total, Board, Center}
use Rattle.plan_model.specs.Units.{want_of}

-- what is lost: nothing, the servers of one switchboard, or those of one datacenter
abbrev pub is_lost : Lost → Place → Bool
is_lost Total s = false
is_lost (Board board) s = s.board == board
is_lost (Center center) s = s.center == center

-- how many losses a protection names: none, each switchboard, or each datacenter
abbrev pub losses_named : Case → Protection → ℕ
losses_named case protection.Total = 0
losses_named case protection.Board = case.boards
losses_named case protection.Center = case.centers

-- and the loss of that number
abbrev pub loss_at : Protection → ℕ → Lost
loss_at protection.Total number = Total
loss_at protection.Board number = Board number
loss_at protection.Center number = Center number

abbrev pub named_losses : Case → ℕ → List Lost
named_losses case r = map (loss_at (want_of case r).protection) (range_with_len 0 (losses_named case (want_of case r).protection))

-- what r has to survive: that nothing is lost, and each loss that its protection names
abbrev pub losses : Case → ℕ → List Lost
losses case r = Total ∷ named_losses case r
