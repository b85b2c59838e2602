use Rattle.std.proofs.Common.{◌≡◌, true}
use Rattle.std.specs.List.{list_all, range_with_len}
use Rattle.plan_model.specs.Units.{want_of}
use Rattle.plan_model.specs.Losses.{loss_at}
use Rattle.first_plans.specs.Sums.{leaves}
use Rattle.first_plans.proofs.sums.Sums.keep.Given as goal

abbrev pub invariant-loop-number : goal.invariant-loop-number
invariant-loop-number l =
    list_all (λ n. leaves (want_of l.case l.r).need l.self (loss_at (want_of l.case l.r).protection n)) (range_with_len 0 l.number) ≡ true
