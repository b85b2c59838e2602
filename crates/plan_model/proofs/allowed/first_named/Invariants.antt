use Rattle.std.proofs.Common.{◌≡◌, ◌-◌}
use Rattle.std.specs.Prelude.{map}
use Rattle.std.specs.List.{range_with_len}
use Rattle.plan_model.specs.Units.{want_of}
use Rattle.plan_model.specs.Allowed.{first_lost}
use Rattle.plan_model.specs.Losses.{loss_at, losses_named, named_losses}
use Rattle.plan_model.proofs.allowed.first_named.Given as goal

abbrev pub invariant-loop-number : goal.invariant-loop-number
invariant-loop-number l =
    first_lost l.case l.a l.r (named_losses l.case l.r)
    ≡ first_lost l.case l.a l.r (map (loss_at (want_of l.case l.r).protection) (range_with_len l.number (losses_named l.case (want_of l.case l.r).protection - l.number)))
