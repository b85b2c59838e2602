use Rattle.std.proofs.Common.{◌≡◌, Bool, true, false, refl}
use Rattle.std.specs.Prelude.{not}
use mathlib.Core.Bool.{beq}
use Rattle.steady_plans.proofs.Twins.{place-same}
use Rattle.steady_plans.proofs.alike.stand_alike.Goals as goal

same-flags : (x y : Bool) → not (beq x y) ≡ false → x ≡ y
same-flags true true h = refl
same-flags false false h = refl
same-flags true false h = cc
same-flags false true h = cc

pub returns : goal.returns
returns c = λ e.
    place-same c.args.first c.args.second c.if-first-second.false c.if-first-second-2.false c.if-first-second-3.false c.if-first-second-4.false (c.is_same_holder.ensures.0 e)
    (same-flags c.args.first.busy c.args.second.busy c.if-first-second-5.false) (same-flags c.args.first.up c.args.second.up c.if-first-second-6.false)
