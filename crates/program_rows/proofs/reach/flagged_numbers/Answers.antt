use Rattle.std.proofs.Common.{[], ◌∷◌, ◌++◌, take, ap, sym, ◌∙◌, length, arith}
use Rattle.std.proofs.lemmas.List.{length-take}
use Rattle.program_rows.proofs.Pushes.{flagged-more_set, flagged-more_clear, length-flagged}
use Rattle.program_rows.proofs.reach.flagged_numbers.Goals as goal
use Rattle.program_rows.proofs.reach.flagged_numbers.Goals.{then-flag+in_ok-push, else-flag}

pub loop-number-preserved : goal.loop-number-preserved
loop-number-preserved c =
    elim c.if-flag.branch [
      | then-flag+in_ok-push w ↦ ap (λ v. v.items) w.numbers-is ∙ w.in_ok-push.ensures.items ∙ ap (λ ns. ns ++ c.loop-number.number ∷ []) c.loop-number.invariant
          ∙ sym (flagged-more_set c.args.flags.now c.loop-number.number c.loop-number-test.true w.if-flag.true)
      | else-flag w ↦ ap (λ v. v.items) w.numbers-is ∙ c.loop-number.invariant
          ∙ sym (flagged-more_clear c.args.flags.now c.loop-number.number c.loop-number-test.true w.if-flag.false)
    ]

pub from_vec-requires : goal.from_vec-requires
from_vec-requires c =
    let few = length-flagged (take c.loop-number.number c.args.flags.now) in
    let numbers = ap length c.loop-number.invariant in
    omega (arith, few, numbers, length-take c.loop-number.number c.args.flags.now)
