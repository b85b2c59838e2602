use Rattle.std.proofs.Common.{◌≡◌, ap, ◌∙◌, length, arith, subst, List, ℕ}
use Rattle.std.specs.Prelude.{IfOk}
use Rattle.symmetry_classes.specs.Groups.{flagged_servers}
use Rattle.program_rows.specs.Reach.{numbers_at, reaches_at}
use Rattle.program_rows.proofs.Pushes.{flagged-range}
use Rattle.program_rows.proofs.reach.reached.Goals as goal

pub flagged_numbers-requires : goal.flagged_numbers-requires
flagged_numbers-requires c = omega (arith, ap length c.as_slice.ensures.value, c.in_ok-flags.ensures.few)

pub returns : goal.returns
returns c =
    let same = c.as_slice.ensures.value ∙ c.in_ok-flags.ensures.flags in
    subst (λ (ns : List ℕ). IfOk c.flagged_numbers.result (λ numbers. numbers ≡ ns))
    (ap flagged_servers same ∙ flagged-range (reaches_at c.args.case.now c.args.servers.now c.args.r c.args.level) (numbers_at c.args.level c.args.case.now))
    c.flagged_numbers.ensures
