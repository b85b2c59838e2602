use Rattle.std.proofs.Common.{◌≡◌, subst, List}
use Rattle.std.specs.Prelude.{IfOk}
use Rattle.symmetry_classes.specs.declared.groups.Class.{Class}
use Rattle.plan_checker.proofs.Sized.{grouped-is}
use Rattle.plan_checker.proofs.programs.phase_classes.Goals as goal

pub returns : goal.returns
returns c =
    subst (λ (k : List Class). IfOk c.group.result (λ classes. classes.list ≡ k))
    (grouped-is c.args.case.now c.args.phase.now c.args.how c.counts_racks.result c.in_ok-flags.flags c.counts_racks.ensures c.in_ok-flags.ensures.flags) c.group.ensures
