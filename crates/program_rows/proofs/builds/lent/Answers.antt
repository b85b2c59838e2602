use Rattle.std.proofs.Common.{◌≤◌, length, List, sym, subst, All}
use Rattle.symmetry_classes.specs.declared.groups.Class.{Class}
use Rattle.program_rows.proofs.Assembly.{classes-few, members-few}
use Rattle.program_rows.proofs.builds.lent.Goals as goal

pub returns-clause-few : goal.returns-clause-few
returns-clause-few c =
    subst (λ (cs : List Class). length cs ≤ 20000) (sym c.as_slice.ensures.items) (classes-few c.args.case.now c.args.phase.now c.args.classes.now.list c.requires.start c.requires.grouped)

pub returns-clause-members : goal.returns-clause-members
returns-clause-members c =
    subst (λ (cs : List Class). All (λ class. length class.members ≤ 20000) cs) (sym c.as_slice.ensures.items) (members-few c.args.case.now c.args.phase.now c.args.classes.now.list c.requires.start c.requires.grouped)
