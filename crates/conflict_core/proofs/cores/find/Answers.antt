use Rattle.std.proofs.Common.{ℕ, List, length, subst, sym}
use Rattle.conflict_core.specs.Kept.{AreMembers}
use Rattle.conflict_core.proofs.Fewer.{all-members}
use Rattle.conflict_core.proofs.cores.find.Goals as goal

pub try_set-requires-clause-those : goal.try_set-requires-clause-those
try_set-requires-clause-those g c =
    let count = length c.args.requests.now.list in
    subst (λ (xs : List ℕ). AreMembers count xs) (sym {A = List ℕ} c.in_ok-all.ensures) (all-members count)
