-- What a search has found when it is over.
use Rattle.std.proofs.Common.{◌≡◌, ℕ, ◌+◌, ◌<◌, ◌≤◌, ap, refl, subst, arith, List, length, Option, Some, None}
use Rattle.ip_model.specs.declared.program.Program.{Program}
use Rattle.ip_model.specs.Points.{value_of}
use Rattle.bound_certificate.specs.declared.tree.Node.{Node}
use Rattle.bound_certificate.specs.declared.tree.Least.{Least}
use Rattle.bound_certificate.specs.Trees.{LiesUnder}
use Rattle.bound_certificate.proofs.TreeBound.{bound_of_tree_under}
use Rattle.search_tree.specs.Growth.{IsGrown}
use Rattle.branch_bound.specs.declared.found.Best.{Best}
use Rattle.branch_bound.specs.Finding.{IsTreeWithin, IsNoWorse, IsPlan}
use Rattle.branch_bound.specs.Openings.{HasWithin, IsBestSince}
use Rattle.branch_bound.specs.Searching.{IsNear, IsStopped}

within_is : (o : Option Best) (best : Best) (value : ℕ) → o ≡ Some best → HasWithin o value → best.value ≤ value
within_is o best value is h = rw is at h

no_worse : (program : Program) (first : Option (List ℕ)) (o : Option Best) (best : Best) → o ≡ Some best → IsBestSince program first o → IsNoWorse program first best.value
no_worse program (Some point) o best is since = within_is o best (value_of program point) is (since.no_worse point refl)
no_worse program None o best is since = tt

pub found_plan : (program : Program) (first : Option (List ℕ)) (gap budget lower : ℕ) (nodes end : List Node) (o : Option Best) (best : Best) → end ≡ nodes → 0 < length end → o ≡ Some best → IsGrown program nodes → length nodes ≤ budget
    → IsBestSince program first o → IsStopped program nodes o lower gap budget → IsNear o lower gap → IsTreeWithin program end budget × IsPlan program first gap best.point best.value lower end
found_plan program first gap budget lower nodes end o best same some is grown few since stopped near =
    let known = since.right best is in
    let under = bound_of_tree_under program nodes best.point (omega (arith, ap (λ (ns : List Node). length ns) same)) grown.right known.whole in
    let lies : lower ≤ value_of program best.point = subst (λ (l : Least). LiesUnder l (value_of program best.point)) stopped.bound under in
    let value = known.value_is in
    rw same (
      record { right = grown.right; few = few; counts = grown.counts; reasoned = stopped.reasoned },
      record {
        whole = known.whole;
        value_is = known.value_is;
        bound = stopped.bound;
        under = omega arith;
        near = within_is o best (gap + lower) is near;
        shown = stopped.shown;
        no_worse = no_worse program first o best is since;
      },
    )
