use Rattle.std.proofs.Common.{◌∙◌, List, ap, sym, subst}
use Rattle.std.specs.Prelude.{IsTrue, replicate}
use Rattle.plan_model.specs.declared.cases.Assignment.{Assignment}
use Rattle.plan_model.specs.Allowed.{fits}
use Rattle.plan_model.specs.Units.{free_plan}
use Rattle.online_mover.specs.declared.sums.Sums.{Sums}
use Rattle.online_mover.specs.Sums.{AreSums, empty_sums}
use Rattle.online_mover.proofs.SumsFacts.{nobody-fits, nobody-sums}
use Rattle.online_mover.proofs.counting.Counting.new.Goals as goal

pub invariant_of-result : goal.invariant_of-result
invariant_of-result c =
    let sums = c.in_ok-sums.ensures ∙ ap (λ n. replicate n empty_sums) c.len.ensures in (
      subst (λ (a : Assignment). IsTrue (fits c.args.case a)) (sym c.in_ok-counts.ensures) (nobody-fits c.args.case),
      subst (λ (a : Assignment). AreSums c.args.case a c.in_ok-sums.sums) (sym c.in_ok-counts.ensures)
          (subst (λ (ys : List Sums). AreSums c.args.case (free_plan c.args.case) ys) (sym sums) (nobody-sums c.args.case)),
    )
