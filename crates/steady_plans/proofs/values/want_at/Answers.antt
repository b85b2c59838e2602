use Rattle.std.proofs.Common.{◌≡◌, sym, subst, true}
use Rattle.std.specs.List.{list_all}
use Rattle.std.proofs.lemmas.List.{get_or_read}
use Rattle.plan_model.specs.declared.cases.Want.{Want}
use Rattle.plan_model.specs.CaseLimits.{WantLimits}
use Rattle.plan_model.specs.CaseRule.{goal_in_range}
use Rattle.plan_model.specs.Units.{want_of, no_want}
use Rattle.plan_model.proofs.CaseFacts.{want-limits, near-in_range}
use Rattle.steady_plans.proofs.values.want_at.Goals as goal
use Rattle.steady_plans.proofs.values.want_at.Goals.{After-index-as_slice-r}

read : (c : After-index-as_slice-r) → c.index-as_slice-r.result ≡ want_of c.args.case.now c.args.r
read c = get_or_read c.args.case.now.wants c.args.r c.index-as_slice-r.result c.requires (rw c.as_slice.ensures.items at c.index-as_slice-r.is) no_want

pub returns-clause-limits : goal.returns-clause-limits
returns-clause-limits c = subst (λ (w : Want). WantLimits w) (sym (read c)) (want-limits c.args.case.now c.args.r c.requires)

pub returns-clause-near : goal.returns-clause-near
returns-clause-near c = subst (λ (w : Want). list_all (goal_in_range c.args.case.now.centers) w.near ≡ true) (sym (read c)) (near-in_range c.args.case.now c.args.r c.requires)
