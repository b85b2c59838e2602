use Rattle.std.proofs.Common.{◌≡◌, ℕ, cond, length, ap, sym, ◌∙◌, arith}
use Rattle.std.specs.Prelude.{not, sum_by, ◌==◌}
use Rattle.std.specs.List.{list_any, range_with_len}
use Rattle.plan_model.specs.Units.{all_reservations}
use Rattle.plan_model.specs.Costs.{terms_cost}
use Rattle.plan_model.proofs.NumberLemmas.{sum_by-range_more}
use Rattle.plan_model.proofs.SumLemmas.{sum_by-filter}
use Rattle.program_rows.specs.Settings.{setting_of, makes_active}
use Rattle.program_rows.proofs.Actives.{is-active}
use Rattle.program_rows.proofs.Lists.{All-range_to}
use Rattle.program_rows.proofs.PhaseSums.{same-all}
use Rattle.program_rows.proofs.base.idle_terms.Goals as goal

pub loop-r-preserved : goal.loop-r-preserved
loop-r-preserved c =
    let case = c.args.case.now in
    let start = (setting_of case c.args.phase.now).start in
    let f : ℕ → ℕ = λ r. cond (not (makes_active c.args.phase.now r)) (terms_cost case start r) 0 in
    let more = sum_by-range_more f c.loop-r.r in (
      omega (arith, more, c.loop-r.invariant.0, c.idle_terms_at-sum.ensures.cost),
      omega (arith, c.loop-r.invariant.1, c.idle_terms_at-sum.ensures.most),
    )

pub returns-clause-cost : goal.returns-clause-cost
returns-clause-cost c =
    let case = c.args.case.now in
    let phase = c.args.phase.now in
    let setting = setting_of case phase in
    let n = length case.wants in
    let f : ℕ → ℕ = λ r. cond (not (makes_active phase r)) (terms_cost case setting.start r) 0 in
    let g : ℕ → ℕ = λ r. cond (not (list_any (λ q. q == r) setting.active)) (terms_cost case setting.start r) 0 in
    let all : c.loop-r.r ≡ n = omega (arith, c.len-r-end.ensures) in
    c.loop-r.invariant.0 ∙ ap (λ k. sum_by f (range_with_len 0 k)) all
    ∙ sym (same-all g f (range_with_len 0 n) (All-range_to (λ r. g r ≡ f r) n (λ r within. ap (λ b. cond (not b) (terms_cost case setting.start r) 0) (is-active case phase r within))))
    ∙ sym (sum_by-filter (λ r. not (list_any (λ q. q == r) setting.active)) (terms_cost case setting.start) (all_reservations case))
