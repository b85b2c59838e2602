use Rattle.std.proofs.Common.{ℕ, ◌++◌, Bool, [], ◌∷◌, None, get_or, take, ap, sym, ◌∙◌}
use Rattle.std.specs.Prelude.{map, filter, nat_lt, ◌&&◌}
use Rattle.std.specs.List.{enumerate_from}
use Rattle.plan_model.specs.declared.cases.Goal.{Goal}
use Rattle.ip_model.specs.declared.parts.Column.{Column}
use Rattle.ip_model.specs.declared.parts.Mark.TheVariants.{Shortage}
use Rattle.program_rows.specs.Programs.{helper_column}
use Rattle.program_rows.proofs.Steps.{appended, numbered-passes, numbered-fails}
use Rattle.program_rows.proofs.columns.push_shortages.Goals as goal
use Rattle.program_rows.proofs.columns.push_shortages.Goals.{then-costs+in_ok-push, else-costs}

pub loop-entry-preserved : goal.loop-entry-preserved
loop-entry-preserved c =
    let near = c.as_slice-near.result.now in
    let entry = c.loop-entry.entry in
    let none : Goal = record { center = None; least = 0; weight = 0 } in
    let counts : ℕ × Goal → Bool = λ e. nat_lt 0 e.1.weight && nat_lt 0 e.1.least in
    let make : ℕ × Goal → Column = λ e. helper_column (Shortage c.args.r e.0) e.1.weight e.1.least in
    elim c.if-costs.branch [
      | then-costs+in_ok-push w ↦ ap (λ v. v.items) w.columns-is
          ∙ appended c.loop-entry.columns.items c.args.columns.now.items (map make (filter counts (enumerate_from 0 (take entry near)))) (make (entry, get_or near entry none) ∷ [])
          (w.in_ok-push.ensures.items ∙ ap (λ k. c.loop-entry.columns.items ++ k ∷ []) w.helper_column.ensures) c.loop-entry.invariant
          (numbered-passes make counts near entry none c.loop-entry-test.true (sym c.costs.ensures ∙ w.if-costs.true))
      | else-costs w ↦ ap (λ v. v.items) w.columns-is ∙ c.loop-entry.invariant
          ∙ ap (λ cs. c.args.columns.now.items ++ cs) (sym (numbered-fails make counts near entry none c.loop-entry-test.true (sym c.costs.ensures ∙ w.if-costs.false)))
    ]
