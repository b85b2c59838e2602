use Rattle.std.proofs.Common.{ℕ, ◌++◌, Bool, [], ◌∷◌, None, get_or, take, ap, sym, ◌∙◌}
use Rattle.std.specs.Prelude.{map, filter, nat_lt, ◌&&◌}
use Rattle.std.specs.List.{enumerate_from}
use Rattle.std.proofs.lemmas.List.{take_all}
use Rattle.plan_model.specs.declared.cases.Goal.{Goal}
use Rattle.ip_model.specs.declared.parts.Line.{Line}
use Rattle.program_rows.specs.Sums.{short_line}
use Rattle.program_rows.proofs.Steps.{appended, numbered-passes, numbered-fails}
use Rattle.program_rows.proofs.lines.push_center_shorts.Goals as goal
use Rattle.program_rows.proofs.lines.push_center_shorts.Goals.{then-costs+in_ok-push_center_short, else-costs}

pub loop-entry-preserved : goal.loop-entry-preserved
loop-entry-preserved c =
    let near = c.as_slice-near.result.now in
    let entry = c.loop-entry.entry in
    let none : Goal = record { center = None; least = 0; weight = 0 } in
    let counts : ℕ × Goal → Bool = λ e. nat_lt 0 e.1.weight && nat_lt 0 e.1.least in
    let make : ℕ × Goal → Line = short_line c.args.case.now c.args.classes.now c.args.columns.now c.args.r in
    elim c.if-costs.branch [
      | then-costs+in_ok-push_center_short w ↦ ap (λ v. v.items) w.rows-is
          ∙ appended c.loop-entry.rows.items c.args.rows.now.items (map make (filter counts (enumerate_from 0 (take entry near)))) (make (entry, get_or near entry none) ∷ [])
          w.in_ok-push_center_short.ensures c.loop-entry.invariant
          (numbered-passes make counts near entry none c.loop-entry-test.true (sym c.costs.ensures ∙ w.if-costs.true))
      | else-costs w ↦ ap (λ v. v.items) w.rows-is ∙ c.loop-entry.invariant
          ∙ ap (λ ls. c.args.rows.now.items ++ ls) (sym (numbered-fails make counts near entry none c.loop-entry-test.true (sym c.costs.ensures ∙ w.if-costs.false)))
    ]

pub returns : goal.returns
returns c =
    let counts : ℕ × Goal → Bool = λ e. nat_lt 0 e.1.weight && nat_lt 0 e.1.least in
    let make : ℕ × Goal → Line = short_line c.args.case.now c.args.classes.now c.args.columns.now c.args.r in
    c.loop-entry.invariant
    ∙ ap (λ gs. c.args.rows.now.items ++ map make (filter counts (enumerate_from 0 gs)))
    (take_all c.loop-entry.entry c.as_slice-near.result.now c.loop-entry-test.false ∙ c.as_slice-near.ensures.items ∙ ap (λ w. w.near) c.want_at.ensures.want)
