use Rattle.std.proofs.Common.{◌≡◌, ℕ, ◌<◌, All, List, subst, ◌++◌, [], ◌∷◌, ap, sym, ◌∙◌, length, arith}
use Rattle.std.specs.Prelude.{filter}
use Rattle.std.specs.List.{range_with_len}
use Rattle.program_rows.specs.Settings.{makes_active}
use Rattle.program_rows.proofs.Actives.{active-is, active-there, active-few, range-passes, range-fails}
use Rattle.program_rows.proofs.servers.active_reservations.Goals as goal
use Rattle.program_rows.proofs.servers.active_reservations.Goals.{then-makes_active+in_ok-push, else-makes_active}

pub loop-r-preserved : goal.loop-r-preserved
loop-r-preserved c =
    let p = makes_active c.args.phase.now in
    elim c.if-makes_active.branch [
      | then-makes_active+in_ok-push w ↦ ap (λ v. v.items) w.active-is ∙ w.in_ok-push.ensures.items ∙ ap (λ rs. rs ++ c.loop-r.r ∷ []) c.loop-r.invariant
          ∙ sym (range-passes p c.loop-r.r (sym c.makes_active.ensures ∙ w.if-makes_active.true))
      | else-makes_active w ↦ ap (λ v. v.items) w.active-is ∙ c.loop-r.invariant ∙ sym (range-fails p c.loop-r.r (sym c.makes_active.ensures ∙ w.if-makes_active.false))
    ]

pub returns-clause-active : goal.returns-clause-active
returns-clause-active c =
    c.loop-r.invariant ∙ ap (λ n. filter (makes_active c.args.phase.now) (range_with_len 0 n)) (let all : c.loop-r.r ≡ length c.args.case.now.wants = omega (arith, c.len-r-end.ensures) in all)
    ∙ sym (active-is c.args.case.now c.args.phase.now)

pub returns-clause-there : goal.returns-clause-there
returns-clause-there c =
    let same = c.loop-r.invariant ∙ ap (λ n. filter (makes_active c.args.phase.now) (range_with_len 0 n)) (let all : c.loop-r.r ≡ length c.args.case.now.wants = omega (arith, c.len-r-end.ensures) in all)
    ∙ sym (active-is c.args.case.now c.args.phase.now) in
    subst (λ (rs : List ℕ). All (λ r. r < length c.args.case.now.wants) rs) (sym same) (active-there c.args.case.now c.args.phase.now)

pub returns-clause-few : goal.returns-clause-few
returns-clause-few c =
    let same = c.loop-r.invariant ∙ ap (λ n. filter (makes_active c.args.phase.now) (range_with_len 0 n)) (let all : c.loop-r.r ≡ length c.args.case.now.wants = omega (arith, c.len-r-end.ensures) in all)
    ∙ sym (active-is c.args.case.now c.args.phase.now) in
    omega (arith, ap length same, active-few c.args.case.now c.args.phase.now)
