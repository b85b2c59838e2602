use Rattle.std.proofs.Common.{◌≡◌, ℕ, Bool, ◌<◌, sym, ◌∙◌, length, arith}
use Rattle.std.specs.Prelude.{◌&&◌, nat_lt}
use Rattle.plan_model.specs.Units.{value_for}
use Rattle.program_rows.specs.Settings.{makes_active}
use Rattle.program_rows.proofs.Actives.{some_value-is, any-range_passes, any-range_fails}
use Rattle.program_rows.proofs.servers.some_value.Goals as goal

pub returns-then-is_served : goal.returns-then-is_served
returns-then-is_served c =
    let test : ℕ → Bool = λ r. makes_active c.args.phase.now r && nat_lt 0 (value_for c.args.case.now r c.args.kind) in
    let within : c.loop-r.r < length c.args.case.now.wants = omega (arith, c.len-r-end.ensures) in
    sym (some_value-is c.args.case.now c.args.phase.now c.args.kind ∙ any-range_passes test (length c.args.case.now.wants) c.loop-r.r within (cc))

pub loop-r-preserved : goal.loop-r-preserved
loop-r-preserved c =
    let test : ℕ → Bool = λ r. makes_active c.args.phase.now r && nat_lt 0 (value_for c.args.case.now r c.args.kind) in
    any-range_fails test c.loop-r.r c.loop-r.invariant (cc)

pub returns : goal.returns
returns c =
    let all : c.loop-r.r ≡ length c.args.case.now.wants = omega (arith, c.len-r-end.ensures) in
    sym (some_value-is c.args.case.now c.args.phase.now c.args.kind ∙ cc)
