use Rattle.std.proofs.Common.{◌≤◌, length, arith, sym, ◌∙◌, refl}
use Rattle.program_rows.specs.Settings.{setting_of}
use Rattle.plan_model.proofs.SumLemmas.{few-places}
use Rattle.steady_plans.proofs.Next.{each-step, first-step}
use Rattle.steady_plans.proofs.moves.settle_each.Goals as goal

pub loop-server-init : goal.loop-server-init
loop-server-init c = (c.requires.sums, c.requires.allowed, λ e. cc, λ _. (refl, λ s h. absurd (omega arith)), c.requires.room, λ t low high. absurd (omega arith))

pub first_after-first-requires : goal.first_after-first-requires
first_after-first-requires c = omega (arith, few-places c.args.case.now, c.len-server-end.ensures, c.loop-server-test.true)

pub loop-server-preserved : goal.loop-server-preserved
loop-server-preserved c =
    let case = c.args.case.now in
    let setting = setting_of case c.args.phase.now in
    let now = c.settle_next-now.result in
    let step = each-step case setting c.args.a.now c.loop-server.a c.settle_next-now.new.a c.loop-server.server c.loop-server.changed now
    c.loop-server.invariant.2 c.loop-server.invariant.3 c.settle_next-now.ensures.less c.settle_next-now.ensures.settled in (
      c.settle_next-now.ensures.sums,
      c.settle_next-now.ensures.allowed,
      λ e. step.0 (sym c.either-changed.ensures ∙ e),
      λ e. step.1 (sym c.either-changed.ensures ∙ e),
      c.settle_next-now.ensures.room,
      first-step case setting c.loop-server.a c.settle_next-now.new.a c.loop-server.first c.first_after-first.result c.loop-server.server now
          c.first_after-first.ensures.moved c.first_after-first.ensures.kept c.settle_next-now.ensures.settled c.loop-server.invariant.5,
    )

pub returns : goal.returns
returns c =
    let case = c.args.case.now in
    let all : length case.places ≤ c.loop-server.server = omega (arith, c.len-server-end.ensures) in
    record {
      sums = c.loop-server.invariant.0;
      room = c.loop-server.invariant.4;
      allowed = c.loop-server.invariant.1;
      less = c.loop-server.invariant.2;
      steady = λ e. (
        (c.loop-server.invariant.3 e).0,
        record { allowed = c.requires.allowed; settled = λ s within. (c.loop-server.invariant.3 e).1 s (omega (arith, within, all)) },
      );
    }
