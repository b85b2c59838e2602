use Rattle.std.proofs.Common.{◌≡◌, ◌<◌, ap, arith, sym, ◌∙◌, true, false, Some, None}
use Rattle.std.specs.Prelude.{length, if◌then◌else◌}
use Rattle.plan_model.specs.Allowed.{keeps_need}
use Rattle.first_plans.specs.FirstPlan.{next_server}
use Rattle.first_plans.proofs.Given.{next-is_taken}
use Rattle.first_plans.proofs.Fills.{take-step, take-none, take-enough, take-last}
use Rattle.first_plans.proofs.Running.{kept-by_sums}
use Rattle.first_plans.proofs.filling.fill.Goals as goal

pub returns-then-keep-clause-filled : goal.returns-then-keep-clause-filled
returns-then-keep-clause-filled c =
    let keeps = kept-by_sums c.args.case.now c.loop-taken.a c.args.r c.loop-taken.sums c.loop-taken.invariant.sums in
    let is : keeps_need c.args.case.now c.loop-taken.a c.args.r ≡ true = sym keeps ∙ sym c.keep.ensures ∙ c.if-keep.true in
    sym (take-enough c.args.case.now c.loop-taken.a c.args.r _ is) ∙ c.loop-taken.invariant.rest

pub returns-in_default-clause-filled : goal.returns-in_default-clause-filled
returns-in_default-clause-filled c =
    let keeps = kept-by_sums c.args.case.now c.loop-taken.a c.args.r c.loop-taken.sums c.loop-taken.invariant.sums in
    let lacks : keeps_need c.args.case.now c.loop-taken.a c.args.r ≡ false = sym keeps ∙ sym c.keep.ensures ∙ c.if-keep.false in
    let within : c.loop-taken._taken < length c.args.case.now.places = omega arith in
    let next : next_server c.args.case.now c.loop-taken.a c.args.r ≡ None = sym c.next_server.ensures ∙ c.in_default.is in
    sym (take-none c.args.case.now c.loop-taken.a c.args.r c.loop-taken._taken within lacks next) ∙ c.loop-taken.invariant.rest

pub give-requires-clause-there : goal.give-requires-clause-there
give-requires-clause-there c =
    let next : next_server c.args.case.now c.loop-taken.a c.args.r ≡ Some c.in-Some.server = sym c.next_server.ensures ∙ c.in-Some.is in
    (next-is_taken c.args.case.now c.loop-taken.a c.args.r c.in-Some.server c.loop-taken.invariant.fitting next).there

pub give-requires-clause-free : goal.give-requires-clause-free
give-requires-clause-free c =
    let next : next_server c.args.case.now c.loop-taken.a c.args.r ≡ Some c.in-Some.server = sym c.next_server.ensures ∙ c.in-Some.is in
    (next-is_taken c.args.case.now c.loop-taken.a c.args.r c.in-Some.server c.loop-taken.invariant.fitting next).free

pub loop-taken-preserved : goal.loop-taken-preserved
loop-taken-preserved c =
    let keeps = kept-by_sums c.args.case.now c.loop-taken.a c.args.r c.loop-taken.sums c.loop-taken.invariant.sums in
    let lacks : keeps_need c.args.case.now c.loop-taken.a c.args.r ≡ false = sym keeps ∙ sym c.keep.ensures ∙ c.if-keep.false in
    let within : c.loop-taken._taken < length c.args.case.now.places = omega arith in
    let next : next_server c.args.case.now c.loop-taken.a c.args.r ≡ Some c.in-Some.server = sym c.next_server.ensures ∙ c.in-Some.is in
    record {
      rest = take-step c.args.case.now c.loop-taken.a c.give.new.a c.args.r c.in-Some.server c.loop-taken._taken within lacks next c.give.ensures.given ∙ c.loop-taken.invariant.rest;
      fitting = c.give.ensures.fitting;
      sums = c.give.ensures.sums;
    }

pub returns-clause-filled : goal.returns-clause-filled
returns-clause-filled c =
    let keeps = kept-by_sums c.args.case.now c.loop-taken.a c.args.r c.loop-taken.sums c.loop-taken.invariant.sums in
    let last = take-last c.args.case.now c.loop-taken.a c.args.r c.loop-taken._taken (omega arith) in
    ap (λ b. if b then Some c.loop-taken.a else None) (c.keep-2.ensures ∙ keeps) ∙ sym last ∙ c.loop-taken.invariant.rest
