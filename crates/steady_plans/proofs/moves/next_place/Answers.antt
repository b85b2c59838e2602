use Rattle.std.proofs.Common.{◌≡◌, ℕ, true, sym, ◌∙◌, refl, inl, subst}
use Rattle.std.specs.Prelude.{Option, nat_lt, length}
use Rattle.std.specs.Option.{option_map_or}
use Rattle.plan_model.specs.declared.cases.Assignment.{Assignment}
use Rattle.program_rows.specs.Settings.{setting_of}
use Rattle.program_rows.specs.Phases.{phase_allowed}
use Rattle.steady_plans.proofs.Changes.{replaced-same}
use Rattle.steady_plans.proofs.Nearby.{allowed-length}
use Rattle.steady_plans.proofs.Next.{place-there, needed-settled, best-settled, best-allowed, best-less}
use Rattle.steady_plans.proofs.moves.next_place.Goals as goal

pub may_leave-requires-clause-there : goal.may_leave-requires-clause-there
may_leave-requires-clause-there c =
    subst (λ (o : Option ℕ). option_map_or (λ r. nat_lt r (length c.args.case.now.wants)) o true ≡ true) c.requires.from
    (place-there c.args.case.now (setting_of c.args.case.now c.args.phase.now) c.args.a.now c.args.server c.requires.allowed c.requires.in_range)

pub best_place-requires-clause-size : goal.best_place-requires-clause-size
best_place-requires-clause-size c = allowed-length c.args.case.now (setting_of c.args.case.now c.args.phase.now) c.args.a.now c.requires.allowed

pub best_place-requires-clause-there : goal.best_place-requires-clause-there
best_place-requires-clause-there c =
    subst (λ (o : Option ℕ). option_map_or (λ r. nat_lt r (length c.args.case.now.wants)) o true ≡ true) c.requires.from
    (place-there c.args.case.now (setting_of c.args.case.now c.args.phase.now) c.args.a.now c.args.server c.requires.allowed c.requires.in_range)

pub returns-then-may_leave : goal.returns-then-may_leave
returns-then-may_leave c =
    let case = c.args.case.now in
    let setting = setting_of case c.args.phase.now in
    let a = c.args.a.now in
    let s = c.args.server in
    let keeps = sym c.may_leave.ensures ∙ c.if-may_leave.true in
    record {
      sums = c.best_place.ensures.sums;
      allowed = best-allowed case setting c.requires.start a c.requires.allowed s c.requires.in_range c.args.from c.best_place.result c.requires.from c.requires.movable keeps c.best_place.ensures.which;
      less = best-less case setting c.requires.start a c.requires.allowed s c.requires.in_range c.args.from c.best_place.result c.requires.from c.best_place.ensures.which;
      settled = λ same. best-settled case setting c.requires.start a c.requires.allowed s c.requires.in_range c.best_place.result (c.requires.from ∙ sym same) c.requires.movable c.best_place.ensures.least;
    }

pub returns : goal.returns
returns c =
    let case = c.args.case.now in
    let setting = setting_of case c.args.phase.now in
    let a = c.args.a.now in
    let s = c.args.server in
    let lacks = sym c.may_leave.ensures ∙ c.if-may_leave.false in
    record {
      sums = c.requires.sums;
      allowed = subst (λ (x : Assignment). phase_allowed case setting x ≡ true) (sym (replaced-same a s c.args.from c.requires.from)) c.requires.allowed;
      less = inl refl;
      settled = λ _. needed-settled case setting c.requires.start a c.requires.allowed s c.requires.in_range c.args.from c.requires.from lacks;
    }
