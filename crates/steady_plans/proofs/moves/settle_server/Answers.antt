use Rattle.std.proofs.Common.{sym, ◌∙◌, refl}
use Rattle.program_rows.specs.Settings.{setting_of}
use Rattle.steady_plans.proofs.Next.{fixed-settled}
use Rattle.steady_plans.proofs.moves.settle_server.Goals as goal

pub settle_movable-requires-clause-movable : goal.settle_movable-requires-clause-movable
settle_movable-requires-clause-movable c = sym c.movable.ensures ∙ c.if-movable.true

pub returns-then-movable : goal.returns-then-movable
returns-then-movable c = c.settle_movable.ensures

pub returns : goal.returns
returns c =
    let case = c.args.case.now in
    let fixed = sym c.movable.ensures ∙ c.if-movable.false in
    record {
      sums = c.requires.sums;
      allowed = c.requires.allowed;
      less = λ e. cc;
      settled = λ _. (refl, fixed-settled case (setting_of case c.args.phase.now) c.requires.start c.args.a.now c.requires.allowed c.args.server c.requires.in_range fixed);
    }
