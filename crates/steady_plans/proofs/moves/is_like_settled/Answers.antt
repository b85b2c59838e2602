use Rattle.std.proofs.Common.{◌<◌, length, arith}
use Rattle.program_rows.specs.Settings.{setting_of}
use Rattle.steady_plans.proofs.Nearby.{allowed-length}
use Rattle.steady_plans.proofs.Twins.{alike-settled}
use Rattle.steady_plans.proofs.moves.is_like_settled.Goals as goal

pub are_alike-requires-clause-size : goal.are_alike-requires-clause-size
are_alike-requires-clause-size c = allowed-length c.args.case.now (setting_of c.args.case.now c.args.phase.now) c.args.a.now c.requires.allowed

pub returns : goal.returns
returns c = λ e.
    let t = c.in-Some.t in
    let before : t < c.args.server = c.if-t-server.false in
    let there : t < length c.args.case.now.places = omega (arith, before, c.requires.in_range) in
    alike-settled c.args.case.now (setting_of c.args.case.now c.args.phase.now) c.requires.start c.args.a.now c.requires.allowed c.args.server t c.requires.in_range there (c.are_alike.ensures e)
    (c.requires.settled t c.if-t-first.false before)
