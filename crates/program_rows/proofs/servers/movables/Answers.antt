use Rattle.std.proofs.Common.{ap, ◌<◌, ◌∙◌, length, arith}
use Rattle.program_rows.proofs.Actives.{flags-more, flags-all, length-flags}
use Rattle.program_rows.proofs.Pushes.{pushed}
use Rattle.program_rows.proofs.servers.movables.Goals as goal

pub loop-server-preserved : goal.loop-server-preserved
loop-server-preserved c =
    let within : c.loop-server.server < length c.args.case.now.places = omega (arith, c.len-server-end.ensures) in
    pushed c.in_ok-push.ensures.items c.loop-server.invariant c.movable.ensures
    (flags-more c.args.case.now c.args.phase.now c.requires c.loop-server.server within)

pub returns-clause-flags : goal.returns-clause-flags
returns-clause-flags c =
    c.from_vec.ensures ∙ c.loop-server.invariant
    ∙ flags-all c.args.case.now c.args.phase.now c.requires c.loop-server.server (omega (arith, c.len-server-end.ensures))

pub returns-clause-as_many : goal.returns-clause-as_many
returns-clause-as_many c =
    let all = flags-all c.args.case.now c.args.phase.now c.requires c.loop-server.server (omega (arith, c.len-server-end.ensures)) in
    omega (arith, ap length c.from_vec.ensures, ap length c.loop-server.invariant, ap length all, length-flags c.args.case.now c.args.phase.now c.requires)
