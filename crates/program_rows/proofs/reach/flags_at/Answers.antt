use Rattle.std.proofs.Common.{ap, ◌∙◌, false}
use Rattle.std.proofs.lemmas.List.{take_all}
use Rattle.std.proofs.lemmas.List.FromFn.{fill_by_all}
use Rattle.program_rows.specs.Reach.{numbers_at, reaches_at}
use Rattle.program_rows.proofs.reach.flags_at.Goals as goal

pub returns-clause-flags : goal.returns-clause-flags
returns-clause-flags c =
    let case = c.args.case.now in
    let all = take_all c.loop-server.server-index c.args.servers.now c.loop-server-test.false in
    fill_by_all (reaches_at case c.args.servers.now c.args.r c.args.level) c.loop-server.flags.items (numbers_at c.args.level case) false c.loop-server.invariant.0
    (λ k within. c.loop-server.invariant.1 k within ∙ ap (λ servers. reaches_at case servers c.args.r c.args.level k) all)
