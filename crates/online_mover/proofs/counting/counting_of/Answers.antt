use Rattle.std.proofs.Common.{◌<◌, ◌∙◌, List, length, get_or, ap, arith}
use Rattle.online_mover.specs.declared.stands.Server.{Server}
use Rattle.online_mover.specs.Sums.{Counted}
use Rattle.online_mover.specs.States.{counts_for, no_server}
use Rattle.online_mover.proofs.PutFacts.{counts-more}
use Rattle.online_mover.proofs.counting.counting_of.Goals as goal

pub loop-i-preserved : goal.loop-i-preserved
loop-i-preserved c =
    let within : c.loop-i.i < length c.args.servers.now = omega (arith, c.loop-i-test.true, c.len-i-end.ensures) in (
      ap (λ (v : Counted). v.case) c.count.ensures ∙ c.loop-i.invariant.0,
      ap (λ (v : Counted). v.counts.of) c.count.ensures
          ∙ counts-more c.args.servers.now c.loop-i.counting.counts.of c.loop-i.i c.counts_for.result within c.loop-i.invariant.1
          (c.counts_for.ensures ∙ ap (λ (xs : List Server). counts_for (get_or xs c.loop-i.i no_server)) c.as_slice.ensures.items),
    )
