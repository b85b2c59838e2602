use Rattle.std.proofs.Common.{length, ap, ◌∙◌}
use Rattle.std.proofs.lemmas.List.{length-set}
use Rattle.class_expand.proofs.Dealings.{give-step}
use Rattle.class_expand.proofs.expansion.give.Goals as goal

pub loop-member-preserved : goal.loop-member-preserved
loop-member-preserved c = (
  give-step c.args.a.now.of c.loop-member.a.of c.set.new.self c.args.members.now c.loop-member.member-index c.args.to c.loop-member-test.true c.loop-member.invariant.0 c.set.ensures,
  ap length c.set.ensures ∙ length-set c.loop-member.a.of _ c.args.to ∙ c.loop-member.invariant.1,
)
