use Rattle.std.proofs.Common.{arith, sym}
use Rattle.serde_json.specs.View.{view}
use Rattle.plan_document.proofs.Sizes.{at-size}
use Rattle.plan_document.proofs.numbers.pairs_at.Goals as goal

pub pairs_of-requires : goal.pairs_of-requires
pairs_of-requires c = omega (arith, at-size c.args.place (view c.args.value.now) (view c.in-Some.found.now) (sym c.in-Some.ensures), c.requires)
