use Rattle.std.proofs.Common.{arith, sym}
use Rattle.serde_json.specs.View.{view}
use Rattle.plan_document.proofs.Sizes.{at-size}
use Rattle.plan_document.proofs.numbers.numbers_at.Goals as goal

pub numbers_of-requires : goal.numbers_of-requires
numbers_of-requires c = omega (arith, at-size c.args.place (view c.args.value.now) (view c.in-Some.found.now) (sym c.in-Some.ensures), c.requires)
