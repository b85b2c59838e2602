use Rattle.std.proofs.Common.{arith, sym, codes}
use Rattle.serde_json.specs.View.{view}
use Rattle.plan_document.proofs.Sizes.{get-size}
use Rattle.plan_document.proofs.document.region_in.Goals as goal

pub part_at-requires : goal.part_at-requires
part_at-requires c = omega (arith, get-size (codes "region") (view c.args.value.now) (view c.in-Some.found.now) (sym c.in-Some.ensures), c.requires)
