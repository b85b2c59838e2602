use Rattle.std.proofs.Common.{arith, map, sym}
use Rattle.std.proofs.lemmas.List.{length-map}
use Rattle.serde_json.specs.View.{view}
use Rattle.plan_document.proofs.Sizes.{entries-size, list-count}
use Rattle.plan_document.proofs.numbers.numbers_of.Goals as goal

pub wholes_of-requires : goal.wholes_of-requires
wholes_of-requires c =
    let ds = map view c.in-Some.values.now in
    omega (arith, length-map c.in-Some.values.now view, list-count ds, entries-size (view c.args.value.now) ds (sym c.in-Some.ensures), c.requires)
