use Rattle.std.proofs.Common.{arith, map, sym, codes}
use Rattle.std.proofs.lemmas.List.{length-map}
use Rattle.serde_json.specs.View.{view}
use Rattle.plan_document.proofs.Sizes.{entries_at-size, list-count}
use Rattle.plan_document.proofs.part.chosen_at.Goals as goal

pub chosen_of-requires : goal.chosen_of-requires
chosen_of-requires c =
    let ds = map view c.in-Some.entries.now in
    omega (arith, length-map c.in-Some.entries.now view, list-count ds, entries_at-size (codes "chosen") (view c.args.value.now) ds (sym c.in-Some.ensures), c.requires)
