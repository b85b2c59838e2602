use Rattle.std.proofs.Common.{arith, map, sym, length, get_or, ℕ, List, ◌<◌, ◌≡◌, ◌∙◌, ap, rules}
use Rattle.std.proofs.lemmas.List.{length-map, get_or-map}
use Rattle.serde_json.specs.View.{view}
use Rattle.serde_json.specs.declared.value.Value.{Value}
use Rattle.plan_document.specs.Sizes.{size}
use Rattle.plan_document.proofs.Sizes.{entry-size, list-count}
use Rattle.plan_document.proofs.part.nodes_of.Goals as goal

pub node_at-requires : goal.node_at-requires
node_at-requires c =
    let vs : List Value = c.args.entries.now in
    let i : ℕ = c.loop-i.i in
    let v : Value = c.index-entries-i.result in
    let less : i < length vs = search rules in
    let there : get_or (map view vs) i (view v) ≡ view v = get_or-map view vs i v (view v) less ∙ sym (ap view c.index-entries-i.is) in
    omega (arith, entry-size (map view vs) i (view v) (omega (arith, length-map vs view, less)), ap size there, c.requires)

pub overflow_cast-i : goal.overflow_cast-i
overflow_cast-i c =
    let vs : List Value = c.args.entries.now in
    omega (arith, list-count (map view vs), length-map vs view, c.requires, c.loop-i-test.true)

pub from_vec-requires : goal.from_vec-requires
from_vec-requires c =
    let vs : List Value = c.args.entries.now in
    omega (arith, list-count (map view vs), length-map vs view, c.requires, c.loop-i.invariant.1, c.loop-i.auto.i-end)
