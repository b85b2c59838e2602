use Rattle.std.proofs.Common.{◌≡◌, ◌∙◌, ◌+◌, ◌∷◌, [], List, sym, ap, ap₂, arith, length, drop, map, length-append, subst, IfSome, Result, Err}
use Rattle.std.proofs.lemmas.List.{length-map}
use Rattle.ras_inventory.specs.RegionRule.{server_names}
use Rattle.ras_inventory.specs.Bounds.{bounds_from, bound_at, broken_rule, told}
use Rattle.ras_inventory.specs.declared.bound.Bound.{Bound}
use Rattle.ras_inventory.specs.declared.fault.BindingsFault.{BindingsFault}
use Rattle.ras_inventory.proofs.LinesLemmas.{on-ok}
use Rattle.ras_inventory.proofs.BoundsLemmas.{bounds-go, bounds-stop, bound-names}
use Rattle.ras_inventory.proofs.bound.read_bounds.Goals as goal

pub bound_at-requires : goal.bound_at-requires
bound_at-requires c = c.loop-i.invariant.1 ∙ ap (map (λ (b : Bound). b.server)) (sym c.as_slice.ensures.items)

pub number-requires : goal.number-requires
number-requires c = omega (arith, ap length c.loop-i.invariant.1, length-map c.loop-i.list (λ (b : Bound). b.server), c.loop-i.invariant.2)

pub returns-in-Err-clause-bounds : goal.returns-in-Err-clause-bounds
returns-in-Err-clause-bounds c =
    let i = c.loop-i.i in
    let servers = server_names c.args.region.now.servers in
    let fields = ap₂ (bound_at servers (i + 1)) c.as_slice.ensures.items c.index-records-i.is in
    bounds-stop servers i c.loop-i.list c.args.records.now c.index-records-i.result c.in-Err.fault _ (omega arith) c.loop-i.invariant.0
    (subst (λ (o : Result Bound BindingsFault). IfSome (told c.in-Err.fault) (λ f. o ≡ Err f)) fields c.in-Err.ensures.bound)

pub loop-i-preserved : goal.loop-i-preserved
loop-i-preserved c =
    let i = c.loop-i.i in
    let servers = server_names c.args.region.now.servers in
    let inv = c.loop-i.invariant in
    let list = c.loop-i.list in
    let bound = c.in-Ok.bound in
    let records = c.args.records.now in
    let push = on-ok c.push.result c.if-is_err-2.ensures.value c.push.ensures.ok in
    let rules = ap (λ (l : List Bound). broken_rule servers l bound) (sym c.as_slice.ensures.items) ∙ c.in-Ok.ensures.rules in
    let names = on-ok c.number.result c.if-is_err.ensures.value c.number.ensures.names in
    let read = sym (ap₂ (bound_at servers (i + 1)) c.as_slice.ensures.items c.index-records-i.is) ∙ c.in-Ok.ensures.bound in
    let longer = ap length push ∙ length-append list (bound ∷ []) in (
      ap (λ (l : List Bound). bounds_from servers (i + 1 + 1) l (drop (i + 1) records)) push ∙ bounds-go servers i list records c.index-records-i.result bound _ (omega arith) inv.0 read,
      bound-names servers c.loop-i.names c.number.new.self list bound inv.1 rules names ∙ ap (map (λ (b : Bound). b.server)) (sym push),
      omega (arith, longer, inv.2),
    )
