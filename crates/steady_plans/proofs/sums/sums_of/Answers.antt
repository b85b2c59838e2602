use Rattle.std.proofs.Common.{◌≡◌, ℕ, ◌<◌, ◌≤◌, length, arith, ap, sym, ◌∙◌, subst, None, true}
use Rattle.std.specs.Prelude.{Option, nat_lt}
use Rattle.std.specs.Option.{option_map_or}
use Rattle.plan_model.specs.declared.cases.Assignment.{Assignment}
use Rattle.plan_model.proofs.SumLemmas.{length-fits}
use Rattle.plan_model.proofs.CaseFacts.{list_all-at, and-right}
use Rattle.steady_plans.specs.Steady.{replaced}
use Rattle.steady_plans.specs.Tables.{AreSumsOf}
use Rattle.steady_plans.proofs.Begun.{begun, begun-first, begun-last, begun-next, begun-none}
use Rattle.steady_plans.proofs.sums.sums_of.Goals as goal

pub loop-server-init : goal.loop-server-init
loop-server-init c =
    subst (λ (x : Assignment). AreSumsOf c.args.case.now x c.in_ok-sums.sums) (sym (begun-first c.args.case.now c.args.a.now (length-fits c.args.case.now c.args.a.now c.requires))) c.in_ok-sums.ensures

pub place_in-to-requires : goal.place_in-to-requires
place_in-to-requires c =
    let same = length-fits c.args.case.now c.args.a.now c.requires in
    omega (arith, same, c.len-server-end.ensures)

pub put_place-requires-clause-there : goal.put_place-requires-clause-there
put_place-requires-clause-there c =
    let case = c.args.case.now in
    let same = length-fits case c.args.a.now c.requires in
    let within : c.loop-server.server < length c.args.a.now.of = omega (arith, same, c.len-server-end.ensures) in
    subst (λ (o : Option ℕ). option_map_or (λ r. nat_lt r (length case.wants)) o true ≡ true) (sym c.place_in-to.ensures)
    (list_all-at (λ o. option_map_or (λ r. nat_lt r (length case.wants)) o true) c.args.a.now.of c.loop-server.server None within (and-right _ _ c.requires))

pub put_place-requires-clause-sums : goal.put_place-requires-clause-sums
put_place-requires-clause-sums c = (begun c.args.a.now c.loop-server.server, c.loop-server.invariant)

pub loop-server-preserved : goal.loop-server-preserved
loop-server-preserved c =
    let a = c.args.a.now in
    let i = c.loop-server.server in
    let put = c.put_place.ensures (begun a i) c.loop-server.invariant (begun-none a i) in
    subst (λ (x : Assignment). AreSumsOf c.args.case.now x c.put_place.new.sums) (ap (replaced (begun a i) i) c.place_in-to.ensures ∙ begun-next a i) put

pub returns : goal.returns
returns c =
    let a = c.args.a.now in
    let same = length-fits c.args.case.now a c.requires in
    let all : length a.of ≤ c.loop-server.server = omega (arith, same, c.len-server-end.ensures) in
    subst (λ (x : Assignment). AreSumsOf c.args.case.now x c.loop-server.sums) (begun-last a c.loop-server.server all) c.loop-server.invariant
