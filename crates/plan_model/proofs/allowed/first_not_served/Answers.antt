use Rattle.std.proofs.Common.{◌≡◌, ap, arith, true, false, get_or, ◌∙◌, below_more, sym, None}
use Rattle.std.specs.Prelude.{not}
use Rattle.std.proofs.lemmas.Slice.Zip.{get_or-zip, length-zip}
use Rattle.plan_model.specs.Allowed.{serves}
use Rattle.plan_model.specs.Units.{servers_with_places, no_place, server_with}
use Rattle.plan_model.proofs.NumberLemmas.{position_at, position_none}
use Rattle.plan_model.proofs.SumLemmas.{length-fits}
use Rattle.plan_model.proofs.allowed.first_not_served.Goals as goal

pub returns-then-not-serves : goal.returns-then-not-serves
returns-then-not-serves c =
    let same = length-fits c.args.case.now c.args.a.now c.requires in
    let at : get_or (servers_with_places c.args.case.now c.args.a.now) c.loop-server.server (no_place, None) ≡ server_with c.args.case.now c.args.a.now c.loop-server.server =
    get_or-zip c.args.case.now.places c.args.a.now.of c.loop-server.server (no_place, None) (omega arith) (omega arith) in
    let fails : not (serves c.args.case.now (server_with c.args.case.now c.args.a.now c.loop-server.server)) ≡ true = cc in
    sym (position_at (λ s. not (serves c.args.case.now s)) (servers_with_places c.args.case.now c.args.a.now) c.loop-server.server (no_place, None)
    (omega (arith, length-zip c.args.case.now.places c.args.a.now.of)) c.loop-server.invariant (ap (λ s. not (serves c.args.case.now s)) at ∙ fails))

pub loop-server-preserved : goal.loop-server-preserved
loop-server-preserved c =
    let same = length-fits c.args.case.now c.args.a.now c.requires in
    let at : get_or (servers_with_places c.args.case.now c.args.a.now) c.loop-server.server (no_place, None) ≡ server_with c.args.case.now c.args.a.now c.loop-server.server =
    get_or-zip c.args.case.now.places c.args.a.now.of c.loop-server.server (no_place, None) (omega arith) (omega arith) in
    let passes : not (serves c.args.case.now (server_with c.args.case.now c.args.a.now c.loop-server.server)) ≡ false = cc in
    below_more _ _ c.loop-server.invariant (ap (λ s. not (serves c.args.case.now s)) at ∙ passes)

pub returns : goal.returns
returns c =
    let same = length-fits c.args.case.now c.args.a.now c.requires in
    sym (position_none (λ s. not (serves c.args.case.now s)) (servers_with_places c.args.case.now c.args.a.now) (no_place, None)
    (λ k within. c.loop-server.invariant k (omega (arith, length-zip c.args.case.now.places c.args.a.now.of))))
