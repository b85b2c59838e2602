use Rattle.std.proofs.Common.{◌≡◌, ◌∙◌, ◌<◌, ◌≤◌, List, ℕ, ap, ap₂, sym, subst, true, None, length, get_or, arith}
use Rattle.std.specs.Prelude.{Option, replicate}
use Rattle.plan_model.specs.declared.cases.Case.{Case}
use Rattle.plan_model.specs.declared.cases.Place.{Place}
use Rattle.plan_model.specs.Units.{place_of, no_place}
use Rattle.plan_model.proofs.SumLemmas.{length-fits}
use Rattle.spare_pool.specs.declared.standings.Standing.{Standing}
use Rattle.spare_pool.specs.States.{State, down, standing_at_start, may_stand}
use Rattle.spare_pool.proofs.StartFacts.{starts, starts-none, starts-more, starts-whole, starts-stand, starts-long, so_far-within, state-same}
use Rattle.spare_pool.proofs.pool.Pool.start.Goals as goal

pub loop-server-init : goal.loop-server-init
loop-server-init c = (
  ap (λ (t : State). t.case) c.in_ok-pool.ensures ∙ c.in_ok-own.ensures,
  ap (λ (t : State). t.servers) c.in_ok-pool.ensures ∙ ap (λ (k : Case). replicate (length k.places) down) c.in_ok-own.ensures
      ∙ starts-none c.args.case.now c.args.a.now c.requires.fitting,
)

pub put-requires-clause-there : goal.put-requires-clause-there
put-requires-clause-there c =
    let within : c.loop-server.server < length c.args.case.now.places = omega (arith, c.loop-server-test.true, c.len-server-end.ensures, length-fits c.args.case.now c.args.a.now c.requires.fitting) in
    so_far-within c.args.case.now c.args.a.now c.loop-server.server c.loop-server.pool.servers c.requires.fitting within c.loop-server.invariant.1

pub put-requires-clause-stands : goal.put-requires-clause-stands
put-requires-clause-stands c =
    let s = c.loop-server.server in
    let within : c.loop-server.server < length c.args.case.now.places = omega (arith, c.loop-server-test.true, c.len-server-end.ensures, length-fits c.args.case.now c.args.a.now c.requires.fitting) in
    let is = c.standing_at_start-standing.ensures
    ∙ ap₂ (λ (ps : List Place) (os : List (Option ℕ)). standing_at_start (get_or ps s no_place, get_or os s None)) c.as_slice-places.ensures.items c.as_slice-of.ensures.items in
    subst (λ (k : Case). may_stand k (place_of k s, c.standing_at_start-standing.result) ≡ true) (sym c.loop-server.invariant.0)
    (starts-stand c.args.case.now c.args.a.now s c.standing_at_start-standing.result c.requires.fitting c.requires.serving within is)

pub loop-server-preserved : goal.loop-server-preserved
loop-server-preserved c =
    let s = c.loop-server.server in
    let within : c.loop-server.server < length c.args.case.now.places = omega (arith, c.loop-server-test.true, c.len-server-end.ensures, length-fits c.args.case.now c.args.a.now c.requires.fitting) in
    let is = c.standing_at_start-standing.ensures
    ∙ ap₂ (λ (ps : List Place) (os : List (Option ℕ)). standing_at_start (get_or ps s no_place, get_or os s None)) c.as_slice-places.ensures.items c.as_slice-of.ensures.items in (
      ap (λ (t : State). t.case) c.put.ensures ∙ c.loop-server.invariant.0,
      ap (λ (t : State). t.servers) c.put.ensures
          ∙ starts-more c.args.case.now c.args.a.now s c.loop-server.pool.servers c.standing_at_start-standing.result c.requires.fitting within c.loop-server.invariant.1 is,
    )

pub returns-clause-start : goal.returns-clause-start
returns-clause-start c =
    let past : length c.args.case.now.places ≤ c.loop-server.server = omega (arith, c.loop-server-test.false, c.len-server-end.ensures, length-fits c.args.case.now c.args.a.now c.requires.fitting) in
    state-same c.loop-server.pool c.args.case.now (starts c.args.case.now c.args.a.now) c.loop-server.invariant.0
    (starts-whole c.args.case.now c.args.a.now c.loop-server.server c.loop-server.pool.servers past c.requires.fitting c.loop-server.invariant.1)

pub returns-clause-case : goal.returns-clause-case
returns-clause-case c = c.loop-server.invariant.0

pub returns-clause-servers : goal.returns-clause-servers
returns-clause-servers c =
    let past : length c.args.case.now.places ≤ c.loop-server.server = omega (arith, c.loop-server-test.false, c.len-server-end.ensures, length-fits c.args.case.now c.args.a.now c.requires.fitting) in
    ap (λ (xs : List Standing). length xs) (starts-whole c.args.case.now c.args.a.now c.loop-server.server c.loop-server.pool.servers past c.requires.fitting c.loop-server.invariant.1)
    ∙ starts-long c.args.case.now c.args.a.now c.requires.fitting
