use Rattle.std.proofs.Common.{◌≡◌, ◌+◌, suc, rules, ap, sym, arith, ◌∙◌}
use Rattle.std.specs.Prelude.{length, option_map}
use Rattle.first_plans.specs.declared.takes.Candidate.{Candidate}
use Rattle.first_plans.specs.Best.{best_of, better_of}
use Rattle.first_plans.proofs.Bests.{best-is_taken}
use Rattle.first_plans.proofs.takes.next_server.Goals as goal

pub loop-server-preserved : goal.loop-server-preserved
loop-server-preserved c =
    let one : c.loop-server.server + 1 ≡ suc c.loop-server.server = omega arith in
    c.better-best.ensures
    ∙ ap (λ o. better_of o c.candidate_at.result) c.loop-server.invariant
    ∙ ap (better_of (best_of c.args.case.now c.args.a.now c.args.r c.loop-server.server)) c.candidate_at.ensures
    ∙ ap (best_of c.args.case.now c.args.a.now c.args.r) (sym one)

pub returns : goal.returns
returns c =
    let taken = best-is_taken c.args.case.now c.args.a.now c.args.r c.requires.fitting in
    let all : c.loop-server.server ≡ length c.args.case.now.places = omega arith in
    let best = c.loop-server.invariant ∙ ap (best_of c.args.case.now c.args.a.now c.args.r) all in
    let here : c.map.result ≡ option_map (λ (d : Candidate). d.server) c.loop-server.best = search rules in
    here ∙ ap (option_map (λ (d : Candidate). d.server)) best ∙ taken
