use Rattle.std.proofs.Common.{◌≡◌, ◌<◌, ap, arith, length, true, false, ◌∙◌, below_more, sym, None, zip, ℕ, Option}
use Rattle.std.specs.Prelude.{not, option_map, slice_index_or}
use Rattle.plan_model.specs.Rack.{keeps_to_chosen}
use Rattle.plan_model.specs.Units.{servers_with_places, no_place, server_with}
use Rattle.plan_model.proofs.NumberLemmas.{position_at, position_none}
use Rattle.plan_checker.specs.declared.verdict.Reason.TheVariants as reason
use Rattle.plan_checker.proofs.Loops.{kept-at, kept-length}
use Rattle.plan_checker.proofs.fixed.fixed_reason.Goals as goal

pub returns-then-not-is_kept : goal.returns-then-not-is_kept
returns-then-not-is_kept c =
    let case = c.args.case.now in
    let region = c.args.region.now in
    let a = c.args.a.now in
    let s = c.loop-server.server in
    let within : s < length case.places = omega arith in
    let at = kept-at case region a s c.requires.region c.requires.a within in
    let fails : not (keeps_to_chosen case c.args.chosen.now (server_with case region s, slice_index_or a.of s None)) ≡ true = cc in
    ap (λ (o : Option ℕ). option_map (λ (s : ℕ). reason.Fixed s) o)
    (sym (position_at (λ s. not (keeps_to_chosen case c.args.chosen.now s)) (zip (servers_with_places case region) a.of) s ((no_place, None), None)
    (omega (arith, kept-length case region a c.requires.region c.requires.a, within)) c.loop-server.invariant (ap (λ s. not (keeps_to_chosen case c.args.chosen.now s)) at ∙ fails)))

pub loop-server-preserved : goal.loop-server-preserved
loop-server-preserved c =
    let case = c.args.case.now in
    let region = c.args.region.now in
    let a = c.args.a.now in
    let s = c.loop-server.server in
    let at = kept-at case region a s c.requires.region c.requires.a (omega arith) in
    let passes : not (keeps_to_chosen case c.args.chosen.now (server_with case region s, slice_index_or a.of s None)) ≡ false = cc in
    below_more _ _ c.loop-server.invariant (ap (λ s. not (keeps_to_chosen case c.args.chosen.now s)) at ∙ passes)

pub returns : goal.returns
returns c =
    let case = c.args.case.now in
    let region = c.args.region.now in
    let a = c.args.a.now in
    ap (λ (o : Option ℕ). option_map (λ (s : ℕ). reason.Fixed s) o)
    (sym (position_none (λ s. not (keeps_to_chosen case c.args.chosen.now s)) (zip (servers_with_places case region) a.of) ((no_place, None), None)
    (λ k within. c.loop-server.invariant k (omega (arith, kept-length case region a c.requires.region c.requires.a)))))
