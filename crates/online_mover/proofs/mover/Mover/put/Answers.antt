use Rattle.std.proofs.Common.{◌≡◌, ◌<◌, ℕ, ap, sym, subst, true, ◌∙◌, set, map, length, get_or, List, Option}
use Rattle.std.specs.Prelude.{nat_lt, count_by}
use Rattle.std.specs.Option.{option_map_or}
use Rattle.std.proofs.lemmas.List.{map-set}
use Rattle.plan_model.specs.declared.cases.Case.{Case}
use Rattle.online_mover.specs.declared.stands.Server.{Server}
use Rattle.online_mover.specs.Sums.{Counted}
use Rattle.online_mover.specs.States.{State, state_rule, counts_for, with_server, moves, no_server}
use Rattle.online_mover.proofs.PutFacts.{put-range, flying-after}
use Rattle.online_mover.proofs.mover.Mover.put.Goals as goal

pub count-requires-clause-in_range : goal.count-requires-clause-in_range
count-requires-clause-in_range c =
    let state : State = record { case = c.self.inside.counting.case; at_once = c.self.inside.at_once; servers = c.self.inside.servers } in
    let within : c.args.server < length c.self.inside.servers = subst (λ (t : State). c.args.server < length t.servers) (sym c.self.view_is) c.requires.there in
    let rule : state_rule (with_server state c.args.server c.args.new) ≡ true = subst (λ (t : State). state_rule (with_server t c.args.server c.args.new) ≡ true) (sym c.self.view_is) c.requires.rule in
    ap (λ (o : Option ℕ). option_map_or (λ r. nat_lt r (length c.self.inside.counting.case.wants)) o true) c.counts_for.ensures ∙ put-range state c.args.server c.args.new within rule

pub invariant_of-self : goal.invariant_of-self
invariant_of-self c =
    let state : State = record { case = c.self.inside.counting.case; at_once = c.self.inside.at_once; servers = c.self.inside.servers } in
    let within : c.args.server < length c.self.inside.servers = subst (λ (t : State). c.args.server < length t.servers) (sym c.self.view_is) c.requires.there in
    let rule : state_rule (with_server state c.args.server c.args.new) ≡ true = subst (λ (t : State). state_rule (with_server t c.args.server c.args.new) ≡ true) (sym c.self.view_is) c.requires.rule in
    let case : c.count.new.self.case ≡ c.self.inside.counting.case = ap (λ (v : Counted). v.case) c.count.ensures in (
      subst (λ (of : Case). state_rule (record { case = of; at_once = c.self.inside.at_once; servers = c.set.new.self }) ≡ true) (sym case)
          (subst (λ (servers : List Server). state_rule (record { case = c.self.inside.counting.case; at_once = c.self.inside.at_once; servers = servers }) ≡ true) (sym c.set.ensures) rule),
      ap (λ (v : Counted). v.counts.of) c.count.ensures ∙ ap (λ xs. set xs c.args.server c.counts_for.result) c.self.invariant.1
          ∙ ap (λ o. set (map counts_for c.self.inside.servers) c.args.server o) c.counts_for.ensures
          ∙ sym (map-set counts_for c.self.inside.servers c.args.server c.args.new)
          ∙ ap (map counts_for) (sym c.set.ensures),
      subst (λ (servers : List Server). c.flying_with-self-inside.result ≡ count_by moves servers) (sym c.set.ensures)
          (flying-after state c.args.server c.self.inside.flying c.flying_with-self-inside.result c.args.new c.moves.result c.moves-2.result within c.self.invariant.2
          (c.moves.ensures ∙ ap (λ (xs : List Server). moves (get_or xs c.args.server no_server)) c.as_slice.ensures.items) c.moves-2.ensures c.flying_with-self-inside.ensures),
    )
