use Rattle.std.proofs.Common.{◌≡◌, length, sym, ap, subst, true, ◌∙◌, List, map}
use Rattle.std.specs.Prelude.{zip, count_by}
use Rattle.plan_model.specs.Allowed.{fits}
use Rattle.plan_model.proofs.SumLemmas.{length-fits}
use Rattle.online_mover.specs.declared.stands.Server.{Server}
use Rattle.online_mover.specs.States.{State, state_rule, counts_for, with_target, moves}
use Rattle.online_mover.proofs.Rules.{facts-of}
use Rattle.online_mover.proofs.Targets.{targets-rule, targets-counts, targets-flight}
use Rattle.online_mover.proofs.mover.Mover.replan.Goals as goal

pub invariant_of-self : goal.invariant_of-self
invariant_of-self c =
    let state : State = record { case = c.self.inside.counting.case; at_once = c.self.inside.at_once; servers = c.self.inside.servers } in
    let fitting : fits c.self.inside.counting.case c.args.target.now ≡ true = subst (λ (t : State). fits t.case c.args.target.now ≡ true) (sym c.self.view_is) c.requires.fitting in
    let same : length c.args.target.now.of ≡ length c.self.inside.servers =
    length-fits c.self.inside.counting.case c.args.target.now fitting ∙ sym (facts-of state c.self.invariant.0).long in
    let new : c.retargeted.new.servers ≡ map with_target (zip c.self.inside.servers c.args.target.now.of) =
    c.retargeted.ensures ∙ ap (λ ys. map with_target (zip c.self.inside.servers ys)) c.as_slice.ensures.items in (
      subst (λ (xs : List Server). state_rule (record { case = c.self.inside.counting.case; at_once = c.self.inside.at_once; servers = xs }) ≡ true) (sym new)
          (targets-rule state c.args.target.now c.self.invariant.0 fitting),
      c.self.invariant.1 ∙ sym (targets-counts c.self.inside.servers c.args.target.now.of same) ∙ ap (map counts_for) (sym new),
      c.self.invariant.2 ∙ sym (targets-flight c.self.inside.servers c.args.target.now.of same) ∙ ap (count_by moves) (sym new),
    )
