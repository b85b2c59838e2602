use Rattle.std.proofs.Common.{◌≡◌, ◌∙◌, ap, sym, subst, true, length, List}
use Rattle.std.specs.Prelude.{count_by}
use Rattle.std.specs.List.{list_all}
use Rattle.plan_model.specs.declared.cases.Case.{Case}
use Rattle.plan_model.proofs.SumLemmas.{length-fits}
use Rattle.online_mover.specs.declared.stands.Server.{Server}
use Rattle.online_mover.specs.States.{state_rule, server_in_range, moves}
use Rattle.online_mover.proofs.Covers.{and-right}
use Rattle.online_mover.proofs.Targets.{start-rule, start-length, starts-range, start-flight, places-range}
use Rattle.online_mover.proofs.mover.Mover.start.Goals as goal

pub counting_of-requires-clause-long : goal.counting_of-requires-clause-long
counting_of-requires-clause-long c =
    ap (λ (xs : List Server). length xs) c.in_ok-servers.ensures
    ∙ start-length c.args.case.now.places c.args.target.now.of (length-fits c.args.case.now c.args.target.now c.requires.fitting)
    ∙ sym (ap (λ (case : Case). length case.places) c.in_ok-own_case.ensures)

pub counting_of-requires-clause-range : goal.counting_of-requires-clause-range
counting_of-requires-clause-range c =
    let case : Case = c.args.case.now in
    subst (λ (k : Case). list_all (server_in_range (length k.wants)) c.in_ok-servers.servers ≡ true) (sym c.in_ok-own_case.ensures)
    (subst (λ (xs : List Server). list_all (server_in_range (length case.wants)) xs ≡ true) (sym c.in_ok-servers.ensures)
    (starts-range case.kinds case.racks case.boards case.centers (length case.wants) case.places c.args.target.now.of (places-range case) (and-right _ _ c.requires.fitting)))

pub invariant_of-result : goal.invariant_of-result
invariant_of-result c =
    let case : c.in_ok-counting.counting.case ≡ c.args.case.now = c.in_ok-counting.ensures.case ∙ c.in_ok-own_case.ensures in (
      subst (λ (k : Case). state_rule (record { case = k; at_once = c.args.at_once; servers = c.in_ok-servers.servers }) ≡ true) (sym case)
          (subst (λ (xs : List Server). state_rule (record { case = c.args.case.now; at_once = c.args.at_once; servers = xs }) ≡ true) (sym c.in_ok-servers.ensures)
          (start-rule c.args.case.now c.args.target.now c.args.at_once c.requires.fitting c.requires.some c.requires.few)),
      c.in_ok-counting.ensures.counts,
      sym (ap (λ (xs : List Server). count_by moves xs) c.in_ok-servers.ensures ∙ start-flight c.args.case.now.places c.args.target.now.of),
    )
