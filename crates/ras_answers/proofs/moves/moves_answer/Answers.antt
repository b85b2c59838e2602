use Rattle.std.proofs.Common.{sym, subst}
use Rattle.std.proofs.lemmas.Result.{IfOk-weaker}
use Rattle.plan_checker.specs.declared.verdict.Verdict.{Verdict}
use Rattle.ras_answers.specs.Answered.{seen}
use Rattle.ras_answers.specs.Move.{MovesTo}
use Rattle.ras_answers.specs.Target.{ByVerdict}
use Rattle.plan_checker.proofs.TargetFacts.{target-fits, target-serves}
use Rattle.ras_answers.proofs.TargetLemmas.{by-no}
use Rattle.ras_answers.proofs.moves.moves_answer.Goals as goal

pub moves_to-requires : goal.moves_to-requires
moves_to-requires c =
    let judged = c.in_ok-judged.judged in
    let accepted = c.in_ok-judged.ensures.judged.accepted.0 c.in-Yes.is in
    record {
      servers = c.in_ok-judged.ensures.places;
      fitting = target-fits judged.case c.args.inputs.now.document c.in_ok-judged.ensures.shape accepted;
      serving = target-serves judged.case c.args.inputs.now.document c.in_ok-judged.ensures.shape accepted;
      some = c.requires.some;
      few = c.requires.few;
      there = c.requires.there;
    }

pub returns-in-Yes : goal.returns-in-Yes
returns-in-Yes c =
    IfOk-weaker c.moves_to.result _ _ (λ a h. record {
      case = c.in_ok-judged.judged.case;
      verdict = c.in_ok-judged.judged.verdict;
      judged = c.in_ok-judged.ensures.judged;
      answered = subst (λ (v : Verdict). ByVerdict (MovesTo c.args.at_once c.args.inputs.now c.args.events.now) c.args.inputs.now c.in_ok-judged.judged.case v (seen a)) (sym c.in-Yes.is) h;
    }) c.moves_to.ensures

pub returns : goal.returns
returns c =
    IfOk-weaker c.printed.result _ _ (λ a h. record {
      case = c.in_ok-judged.judged.case;
      verdict = c.in_ok-judged.judged.verdict;
      judged = c.in_ok-judged.ensures.judged;
      answered = by-no (MovesTo c.args.at_once c.args.inputs.now c.args.events.now) c.args.inputs.now c.in_ok-judged.judged.case (seen a) c.in_ok-judged.judged.verdict c.in-No.field-0 c.in-No.is h;
    }) c.printed.ensures
