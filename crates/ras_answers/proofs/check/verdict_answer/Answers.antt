use Rattle.std.proofs.lemmas.Result.{IfOk-weaker}
use Rattle.ras_answers.proofs.check.verdict_answer.Goals as goal

pub returns : goal.returns
returns c =
    IfOk-weaker c.printed.result _ _ (λ a h. record {
      case = c.in_ok-judged.judged.case;
      verdict = c.in_ok-judged.judged.verdict;
      judged = c.in_ok-judged.ensures.judged;
      printed = h;
    }) c.printed.ensures
