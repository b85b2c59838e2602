use Rattle.std.proofs.lemmas.Result.{IfOk-weaker}
use Rattle.ras_answers.specs.Answered.{seen}
use Rattle.ras_answers.proofs.SampleLemmas.{answers-sample}
use Rattle.ras_answers.proofs.sampling.sample_answer.Goals as goal

pub returns : goal.returns
returns c =
    IfOk-weaker c.solved_summary.result _ _ (λ a h. answers-sample c.args.number c.args.size (seen a) (record {
      files = record { region = c.in_ok-sample.sample.region; requests = c.in_ok-sample.sample.requests; bindings = c.in_ok-sample.sample.bindings };
      read = record { region_is = c.in_ok-sample.ensures.region; requests_are = c.in_ok-sample.ensures.requests; bindings_are = c.in_ok-sample.ensures.bindings };
      case = c.in_ok-sample.sample.case;
      joined = c.in_ok-sample.ensures.case;
      summary = h;
    })) c.solved_summary.ensures
