-- What `sample` answers.
use Rattle.std.proofs.Common.{ℕ}
use Rattle.ras_answers.specs.Answered.{Answered}
use Rattle.ras_answers.specs.Sample.{IsSampleOf, SampleAnswers}

pub answers-sample : (number size : ℕ) (a : Answered) → IsSampleOf number size a → SampleAnswers number size a
unfolding SampleAnswers
answers-sample number size a is = is
