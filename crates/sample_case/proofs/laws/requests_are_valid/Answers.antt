use Rattle.sample_case.proofs.Requests.{requests-valid}
use Rattle.sample_case.proofs.laws.requests_are_valid.Goals as goal

pub returns : goal.returns
returns c = requests-valid
