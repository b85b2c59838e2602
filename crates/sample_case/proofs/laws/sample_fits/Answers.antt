use Rattle.sample_case.proofs.Fits.{sample-fits}
use Rattle.sample_case.proofs.laws.sample_fits.Goals as goal

pub returns : goal.returns
returns c = sample-fits
