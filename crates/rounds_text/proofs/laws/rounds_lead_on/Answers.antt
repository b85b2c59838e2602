use Rattle.rounds_text.proofs.Leads.{rounds-lead-on}
use Rattle.rounds_text.proofs.laws.rounds_lead_on.Goals as goal

pub returns : goal.returns
returns c = rounds-lead-on
