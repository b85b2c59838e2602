use Rattle.std.proofs.Common.{◌∙◌, ap, sym}
use Rattle.ras_requests.specs.RequestsRule.{reservation_rule}
use Rattle.ras_requests.proofs.LimitsLemmas.{within-limits, reservation-kept}
use Rattle.ras_requests.proofs.read.reservation_at.Goals as goal

pub reservation_from-requires : goal.reservation_from-requires
reservation_from-requires c = within-limits c.args.before.now c.in-Ok-Ok.draft (sym c.first_fault.ensures ∙ c.in-None.is)

pub returns-in-Ok-clause-rule : goal.returns-in-Ok-clause-rule
returns-in-Ok-clause-rule c =
    ap reservation_rule c.in-Ok.ensures
    ∙ reservation-kept c.args.before.now c.in-Ok-Ok.draft (sym c.first_fault.ensures ∙ c.in-None.is) (rw c.in-Ok-Ok.field-0-is at c.in-Ok-Ok.ensures.differ)
