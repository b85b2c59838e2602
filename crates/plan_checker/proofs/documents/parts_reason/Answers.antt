use Rattle.std.proofs.Common.{sym, ◌∙◌}
use Rattle.plan_checker.proofs.Parts.{allowed_plan}
use Rattle.plan_checker.proofs.documents.parts_reason.Goals as goal

pub chosen_first-requires : goal.chosen_first-requires
chosen_first-requires c = allowed_plan c.args.case.now c.args.document.now c.requires.region (sym c.in_ok-reason.ensures ∙ c.in_default.is)
