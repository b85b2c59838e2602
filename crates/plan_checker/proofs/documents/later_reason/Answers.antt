use Rattle.std.specs.Option.{is_none}
use Rattle.program_rows.specs.Settings.{region_setting}
use Rattle.plan_checker.specs.declared.verdict.PhaseName.TheVariants as phase
use Rattle.plan_checker.specs.Reasons.{region_plan_reason}
use Rattle.plan_checker.proofs.Steps.{or_none}
use Rattle.plan_checker.proofs.Promise.{chosen_are}
use Rattle.plan_checker.proofs.Parts.{sound_tree}
use Rattle.plan_checker.proofs.documents.later_reason.Goals as goal

pub region_last_reason-requires : goal.region_last_reason-requires
region_last_reason-requires c =
    let case = c.args.case.now in
    let document = c.args.document.now in
    sound_tree phase.Region case (region_setting case) document (is_none document.rack) document.region (or_none (region_plan_reason case document.region.plan) _ c.requires.region).1

pub rack_part_reason-requires-clause-chosen : goal.rack_part_reason-requires-clause-chosen
rack_part_reason-requires-clause-chosen c =
    chosen_are c.args.case.now c.args.document.now c.requires.shape c.requires.chosen c.in-Some.rack c.in-Some-plan.first c.in-Some.is c.in-Some-plan.is
