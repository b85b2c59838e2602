use Rattle.std.proofs.Common.{◌∙◌, ap, length}
use Rattle.plan_model.specs.declared.cases.Case.{Case}
use Rattle.online_mover.proofs.FurtherLaws.{step-targets}
use Rattle.online_mover.proofs.Sizes.{step-length}
use Rattle.ras_rounds.proofs.carries.step.Goals as goal

pub returns-clause-servers : goal.returns-clause-servers
returns-clause-servers c =
    step-length c.args.mover.now c.step.new.self c.args.event c.step.result c.step.new.out c.step.ensures ∙ c.requires.servers

pub returns-clause-wants : goal.returns-clause-wants
returns-clause-wants c =
    ap (λ (k : Case). length k.wants) (step-targets c.args.mover.now c.step.new.self c.args.event c.step.result c.step.new.out c.step.ensures).0
    ∙ c.requires.wants
