-- The text of a solved sample.
use Rattle.std.specs.Prelude.{ℕ, List, ◌++◌, codes, decimal, Option, Some, None}
use Rattle.plan_document.specs.declared.document.Document.{Document}
use Rattle.plan_document.specs.declared.part.Part.{Part}
use Rattle.plan_document.specs.declared.part.Planned.{Planned}
use Rattle.plan_document.specs.declared.part.RackPart.{RackPart}
use Rattle.plan_checker.specs.declared.verdict.PhaseName.{PhaseName}
use Rattle.plan_checker.specs.declared.verdict.PhaseName.TheVariants as phase
use Rattle.ras_texts.specs.Verdicts.{answer_text, part_line, phase_text}

-- that a phase has neither a plan nor a bound
abbrev pub none_line : PhaseName → List ℕ
none_line p = phase_text p ++ codes " none\n"

-- the line of a part, which is never empty
abbrev pub full_line : PhaseName → Part → Option Planned → Option ℕ → List ℕ
full_line p part None None = none_line p
full_line p part None (Some lower) = part_line p part
full_line p part (Some plan) lower = part_line p part

-- the line of the part of the region, and of the racks
abbrev pub region_line : Part → List ℕ
region_line part = full_line phase.Region part part.plan part.lower

abbrev pub racks_line : Option RackPart → List ℕ
racks_line None = none_line phase.Rack
racks_line (Some rack) = full_line phase.Rack rack.part rack.part.plan rack.part.lower

-- how many servers and switchboards a region has, and the answer, bounds and costs of a document over it
abbrev pub sample_text : ℕ → ℕ → Document → List ℕ
sample_text servers boards document =
    codes "servers " ++ (decimal servers ++ (codes "\nswitchboards " ++ (decimal boards ++ (codes "\nanswer " ++ (answer_text document.answer ++ (codes "\n"
    ++ (region_line document.region ++ racks_line document.rack)))))))
