-- The text of a verdict.
use Rattle.std.specs.Prelude.{ℕ, List, [], ◌++◌, codes, decimal, Option, Some, None}
use Rattle.std.specs.Option.{unwrap_or}
use Rattle.ras_inventory.specs.declared.region.Region.{Region}
use Rattle.ras_requests.specs.declared.all.Requests.{Requests}
use Rattle.plan_model.specs.declared.losses.Lost.{Lost}
use Rattle.plan_model.specs.declared.losses.Lost.TheVariants as lost
use Rattle.bound_certificate.specs.declared.tree.TreeWhy.{TreeWhy}
use Rattle.bound_certificate.specs.declared.tree.TreeWhy.TheVariants as why
use Rattle.plan_document.specs.declared.document.Answer.{Answer}
use Rattle.plan_document.specs.declared.document.Answer.TheVariants as answer
use Rattle.plan_document.specs.declared.document.Document.{Document}
use Rattle.plan_document.specs.declared.part.Part.{Part}
use Rattle.plan_document.specs.declared.part.Planned.{Planned}
use Rattle.plan_document.specs.declared.part.RackPart.{RackPart}
use Rattle.plan_checker.specs.declared.verdict.PhaseName.{PhaseName}
use Rattle.plan_checker.specs.declared.verdict.PhaseName.TheVariants as phase
use Rattle.plan_checker.specs.declared.verdict.Reason.{Reason}
use Rattle.plan_checker.specs.declared.verdict.Reason.TheVariants as reason
use Rattle.plan_checker.specs.declared.verdict.Verdict.{Verdict}
use Rattle.plan_checker.specs.declared.verdict.Verdict.TheVariants as verdict
use Rattle.ras_texts.specs.Names.{server_name, board_name, center_name, reservation_name}

abbrev pub phase_text : PhaseName → List ℕ
phase_text phase.Region = codes "region"
phase_text phase.Rack = codes "rack"

-- the rule of a tree that a node breaks
abbrev pub rule_text : TreeWhy → List ℕ
rule_text why.Orphan = codes "orphan"
rule_text why.Column = codes "column"
rule_text why.At = codes "at"
rule_text why.Child = codes "child"
rule_text why.Row = codes "row"
rule_text why.Weak = codes "weak"

-- what was found in place of a stated bound
abbrev pub found_text : Option ℕ → List ℕ
found_text None = codes "none"
found_text (Some n) = decimal n

-- the loss after which a need is not kept: nothing is lost where the total is too small
abbrev pub loss_text : Region → Lost → List ℕ
loss_text region lost.Total = codes "total"
loss_text region (lost.Board board) = board_name region board
loss_text region (lost.Center center) = center_name region center

abbrev pub reason_text : Region → Requests → Reason → List ℕ
reason_text region requests (reason.Protection r) = codes "protection " ++ reservation_name requests r
reason_text region requests (reason.Serves p server) = codes "serves " ++ (phase_text p ++ (codes " " ++ server_name region server))
reason_text region requests (reason.Need p r loss) =
    codes "need " ++ (phase_text p ++ (codes " " ++ (reservation_name requests r ++ (codes " " ++ loss_text region loss))))
reason_text region requests (reason.Value p stated found) =
    codes "value " ++ (phase_text p ++ (codes " stated " ++ (decimal stated ++ (codes " found " ++ decimal found))))
reason_text region requests (reason.Size p) = codes "size " ++ phase_text p
reason_text region requests (reason.Tree p node rule) =
    codes "tree " ++ (phase_text p ++ (codes " node " ++ (decimal node ++ (codes " " ++ rule_text rule))))
reason_text region requests (reason.Open node) = codes "open node " ++ decimal node
reason_text region requests (reason.Lower p stated found) =
    codes "lower " ++ (phase_text p ++ (codes " stated " ++ (decimal stated ++ (codes " found " ++ found_text found))))
reason_text region requests (reason.Gap p stated) = codes "gap " ++ (phase_text p ++ (codes " stated " ++ decimal stated))
reason_text region requests (reason.Chosen place) = codes "chosen place " ++ decimal place
reason_text region requests (reason.Fixed server) = codes "fixed " ++ server_name region server
reason_text region requests (reason.Budget p nodes) = codes "budget " ++ (phase_text p ++ (codes " nodes " ++ decimal nodes))
reason_text region requests (reason.Point p node) = codes "point " ++ (phase_text p ++ (codes " node " ++ decimal node))

abbrev pub answer_text : Answer → List ℕ
answer_text answer.Plan = codes "plan"
answer_text answer.Infeasible = codes "infeasible"
answer_text answer.Limit = codes "limit"

-- the line of a part: value, bound and gap of a plan, or the bound alone, or nothing
abbrev pub stated_line : PhaseName → Option Planned → Option ℕ → List ℕ
stated_line p (Some plan) lower =
    phase_text p ++ (codes " value " ++ (decimal plan.value ++ (codes " lower " ++ (decimal (unwrap_or lower 0) ++ (codes " gap " ++ (decimal plan.gap ++ codes "\n"))))))
stated_line p None (Some lower) = phase_text p ++ (codes " lower " ++ (decimal lower ++ codes "\n"))
stated_line p None None = []

abbrev pub part_line : PhaseName → Part → List ℕ
part_line p part = stated_line p part.plan part.lower

abbrev pub rack_line : Option RackPart → List ℕ
rack_line None = []
rack_line (Some rack) = part_line phase.Rack rack.part

-- the lines of a document that is accepted
abbrev pub accepted_text : Document → List ℕ
accepted_text document =
    codes "yes " ++ (answer_text document.answer ++ (codes "\n" ++ (part_line phase.Region document.region ++ rack_line document.rack)))

abbrev pub verdict_text : Region → Requests → Document → Verdict → List ℕ
verdict_text region requests document verdict.Yes = accepted_text document
verdict_text region requests document (verdict.No r) = codes "no " ++ (reason_text region requests r ++ codes "\n")
