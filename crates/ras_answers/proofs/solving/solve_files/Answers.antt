use Rattle.std.proofs.lemmas.Result.{IfOk-weaker}
use Rattle.ras_inventory.specs.RegionRule.{server_names}
use Rattle.ras_requests.specs.RequestsRule.{reservation_names}
use Rattle.ras_answers.specs.Answered.{seen}
use Rattle.ras_answers.specs.Solve.{region_size}
use Rattle.ras_answers.proofs.JoinLemmas.{places-many, wants-many}
use Rattle.ras_answers.proofs.SolveLemmas.{solves-document, solves-size}
use Rattle.ras_answers.proofs.solving.solve_files.Goals as goal

pub document_answer-requires : goal.document_answer-requires
document_answer-requires c =
    let files = c.args.files.now in
    c.in-Ok.ensures.solution.writable (server_names files.region.servers) (reservation_names files.requests.list)
    (places-many files.region files.requests files.bindings c.in_ok-case.case c.requires.each c.in_ok-case.ensures)
    (wants-many files.region files.requests files.bindings c.in_ok-case.case c.in_ok-case.ensures)

pub returns-in-Ok : goal.returns-in-Ok
returns-in-Ok c =
    IfOk-weaker c.document_answer.result _ _ (λ a h. record {
      case = c.in_ok-case.case;
      joined = c.in_ok-case.ensures;
      solves = solves-document c.args.files.now c.args.options c.in_ok-case.case (region_size c.in_ok-case.case) (seen a) c.in-Ok.ensures.fits
          (record { document = c.in-Ok.document; solution = c.in-Ok.ensures.solution; printed = h });
    }) c.document_answer.ensures

pub returns : goal.returns
returns c =
    IfOk-weaker c.too_large.result _ _ (λ a h. record {
      case = c.in_ok-case.case;
      joined = c.in_ok-case.ensures;
      solves = solves-size c.args.files.now c.args.options c.in_ok-case.case (region_size c.in_ok-case.case) c.in-Err.fault (seen a) c.in-Err.ensures.fault h;
    }) c.too_large.ensures
