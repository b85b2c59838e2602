use Rattle.std.proofs.Common.{length, None}
use Rattle.std.proofs.lemmas.List.{length-replicate}
use Rattle.plan_model.specs.declared.cases.Place.{Place}
use Rattle.steady_plans.specs.Tables.{one_part}
use Rattle.steady_plans.proofs.Begun.{zero-table}
use Rattle.steady_plans.proofs.sums.no_sums.Goals as goal

pub returns : goal.returns
returns c =
    let case = c.args.case.now in
    record {
      places = length-replicate (length case.places) None;
      all = zero-table case one_part 1 c.in_ok-all.all.items c.in_ok-all.ensures;
      boards = zero-table case (λ (t : Place). t.board) case.boards c.in_ok-boards.boards.items c.in_ok-boards.ensures;
      racks = zero-table case (λ (t : Place). t.rack) case.racks c.in_ok-racks.racks.items c.in_ok-racks.ensures;
      centers = zero-table case (λ (t : Place). t.center) case.centers c.in_ok-centers.centers.items c.in_ok-centers.ensures;
    }
