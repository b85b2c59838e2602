use Rattle.std.proofs.Common.{◌≡◌, sym, subst}
use Rattle.std.specs.Prelude.{IfOk}
use Rattle.ras_requests.specs.declared.requests.Protection.{Protection}
use Rattle.ras_requests.specs.declared.requests.Protection.TheVariants.{Board, Center}
use Rattle.program_rows.specs.Reach.{losses_among}
use Rattle.program_rows.proofs.reach.reached_losses.Goals as goal

pub returns-in-Board : goal.returns-in-Board
returns-in-Board c =
    let is : c.args.protection ≡ Board = cc in
    subst (λ (p : Protection). IfOk c.reached.result (λ numbers. numbers ≡ losses_among c.args.case.now c.args.servers.now c.args.r p)) (sym is) c.reached.ensures

pub returns-in-Center : goal.returns-in-Center
returns-in-Center c =
    let is : c.args.protection ≡ Center = cc in
    subst (λ (p : Protection). IfOk c.reached-in-Center.result (λ numbers. numbers ≡ losses_among c.args.case.now c.args.servers.now c.args.r p)) (sym is) c.reached-in-Center.ensures
