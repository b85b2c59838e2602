use Rattle.std.proofs.Common.{◌≡◌, ℕ, ◌<◌, ◌++◌, List, [], ◌∷◌, get_or, take, ap, ◌∙◌, arith, length}
use Rattle.std.specs.Prelude.{map}
use Rattle.plan_model.specs.Units.{want_of}
use Rattle.plan_model.specs.Losses.{loss_at}
use Rattle.ip_model.specs.declared.parts.Line.{Line}
use Rattle.program_rows.specs.Programs.{loss_line}
use Rattle.program_rows.proofs.Steps.{appended, map-more}
use Rattle.program_rows.proofs.lines.push_losses.Goals as goal

pub loop-number-preserved : goal.loop-number-preserved
loop-number-preserved c =
    let case = c.args.case.now in
    let classes = c.args.classes.now in
    let columns = c.args.columns.now in
    let r = c.args.reach.now.reservation in
    let i = c.loop-number.number-index in
    let given = c.as_slice-number-items.result.now in
    let numbers : List ℕ = c.args.reach.now.losses in
    let same : given ≡ numbers = c.as_slice-number-items.ensures.items in
    let within : i < length numbers = omega (arith, ap length same) in
    let make : ℕ → Line = λ number. loss_line case classes columns r (loss_at (want_of case r).protection number) in
    let lost = c.loss_at.ensures ∙ ap (λ w. loss_at w.protection (get_or given i 0)) c.want_at.ensures.want in
    let row = ap (loss_line case classes columns r) lost ∙ ap make (ap (λ ys. get_or ys i 0) same) in
    appended c.loop-number.rows.items c.args.rows.now.items (map make (take i numbers)) (make (get_or numbers i 0) ∷ [])
    (c.in_ok-push_loss.ensures ∙ ap (λ l. c.loop-number.rows.items ++ l ∷ []) row) c.loop-number.invariant (map-more make numbers i 0 within)
