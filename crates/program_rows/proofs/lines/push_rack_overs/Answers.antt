use Rattle.std.proofs.Common.{◌≡◌, ℕ, ◌<◌, ◌++◌, List, [], ◌∷◌, get_or, take, ap, ◌∙◌, arith, to_z, of_z, w32, length}
use Rattle.std.specs.Prelude.{map, pos, neg_ℤ, ◌-ℤ◌, ℤ}
use Rattle.std.proofs.lemmas.Int.{ints}
use Rattle.plan_model.specs.Units.{want_of, is_for}
use Rattle.ip_model.specs.declared.parts.Mark.{Mark}
use Rattle.ip_model.specs.declared.parts.Line.{Line}
use Rattle.ip_model.specs.declared.parts.RowKind.TheVariants.{RackOver}
use Rattle.program_rows.specs.Programs.{line, units_at, at_rack_excess}
use Rattle.program_rows.specs.Sums.{rack_line}
use Rattle.program_rows.proofs.Steps.{appended, map-more}
use Rattle.program_rows.proofs.lines.push_rack_overs.Goals as goal

pub loop-rack-preserved : goal.loop-rack-preserved
loop-rack-preserved c =
    let case = c.args.case.now in
    let classes = c.args.classes.now in
    let columns = c.args.columns.now in
    let r = c.args.reach.now.reservation in
    let i = c.loop-rack.rack-index in
    let given = c.as_slice-rack-items.result.now in
    let numbers : List ℕ = c.args.reach.now.racks in
    let same : given ≡ numbers = c.as_slice-rack-items.ensures.items in
    let within : i < length numbers = omega (arith, ap length same) in
    let make : ℕ → Line = rack_line case classes columns r in
    let factor : Mark → ℤ = λ mark. pos (at_rack_excess r (get_or given i 0) mark) -ℤ pos (units_at case classes (λ class. is_for (get_or given i 0) class.rack) r mark) in
    let least : to_z w32 (of_z w32 (pos 0 -ℤ to_z w32 c.want_at.result.now.rack_limit)) ≡ neg_ℤ (pos (want_of case r).rack_limit) = omega (arith, ints, ap (λ w. w.rack_limit) c.want_at.ensures.want, c.want_at.ensures.rack) in
    let row = ap (λ k. line columns RackOver factor k) least ∙ ap make (ap (λ ys. get_or ys i 0) same) in
    appended c.loop-rack.rows.items c.args.rows.now.items (map make (take i numbers)) (make (get_or numbers i 0) ∷ [])
    (c.in_ok-push_row.ensures ∙ ap (λ l. c.loop-rack.rows.items ++ l ∷ []) row) c.loop-rack.invariant (map-more make numbers i 0 within)
