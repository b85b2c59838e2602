use Rattle.std.proofs.Common.{◌≡◌, ◌∙◌, ◌+◌, ◌∷◌, [], List, sym, ap, ap₂, arith, length, drop, length-append, subst, IfSome, Result, Err}
use Rattle.ras_inventory.specs.Lines.{lines_from, line_at, told, broken_rule}
use Rattle.ras_inventory.specs.Registers.{IsRegisterOf}
use Rattle.ras_inventory.specs.declared.line.Line.{Line}
use Rattle.ras_inventory.specs.declared.fault.RegionFault.{RegionFault}
use Rattle.ras_inventory.proofs.LinesLemmas.{on-ok, lines-go, lines-stop, register-goes}
use Rattle.ras_inventory.proofs.lines.read_lines.Goals as goal

pub returns-in-Err-clause-lines : goal.returns-in-Err-clause-lines
returns-in-Err-clause-lines c =
    let i = c.loop-i.i in
    let fields = ap₂ (line_at (i + 1)) c.as_slice.ensures.items c.index-records-i.is in
    lines-stop i c.loop-i.list c.args.records.now c.index-records-i.result c.in-Err.fault _ (omega arith) c.loop-i.invariant.0
    (subst (λ (o : Result Line RegionFault). IfSome (told c.in-Err.fault) (λ f. o ≡ Err f)) fields c.in-Err.ensures.line)

pub loop-i-preserved : goal.loop-i-preserved
loop-i-preserved c =
    let i = c.loop-i.i in
    let inv = c.loop-i.invariant in
    let lines = c.loop-i.list in
    let line = c.in-Ok.line in
    let records = c.args.records.now in
    let push = on-ok c.push.result c.if-is_err-2.ensures.value c.push.ensures.ok in
    let rules = ap (λ (l : List Line). broken_rule l line) (sym c.as_slice.ensures.items) ∙ c.in-Ok.ensures.rules in
    let names = on-ok c.add.result c.if-is_err.ensures.value c.add.ensures.names in
    let boards = on-ok c.add.result c.if-is_err.ensures.value c.add.ensures.boards in
    let racks = on-ok c.add.result c.if-is_err.ensures.value c.add.ensures.rack_boards in
    let centers = on-ok c.add.result c.if-is_err.ensures.value c.add.ensures.board_centers in
    let read = sym (ap₂ (line_at (i + 1)) c.as_slice.ensures.items c.index-records-i.is) ∙ c.in-Ok.ensures.line in
    let longer = ap length push ∙ length-append lines (line ∷ []) in (
      ap (λ (l : List Line). lines_from (i + 1 + 1) l (drop (i + 1) records)) push ∙ lines-go i lines records c.index-records-i.result line _ (omega arith) inv.0 read,
      subst (λ (l : List Line). IsRegisterOf l c.add.new.self) (sym push) (register-goes lines line c.loop-i.register c.add.new.self inv.1 rules names boards racks centers),
      omega (arith, longer, inv.2),
    )
