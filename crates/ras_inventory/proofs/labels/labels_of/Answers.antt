use Rattle.std.proofs.Common.{◌∙◌, ap, arith, length}
use Rattle.ras_inventory.proofs.LinesLemmas.{few-named, named-next}
use Rattle.ras_inventory.specs.declared.line.Line.{Line}
use Rattle.ras_inventory.proofs.labels.labels_of.Goals as goal

pub number-requires : goal.number-requires
number-requires c = omega (arith, ap length c.loop-line.invariant.types, few-named (λ l. l.kind) c.loop-line.line-index c.args.lines.now)

pub number-requires-in-loop-line : goal.number-requires-in-loop-line
number-requires-in-loop-line c = omega (arith, ap length c.loop-line.invariant.racks, few-named (λ l. l.rack) c.loop-line.line-index c.args.lines.now)

pub number-requires-in-loop-line-2 : goal.number-requires-in-loop-line-2
number-requires-in-loop-line-2 c = omega (arith, ap length c.loop-line.invariant.boards, few-named (λ l. l.board) c.loop-line.line-index c.args.lines.now)

pub number-requires-in-loop-line-3 : goal.number-requires-in-loop-line-3
number-requires-in-loop-line-3 c = omega (arith, ap length c.loop-line.invariant.centers, few-named (λ l. l.center) c.loop-line.line-index c.args.lines.now)

pub loop-line-preserved : goal.loop-line-preserved
loop-line-preserved c =
    let i = c.loop-line.line-index in
    let lines = c.args.lines.now in
    let line = c.line-item.result in
    let at = c.line-item.is in
    record {
      types = c.in_ok-number.ensures.names ∙ named-next (λ l. l.kind) i lines line _ line.kind (omega arith) c.loop-line.invariant.types (ap (λ (l : Line). l.kind) at);
      racks = c.in_ok-number-2.ensures.names ∙ named-next (λ l. l.rack) i lines line _ line.rack (omega arith) c.loop-line.invariant.racks (ap (λ (l : Line). l.rack) at);
      boards = c.in_ok-number-3.ensures.names ∙ named-next (λ l. l.board) i lines line _ line.board (omega arith) c.loop-line.invariant.boards (ap (λ (l : Line). l.board) at);
      centers = c.in_ok-number-4.ensures.names ∙ named-next (λ l. l.center) i lines line _ line.center (omega arith) c.loop-line.invariant.centers (ap (λ (l : Line). l.center) at);
    }
