use Rattle.std.proofs.Common.{◌≡◌, ◌∙◌, ℕ, List, ap, ap₂, ◌++◌, arith}
use Rattle.region_gen.specs.Files.{inventory_line, bindings_line, board_lines, region_lines}
use Rattle.region_gen.proofs.Texts.{pieces_more, draws_more, board_after}
use Rattle.region_gen.proofs.draft.written.Goals as goal

pub loop-switchboard-preserved : goal.loop-switchboard-preserved
loop-switchboard-preserved c =
    let number = c.args.number in
    let i = c.loop-switchboard.switchboard in
    let from = c.loop-switchboard.invariant.draw in
    record {
      inventory =
          pieces_more (board_lines inventory_line number) i c.in_ok-draft.draft.inventory.items c.loop-switchboard.draft.inventory.items
          c.put_switchboard.new.draft.inventory.items c.loop-switchboard.invariant.inventory
          (c.in_ok-put_switchboard.ensures.inventory
          ∙ ap (λ xs. c.loop-switchboard.draft.inventory.items ++ xs) (board_after inventory_line number c.loop-switchboard.draft.draw i from));
      bindings =
          pieces_more (board_lines bindings_line number) i c.in_ok-draft.draft.bindings.items c.loop-switchboard.draft.bindings.items
          c.put_switchboard.new.draft.bindings.items c.loop-switchboard.invariant.bindings
          (c.in_ok-put_switchboard.ensures.bindings
          ∙ ap (λ xs. c.loop-switchboard.draft.bindings.items ++ xs) (board_after bindings_line number c.loop-switchboard.draft.draw i from));
      draw = c.in_ok-put_switchboard.ensures.draw ∙ draws_more number c.loop-switchboard.draft.draw i from;
    }

pub returns-clause-inventory : goal.returns-clause-inventory
returns-clause-inventory c =
    let whole : c.loop-switchboard.switchboard ≡ c.args.size = omega arith in
    c.loop-switchboard.invariant.inventory
    ∙ ap₂ (λ (xs : List ℕ) (n : ℕ). xs ++ region_lines inventory_line c.args.number n) c.in_ok-draft.ensures.inventory whole

pub returns-clause-bindings : goal.returns-clause-bindings
returns-clause-bindings c =
    let whole : c.loop-switchboard.switchboard ≡ c.args.size = omega arith in
    c.loop-switchboard.invariant.bindings
    ∙ ap₂ (λ (xs : List ℕ) (n : ℕ). xs ++ region_lines bindings_line c.args.number n) c.in_ok-draft.ensures.bindings whole
