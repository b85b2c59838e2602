use Rattle.std.proofs.Common.{◌≡◌, ◌+◌, ◌∙◌, ap, ◌++◌}
use Rattle.region_gen.specs.Draws.{drawn, drawn_after}
use Rattle.region_gen.specs.Files.{inventory_line, bindings_line}
use Rattle.region_gen.proofs.Texts.{pieces_more, one_more}
use Rattle.region_gen.proofs.draft.put_switchboard.Goals as goal

pub loop-place-preserved : goal.loop-place-preserved
loop-place-preserved c =
    let start = c.args.draft.now in
    let board = c.args.switchboard in
    let i = c.loop-place.place in
    let next : drawn c.loop-place.draft.draw ≡ drawn_after start.draw (i + 1) = ap drawn c.loop-place.invariant.draw ∙ one_more start.draw i in
    record {
      inventory =
          pieces_more (λ place. inventory_line (drawn_after start.draw (place + 1)) board place) i start.inventory.items c.loop-place.draft.inventory.items
          c.put_server.new.draft.inventory.items c.loop-place.invariant.inventory
          (c.in_ok-put_server.ensures.inventory ∙ ap (λ draw. c.loop-place.draft.inventory.items ++ inventory_line draw board i) next);
      bindings =
          pieces_more (λ place. bindings_line (drawn_after start.draw (place + 1)) board place) i start.bindings.items c.loop-place.draft.bindings.items
          c.put_server.new.draft.bindings.items c.loop-place.invariant.bindings
          (c.in_ok-put_server.ensures.bindings ∙ ap (λ draw. c.loop-place.draft.bindings.items ++ bindings_line draw board i) next);
      draw = c.in_ok-put_server.ensures.draw ∙ next;
    }
