use Rattle.std.proofs.Common.{◌≡◌, ◌*◌, ◌++◌}
use Rattle.std.specs.Prelude.{flat_map}
use Rattle.std.specs.List.{range_with_len}
use Rattle.region_gen.specs.Draws.{drawn_after}
use Rattle.region_gen.specs.Files.{inventory_line, bindings_line, board_lines}
use Rattle.region_gen.proofs.draft.written.Given as goal

abbrev pub invariant-loop-switchboard : goal.invariant-loop-switchboard
invariant-loop-switchboard l = record {
  inventory : l.draft.inventory.items ≡ l.initial.draft.inventory.items ++ flat_map (board_lines inventory_line l.number) (range_with_len 0 l.switchboard);
  bindings : l.draft.bindings.items ≡ l.initial.draft.bindings.items ++ flat_map (board_lines bindings_line l.number) (range_with_len 0 l.switchboard);
  draw : l.draft.draw ≡ drawn_after l.number (4 * l.switchboard);
}
