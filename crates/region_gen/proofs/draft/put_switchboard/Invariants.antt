use Rattle.std.proofs.Common.{◌≡◌, ◌+◌, ◌++◌}
use Rattle.std.specs.Prelude.{flat_map}
use Rattle.std.specs.List.{range_with_len}
use Rattle.region_gen.specs.Draws.{drawn_after}
use Rattle.region_gen.specs.Files.{inventory_line, bindings_line}
use Rattle.region_gen.proofs.draft.put_switchboard.Given as goal

abbrev pub invariant-loop-place : goal.invariant-loop-place
invariant-loop-place l = record {
  inventory : l.draft.inventory.items
      ≡ l.initial.draft.inventory.items ++ flat_map (λ place. inventory_line (drawn_after l.initial.draft.draw (place + 1)) l.switchboard place) (range_with_len 0 l.place);
  bindings : l.draft.bindings.items
      ≡ l.initial.draft.bindings.items ++ flat_map (λ place. bindings_line (drawn_after l.initial.draft.draw (place + 1)) l.switchboard place) (range_with_len 0 l.place);
  draw : l.draft.draw ≡ drawn_after l.initial.draft.draw l.place;
}
