use Rattle.std.proofs.Common.{◌≡◌, ◌++◌}
use Rattle.std.specs.Prelude.{flat_map}
use Rattle.std.specs.List.{range_with_len}
use Rattle.ras_inventory.specs.RegionRule.{server_names}
use Rattle.ras_requests.specs.RequestsRule.{reservation_names}
use Rattle.online_mover.specs.Causes.{cause_of}
use Rattle.move_text.specs.Lines.{end_line}
use Rattle.move_text.proofs.lines.put_ends.Given as goal

abbrev pub invariant-loop-server : goal.invariant-loop-server
invariant-loop-server l =
    l.text.items ≡ l.initial.text.items ++ flat_map (λ s. end_line (server_names l.region.servers) (reservation_names l.requests.list) s (cause_of l.mover s)) (range_with_len 0 l.server)
