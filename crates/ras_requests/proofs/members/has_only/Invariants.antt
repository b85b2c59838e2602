use Rattle.std.proofs.Common.{◌≡◌, map, Bor, List, ℕ}
use Rattle.serde_json.specs.View.{members_view}
use Rattle.ras_requests.specs.Members.{has_only}
use Rattle.ras_requests.proofs.members.has_only.Given as goal

abbrev pub invariant-loop-name : goal.invariant-loop-name
invariant-loop-name l =
    has_only (map (λ (n : Bor (List ℕ)). n.now) l.names) (members_view l.name-iterator) ≡ has_only (map (λ (n : Bor (List ℕ)). n.now) l.names) (members_view l.members.entries)
