use Rattle.std.proofs.Common.{◌≡◌, map, drop, Bor, List, ℕ}
use Rattle.std.specs.List.{list_any}
use Rattle.std.specs.Str.{bytes_eq}
use Rattle.ras_requests.proofs.members.is_among.Given as goal

abbrev pub invariant-loop-name : goal.invariant-loop-name
invariant-loop-name l =
    list_any (λ n. bytes_eq n l.text) (map (λ (n : Bor (List ℕ)). n.now) (drop l.name-index l.names)) ≡ list_any (λ n. bytes_eq n l.text) (map (λ (n : Bor (List ℕ)). n.now) l.names)
