use Rattle.std.proofs.Common.{◌≡◌, ◌++◌, codes, take}
use Rattle.std.specs.Prelude.{flat_map}
use Rattle.ras_requests.specs.RequestsRule.{reservation_names}
use Rattle.ras_texts.proofs.sets.put_names.Given as goal

abbrev pub invariant-loop-reservation : goal.invariant-loop-reservation
invariant-loop-reservation l =
    l.text.items ≡ l.initial.text.items ++ flat_map (λ name. codes " " ++ name) (reservation_names (take l.reservation-index l.reservation-items))
