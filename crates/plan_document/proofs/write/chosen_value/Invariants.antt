use Rattle.std.proofs.Common.{◌≡◌, ◌++◌, map, drop}
use Rattle.serde_json.specs.Data.{string}
use Rattle.serde_json.specs.View.{view}
use Rattle.ras_requests.specs.RequestsRule.{reservation_names}
use Rattle.plan_document.specs.Written.{name_of}
use Rattle.plan_document.proofs.write.chosen_value.Given as goal

abbrev pub invariant-loop-number : goal.invariant-loop-number
invariant-loop-number l = map view l.list.items ++ map (λ n. string (name_of (reservation_names l.requests.list) n)) (drop l.number-index l.chosen) ≡ map (λ n. string (name_of (reservation_names l.requests.list) n)) l.chosen
