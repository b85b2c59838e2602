-- What the loop over the records of a file of events keeps.
use Rattle.std.proofs.Common.{ℕ, ◌+◌, ◌<◌, ◌≡◌, ◌∙◌, sym, ap, refl, List, [], ◌∷◌, ◌++◌, length, drop, get_or, Result, Ok, Err, OnOk, false, drop-cons, add-one}
use Rattle.std.specs.Result.{is_err}
use Rattle.online_mover.specs.EventFiles.{timed_at, and_then, events_from}
use Rattle.online_mover.specs.declared.timed.Timed.{Timed}
use Rattle.online_mover.specs.declared.fault.EventsFault.{EventsFault}

-- the loop over the records goes on by one event
pub events-go : (names : List (List ℕ)) (i : ℕ) (events : List Timed) (records : List (List (List ℕ))) (r : List (List ℕ)) (timed : Timed) (all : Result (List Timed) EventsFault)
    → i < length records → events_from names (i + 1) events (drop i records) ≡ all → timed_at names (i + 1) events (get_or records i r) ≡ Ok timed
    → events_from names (i + 1 + 1) (events ++ timed ∷ []) (drop (i + 1) records) ≡ all
events-go names i events records r timed all within so is =
    let split : drop i records ≡ get_or records i r ∷ drop (i + 1) records = drop-cons records i r within ∙ rw add-one refl in
    let one = ap (events_from names (i + 1) events) split in
    let two = ap (λ o. and_then o (λ t. events_from names (i + 1 + 1) (events ++ t ∷ []) (drop (i + 1) records))) is in
    sym two ∙ sym one ∙ so

-- what holds on Ok, by a test
pub on-ok : {T E : Type 0} {P : Type 0} (r : Result T E) → false ≡ is_err r → OnOk r P → P
on-ok (Ok x) e p = p
on-ok (Err x) e p = absurd cc
