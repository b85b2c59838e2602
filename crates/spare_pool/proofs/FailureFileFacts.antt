-- What the loop over the records of a file of failures keeps.
use Rattle.std.proofs.Common.{ℕ, ◌+◌, ◌<◌, ◌≡◌, ◌∙◌, sym, ap, refl, List, [], ◌∷◌, ◌++◌, length, drop, get_or, Result, Ok, Err, OnOk, false, drop-cons, add-one}
use Rattle.std.specs.Result.{is_err}
use Rattle.spare_pool.specs.FailureFiles.{failure_at, and_then, failures_from}
use Rattle.spare_pool.specs.declared.failure.Failure.{Failure}
use Rattle.spare_pool.specs.declared.fault.FailuresFault.{FailuresFault}

-- the loop over the records goes on by one failure
pub failures-go : (names : List (List ℕ)) (i : ℕ) (failures : List Failure) (records : List (List (List ℕ))) (r : List (List ℕ)) (failure : Failure) (all : Result (List Failure) FailuresFault)
    → i < length records → failures_from names (i + 1) failures (drop i records) ≡ all → failure_at names (i + 1) failures (get_or records i r) ≡ Ok failure
    → failures_from names (i + 1 + 1) (failures ++ failure ∷ []) (drop (i + 1) records) ≡ all
failures-go names i failures records r failure all within so is =
    let split : drop i records ≡ get_or records i r ∷ drop (i + 1) records = drop-cons records i r within ∙ rw add-one refl in
    let one = ap (failures_from names (i + 1) failures) split in
    let two = ap (λ o. and_then o (λ t. failures_from names (i + 1 + 1) (failures ++ t ∷ []) (drop (i + 1) records))) is in
    sym two ∙ sym one ∙ so

-- what holds on Ok, by a test
pub on-ok : {T E : Type 0} {P : Type 0} (r : Result T E) → false ≡ is_err r → OnOk r P → P
on-ok (Ok x) e p = p
on-ok (Err x) e p = absurd cc
