-- What the loop over the records of a script keeps.
use Rattle.std.proofs.Common.{ℕ, ◌+◌, ◌<◌, ◌≡◌, ◌∙◌, sym, ap, refl, List, [], ◌∷◌, ◌++◌, length, drop, get_or, Result, Ok, drop-cons, add-one}
use Rattle.ras_rounds.specs.Scripts.{entry_at, and_then, script_from}
use Rattle.ras_rounds.specs.declared.entries.Entry.{Entry}
use Rattle.ras_rounds.specs.declared.fault.ScriptFault.{ScriptFault}

-- the loop over the records goes on by one entry
pub script-go : (names : List (List ℕ)) (i : ℕ) (entries : List Entry) (records : List (List (List ℕ))) (r : List (List ℕ)) (entry : Entry) (all : Result (List Entry) ScriptFault)
    → i < length records → script_from names (i + 1) entries (drop i records) ≡ all → entry_at names (i + 1) entries (get_or records i r) ≡ Ok entry
    → script_from names (i + 1 + 1) (entries ++ entry ∷ []) (drop (i + 1) records) ≡ all
script-go names i entries records r entry all within so is =
    let split : drop i records ≡ get_or records i r ∷ drop (i + 1) records = drop-cons records i r within ∙ rw add-one refl in
    let one = ap (script_from names (i + 1) entries) split in
    let two = ap (λ o. and_then o (λ t. script_from names (i + 1 + 1) (entries ++ t ∷ []) (drop (i + 1) records))) is in
    sym two ∙ sym one ∙ so
