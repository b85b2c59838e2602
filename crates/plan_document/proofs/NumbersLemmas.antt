-- What the loops over the numbers of a document keep.
use Rattle.std.proofs.Common.{ℕ, ◌≡◌, ◌∙◌, sym, ap, refl, List, [], ◌∷◌, ◌++◌, Option, Some, None, append_assoc, get_or, drop, length, ◌<◌, ◌+◌, add-one, drop-cons}
use Rattle.serde_json.specs.Data.{Data}
use Rattle.serde_json.specs.View.{items_of}
use Rattle.plan_document.specs.Numbers.{items_list, with_number, with_pair, paired}
use Rattle.plan_document.specs.declared.shape.Pair.{Pair}

pub drop-next : {X : Type 0} (i : ℕ) (xs : List X) (d : X) → i < length xs → drop i xs ≡ get_or xs i d ∷ drop (i + 1) xs
drop-next i xs d less = rw (add-one i) (drop-cons xs i d less)

pub items-of : (ds : List Data) → items_list (items_of ds) ≡ ds
items-of [] = refl
items-of (d ∷ ds) = ap (λ l. d ∷ l) (items-of ds)

-- what was found so far, before what is to come
abbrev pub with_front : {X : Type 0} → List X → Option (List X) → Option (List X)
with_front found (Some more) = Some (found ++ more)
with_front found None = None

pub with_front-number : (found : List ℕ) (n : ℕ) (rest : Option (List ℕ)) → with_front found (with_number (Some n) rest) ≡ with_front (found ++ n ∷ []) rest
with_front-number found n (Some more) = ap Some (sym (append_assoc found (n ∷ []) more))
with_front-number found n None = refl

pub with_front-pair : (found : List Pair) (row num : ℕ) (rest : Option (List Pair))
    → with_front found (with_pair row num rest) ≡ with_front (found ++ record { row = row; num = num } ∷ []) rest
with_front-pair found row num (Some more) = ap Some (sym (append_assoc found (record { row = row; num = num } ∷ []) more))
with_front-pair found row num None = refl

-- one step of the pairs
pub paired-first : (found : List Pair) (ns : List ℕ) (i d : ℕ) (all : Option (List Pair)) → i < length ns
    → with_front found (paired None (drop i ns)) ≡ all → with_front found (paired (Some (get_or ns i d)) (drop (i + 1) ns)) ≡ all
paired-first found ns i d all less so = ap (λ l. with_front found (paired None l)) (sym (drop-next i ns d less)) ∙ so

pub paired-second : (found : List Pair) (row : ℕ) (ns : List ℕ) (i d : ℕ) (all : Option (List Pair)) → i < length ns
    → with_front found (paired (Some row) (drop i ns)) ≡ all → with_front (found ++ record { row = row; num = get_or ns i d } ∷ []) (paired None (drop (i + 1) ns)) ≡ all
paired-second found row ns i d all less so =
    sym (with_front-pair found row (get_or ns i d) (paired None (drop (i + 1) ns))) ∙ (ap (λ l. with_front found (paired (Some row) l)) (sym (drop-next i ns d less)) ∙ so)
