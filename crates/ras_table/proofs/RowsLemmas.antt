-- What the loops over the columns of a row keep.
use Rattle.std.proofs.Common.{ℕ, suc, ◌+◌, ◌-◌, ◌*◌, ◌<◌, ◌≤◌, ◌≡◌, ◌∙◌, sym, ap, refl, Bool, true, false, cond, ◌&&◌, ◌==◌, nat_le, List, [], ◌∷◌, ◌++◌, length, drop, get_or, Option, Some, None, option_map, Result, Ok, Err, arith, map, Bor, drop-cons, add-one, if◌then◌else◌, append_assoc}
use Rattle.std.specs.List.{list_all}
use Rattle.std.specs.Str.{bytes_eq}
use Rattle.std.proofs.lemmas.Bool.Decides.{nat_tests}
use Rattle.ras_table.specs.Names.{is_name}
use Rattle.ras_table.specs.Rows.{is_of_kind, are_of_kinds, row_of, are_texts, spelled, is_digit, whole_of, cell_of, with_cell, cells_from}
use Rattle.ras_table.specs.declared.rows.Kind.{Kind}
use Rattle.ras_table.specs.declared.rows.Kind.TheVariants as kind
use Rattle.ras_table.specs.declared.rows.Cell.{Cell}
use Rattle.ras_table.specs.declared.rows.Cell.TheVariants as cell
use Rattle.ras_table.specs.declared.rows.RowFault.{RowFault}
use Rattle.ras_table.specs.declared.rows.RowFault.TheVariants as fault

spelled-grows : (v : ℕ) (ds : List ℕ) → v ≤ spelled v ds
spelled-grows v [] = omega arith
spelled-grows v (d ∷ ds) = let more = spelled-grows (10 * v + (d - 48)) ds in omega (arith, more)

and-false : (a : Bool) → (a && false) ≡ false
and-false true = refl
and-false false = refl

nat_le-false : (a b : ℕ) → b < a → nat_le a b ≡ false
nat_le-false a b h = grind arith

-- a number that is too large already stays so
pub stops : (most v i : ℕ) (field : List ℕ) → i < length field → spelled v (drop i field) ≡ spelled 0 field → most < 10 * v + (get_or field i 0 - 48)
    → whole_of most field ≡ None
stops most v i field within same large =
    let split : drop i field ≡ get_or field i 0 ∷ drop (suc i) field = drop-cons field i 0 within in
    let next : spelled (10 * v + (get_or field i 0 - 48)) (drop (suc i) field) ≡ spelled 0 field = sym (ap (spelled v) split) ∙ same in
    let more : 10 * v + (get_or field i 0 - 48) ≤ spelled 0 field = rw next at (spelled-grows (10 * v + (get_or field i 0 - 48)) (drop (suc i) field)) in
    let no : nat_le (spelled 0 field) most ≡ false = nat_le-false (spelled 0 field) most (omega (arith, more, large)) in
    rw (no, and-false (nat_le 1 (length field) && nat_le (length field) 20 && list_all is_digit field)) refl

-- the cells so far, before those to come
abbrev pub with_front : List Cell → Result (List Cell) RowFault → Result (List Cell) RowFault
with_front cells (Ok more) = Ok (cells ++ more)
with_front cells (Err f) = Err f

pub cells_from-drop : (place i : ℕ) (kinds : List Kind) (fields : List (List ℕ)) (k : Kind) (f : List ℕ) → i < length kinds → i < length fields
    → cells_from place (drop i kinds) (drop i fields) ≡ with_cell (cell_of (get_or kinds i k) (get_or fields i f)) place (cells_from (place + 1) (drop (i + 1) kinds) (drop (i + 1) fields))
cells_from-drop place i kinds fields k f a b = rw (drop-cons kinds i k a, drop-cons fields i f b, add-one i) refl

pub with_front-cell : (cells : List Cell) (c : Cell) (place : ℕ) (rest : Result (List Cell) RowFault)
    → with_front cells (with_cell (Some c) place rest) ≡ with_front (cells ++ c ∷ []) rest
with_front-cell cells c place (Ok more) = ap Ok (sym (append_assoc cells (c ∷ []) more))
with_front-cell cells c place (Err f) = refl

-- the loop's fact goes on by one cell
pub front-goes : (place i : ℕ) (kinds : List Kind) (fields : List (List ℕ)) (k : Kind) (f : List ℕ) (cells : List Cell) (c : Cell) (all : Result (List Cell) RowFault)
    → i < length kinds → i < length fields → with_front cells (cells_from place (drop i kinds) (drop i fields)) ≡ all → Some c ≡ cell_of (get_or kinds i k) (get_or fields i f)
    → with_front (cells ++ c ∷ []) (cells_from (place + 1) (drop (i + 1) kinds) (drop (i + 1) fields)) ≡ all
front-goes place i kinds fields k f cells c all a b so is =
    let e = cells_from-drop place i kinds fields k f a b in
    let g = ap (with_front cells) (e ∙ ap (λ o. with_cell o place (cells_from (place + 1) (drop (i + 1) kinds) (drop (i + 1) fields))) (sym is)) in
    sym (with_front-cell cells c place (cells_from (place + 1) (drop (i + 1) kinds) (drop (i + 1) fields))) ∙ sym g ∙ so

-- and a cell outside its kind is the first fault
pub front-stops : (place i : ℕ) (kinds : List Kind) (fields : List (List ℕ)) (k : Kind) (f : List ℕ) (cells : List Cell) (all : Result (List Cell) RowFault)
    → i < length kinds → i < length fields → with_front cells (cells_from place (drop i kinds) (drop i fields)) ≡ all → None ≡ cell_of (get_or kinds i k) (get_or fields i f)
    → all ≡ Err (fault.Bad place)
front-stops place i kinds fields k f cells all a b so is =
    let e = cells_from-drop place i kinds fields k f a b in
    let g = ap (with_front cells) (e ∙ ap (λ o. with_cell o place (cells_from (place + 1) (drop (i + 1) kinds) (drop (i + 1) fields))) (sym is)) in
    sym so ∙ g

heads-split : (i : ℕ) (fields : List (List ℕ)) (heads : List (Bor (List ℕ))) (f : List ℕ) (h : Bor (List ℕ)) → i < length fields → i < length heads
    → are_texts (drop i fields) (map (λ h. h.now) (drop i heads)) ≡ (bytes_eq (get_or fields i f) (get_or heads i h).now && are_texts (drop (i + 1) fields) (map (λ h. h.now) (drop (i + 1) heads)))
heads-split i fields heads f h a b = rw (drop-cons fields i f a, drop-cons heads i h b, add-one i) refl

-- one text that is the head of its column, and one that is not
pub heads-go : (i : ℕ) (fields : List (List ℕ)) (heads : List (Bor (List ℕ))) (f : List ℕ) (h : Bor (List ℕ)) (all : Bool) → i < length fields → i < length heads
    → are_texts (drop i fields) (map (λ h. h.now) (drop i heads)) ≡ all → bytes_eq (get_or fields i f) (get_or heads i h).now ≡ true
    → are_texts (drop (i + 1) fields) (map (λ h. h.now) (drop (i + 1) heads)) ≡ all
heads-go i fields heads f h all a b so same = rw same at (sym (heads-split i fields heads f h a b)) ∙ so

pub heads-stop : (i : ℕ) (fields : List (List ℕ)) (heads : List (Bor (List ℕ))) (f : List ℕ) (h : Bor (List ℕ)) (all : Bool) → i < length fields → i < length heads
    → are_texts (drop i fields) (map (λ h. h.now) (drop i heads)) ≡ all → bytes_eq (get_or fields i f) (get_or heads i h).now ≡ false → false ≡ all
heads-stop i fields heads f h all a b so other = rw other at (sym (heads-split i fields heads f h a b)) ∙ so

-- a whole number that is read is small enough
whole-most : (most : ℕ) (f : List ℕ) (n : ℕ) → whole_of most f ≡ Some n → nat_le n most ≡ true
whole-most most f n e = by (nat_le 1 (length f) && nat_le (length f) 20 && list_all is_digit f) (nat_le (spelled 0 f) most) refl e
  where
    by : (a b : Bool) → nat_le (spelled 0 f) most ≡ b → (if a && b then Some (spelled 0 f) else None) ≡ Some n → nat_le n most ≡ true
    by true true x e = let same : spelled 0 f ≡ n = cc in rw (← same) x
    by true false x e = absurd cc
    by false b x e = absurd cc

cell-of-kind : (k : Kind) (f : List ℕ) (c : Cell) → cell_of k f ≡ Some c → is_of_kind k c ≡ true
cell-of-kind kind.Name f c e = by (is_name f) e
  where
    by : (b : Bool) → (if b then Some (cell.Name f) else None) ≡ Some c → is_of_kind kind.Name c ≡ true
    by true e = let same : cell.Name f ≡ c = cc in rw (← same) refl
    by false e = absurd cc
cell-of-kind (kind.Whole most) f c e = by (whole_of most f) refl e
  where
    by : (o : Option ℕ) → whole_of most f ≡ o → option_map (λ n. cell.Whole n) o ≡ Some c → is_of_kind (kind.Whole most) c ≡ true
    by None x e = absurd cc
    by (Some n) x e = let same : cell.Whole n ≡ c = cc in rw (← same) (whole-most most f n x)
cell-of-kind kind.Flag f c e = by (bytes_eq f (48 ∷ [])) (bytes_eq f (49 ∷ [])) e
  where
    by : (a b : Bool) → (if a then Some (cell.Flag false) else if b then Some (cell.Flag true) else None) ≡ Some c → is_of_kind kind.Flag c ≡ true
    by true b e = let same : cell.Flag false ≡ c = cc in rw (← same) refl
    by false true e = let same : cell.Flag true ≡ c = cc in rw (← same) refl
    by false false e = absurd cc
cell-of-kind kind.NameOrNone f c e = by (length f == 0) (is_name f) e
  where
    by : (a b : Bool) → (if a then Some cell.Nothing else if b then Some (cell.Name f) else None) ≡ Some c → is_of_kind kind.NameOrNone c ≡ true
    by true b e = let same : cell.Nothing ≡ c = cc in rw (← same) refl
    by false true e = let same : cell.Name f ≡ c = cc in rw (← same) refl
    by false false e = absurd cc

cells-of-kinds : (place : ℕ) (kinds : List Kind) (fields : List (List ℕ)) (cells : List Cell) → length fields ≡ length kinds → cells_from place kinds fields ≡ Ok cells → are_of_kinds kinds cells ≡ true
cells-of-kinds place [] fields cells same is = let none : [] ≡ cells = cc in rw (← none) refl
cells-of-kinds place (k ∷ kinds) [] cells same is = absurd (omega arith)
cells-of-kinds place (k ∷ kinds) (f ∷ fields) cells same is =
    by (cell_of k f) refl (cells_from (place + 1) kinds fields) refl is (λ rest. cells-of-kinds (place + 1) kinds fields rest (omega arith))
  where
    by : (o : Option Cell) → cell_of k f ≡ o → (r : Result (List Cell) RowFault) → cells_from (place + 1) kinds fields ≡ r → with_cell o place r ≡ Ok cells
        → ((rest : List Cell) → cells_from (place + 1) kinds fields ≡ Ok rest → are_of_kinds kinds rest ≡ true) → are_of_kinds (k ∷ kinds) cells ≡ true
    by None x r y e more = absurd cc
    by (Some c) x (Err fault) y e more = absurd cc
    by (Some c) x (Ok rest) y e more =
        let same : c ∷ rest ≡ cells = cc in
        rw (← same, cell-of-kind k f c x, more rest y) refl

-- the cells of a row are of their kinds
pub row-of-kinds : (kinds : List Kind) (fields : List (List ℕ)) (cells : List Cell) → row_of kinds fields ≡ Ok cells → are_of_kinds kinds cells ≡ true
row-of-kinds kinds fields cells is = by (length fields == length kinds) refl is
  where
    by : (b : Bool) → (length fields == length kinds) ≡ b → (if b then cells_from 1 kinds fields else Err (fault.Columns (length fields))) ≡ Ok cells → are_of_kinds kinds cells ≡ true
    by true x e = cells-of-kinds 1 kinds fields cells (grind (arith, nat_tests)) e
    by false x e = absurd cc

-- the first cell of cells of their kinds
pub first-of-kind : (k : Kind) (kinds : List Kind) (cells : List Cell) → are_of_kinds (k ∷ kinds) cells ≡ true
    → (c : Cell) × (rest : List Cell) × (cells ≡ c ∷ rest) × (is_of_kind k c ≡ true) × (are_of_kinds kinds rest ≡ true)
first-of-kind k kinds [] h = absurd cc
first-of-kind k kinds (c ∷ rest) h = (c, rest, refl, and-left (is_of_kind k c) (are_of_kinds kinds rest) h, and-right (is_of_kind k c) (are_of_kinds kinds rest) h)
  where
    and-left : (a b : Bool) → (a && b) ≡ true → a ≡ true
    and-left true b e = refl
    and-left false b e = absurd cc

    and-right : (a b : Bool) → (a && b) ≡ true → b ≡ true
    and-right true b e = e
    and-right false b e = absurd cc
