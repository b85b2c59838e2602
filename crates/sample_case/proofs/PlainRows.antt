-- Lines of names are read back as they were written.
use Rattle.std.proofs.Common.{◌≡◌, ◌≤◌, ◌<◌, ◌+◌, ◌∙◌, refl, sym, ap, ap₂, ℕ, zero, suc, Bool, true, false, ◌==◌, List, [], ◌∷◌, ◌++◌, length, Some, append_assoc, length-append, arith}
use Rattle.std.specs.Prelude.{flat_map}
use Rattle.std.specs.List.{list_all, list_any}
use Rattle.std.proofs.lemmas.Bool.{eqb-true}
use Rattle.csv.specs.Machine.{next_record}
use Rattle.csv.specs.Reading.{default_config, records, records_from, records_next}
use Rattle.csv.specs.Writing.{default_writer, field_text, fields_text, is_blank, needs_byte, row_text}
use Rattle.csv.specs.declared.parser.State.TheVariants as st
use Rattle.csv.proofs.RoundTrip.{read-write-many}
use Rattle.ras_table.specs.Names.{is_name, is_name_byte}
use Rattle.plan_model.proofs.CaseFacts.{and-left, and-right}
use Rattle.sample_case.specs.Lines.{fields_after, line_text, are_names}

-- a byte of a name is no byte that is in none
not-mark : (b c : ℕ) → is_name_byte b ≡ true → is_name_byte c ≡ false → (b == c) ≡ false
not-mark b c named unnamed = by (b == c) refl
  where
    clash : true ≡ false → (b == c) ≡ false
    clash e = cc

    by : (t : Bool) → (b == c) ≡ t → (b == c) ≡ false
    by true e = clash (sym named ∙ ap is_name_byte (eqb-true b c e) ∙ unnamed)
    by false e = e

plain-byte : (b : ℕ) → is_name_byte b ≡ true → needs_byte default_writer b ≡ false
plain-byte b h = rw (not-mark b 44 h refl, not-mark b 34 h refl, not-mark b 13 h refl, not-mark b 10 h refl) refl

plain : (xs : List ℕ) → list_all is_name_byte xs ≡ true → list_any (needs_byte default_writer) xs ≡ false
plain [] h = refl
plain (x ∷ xs) h = rw (plain-byte x (and-left (is_name_byte x) (list_all is_name_byte xs) h), plain xs (and-right (is_name_byte x) (list_all is_name_byte xs) h)) refl

name-text : (xs : List ℕ) → is_name xs ≡ true → field_text default_writer xs ≡ xs
name-text xs h = let few : list_any (needs_byte default_writer) xs ≡ false = plain xs (and-right _ _ h) in rw few refl

names-text : (fields : List (List ℕ)) → list_all is_name fields ≡ true → fields_text default_writer fields ++ 10 ∷ [] ≡ fields_after fields
unfolding fields_text
names-text [] h = refl
names-text (field ∷ fields) h =
    ap (λ xs. 44 ∷ xs)
    (append_assoc (field_text default_writer field) (fields_text default_writer fields) (10 ∷ [])
    ∙ ap₂ (λ xs ys. xs ++ ys) (name-text field (and-left _ _ h)) (names-text fields (and-right _ _ h)))

line-written : (fields : List (List ℕ)) → are_names fields ≡ true → row_text default_writer fields ≡ line_text fields
unfolding is_blank
line-written [] h = absurd cc
line-written (field ∷ []) h = absurd cc
line-written (field ∷ next ∷ fields) h =
    append_assoc (field_text default_writer field) (fields_text default_writer (next ∷ fields)) (10 ∷ [])
    ∙ ap₂ (λ xs ys. xs ++ ys) (name-text field (and-left _ _ h)) (names-text (next ∷ fields) (and-right _ _ h))

-- a line is read back
line-back : (fields : List (List ℕ)) (tail : List ℕ) → are_names fields ≡ true
    → next_record default_config st.StartRecord [] [] (line_text fields ++ tail) ≡ Some (fields, st.StartRecord, tail)
line-back [] tail h = absurd cc
line-back (field ∷ []) tail h = absurd cc
line-back (field ∷ next ∷ fields) tail h =
    ap (λ xs. next_record default_config st.StartRecord [] [] (xs ++ tail)) (sym (line-written (field ∷ next ∷ fields) h))
    ∙ read-write-many field next fields tail

after-line : (fields : List (List ℕ)) → 1 ≤ length (fields_after fields)
after-line [] = omega arith
after-line (field ∷ fields) = omega arith

line-length : (fields : List (List ℕ)) → 1 ≤ length (line_text fields)
line-length [] = omega arith
line-length (field ∷ fields) = omega (arith, length-append field (fields_after fields), after-line fields)

lines-length : (rows : List (List (List ℕ))) → length rows ≤ length (flat_map line_text rows)
lines-length [] = omega arith
lines-length (row ∷ rows) = omega (arith, length-append (line_text row) (flat_map line_text rows), line-length row, lines-length rows)

-- so are lines
lines-read : (n : ℕ) (rows : List (List (List ℕ))) → length rows < n → list_all are_names rows ≡ true
    → records_from default_config n st.StartRecord (flat_map line_text rows) ≡ rows
unfolding records_from next_record
lines-read zero rows few h = absurd (omega (arith, few))
lines-read (suc n) [] few h = refl
lines-read (suc n) (row ∷ rows) few h =
    ap (records_next (records_from default_config n)) (line-back row (flat_map line_text rows) (and-left _ _ h))
    ∙ ap (λ rest. row ∷ rest) (lines-read n rows (omega (arith, few)) (and-right _ _ h))

pub lines-back : (rows : List (List (List ℕ))) → list_all are_names rows ≡ true → records default_config (flat_map line_text rows) ≡ rows
lines-back rows h = lines-read (length (flat_map line_text rows) + 1) rows (omega (arith, lines-length rows)) h
