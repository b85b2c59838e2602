-- The records that a reader reached are all the records of its text.
use Rattle.std.proofs.Common.{ℕ, zero, suc, ◌+◌, ◌-◌, ◌<◌, ◌≤◌, ◌≡◌, ◌∙◌, sym, ap, refl, subst, Bool, true, false, cond, ◌&&◌, ◌||◌, ◌==◌, List, [], ◌∷◌, ◌++◌, length, take, drop, Option, Some, None, arith, add-one, if◌then◌else◌}
use Rattle.csv.specs.Machine.{next_record, Read, step, ends_at_end, is_end, in_field, start_field, start_record, fields_after, field_after, after_end, ends_with, is_byte}
use Rattle.csv.specs.Reading.{Reached, records, records_from, records_next, default_config}
use Rattle.csv.specs.Records.{field_at, fields_of, cut_from, Row}
use Rattle.csv.specs.declared.parser.State.{State}
use Rattle.csv.specs.declared.parser.State.TheVariants as st
use Rattle.csv.specs.declared.parser.Action.{Action}
use Rattle.csv.specs.declared.parser.Action.TheVariants as act

-- one more field, and one too many
pub take-found : (xs : List (List ℕ)) (i : ℕ) (f : List ℕ) → Some f ≡ field_at xs i → take (i + 1) xs ≡ take i xs ++ f ∷ []
unfolding field_at
take-found [] i f e = absurd cc
take-found (x ∷ xs) zero f e = let same : f ≡ x = cc in rw same refl
take-found (x ∷ xs) (suc i) f e = rw add-one (ap (λ l. x ∷ l) (rw add-one at (take-found xs i f e)))

pub take-none : (xs : List (List ℕ)) (i : ℕ) → None ≡ field_at xs i → take (i + 1) xs ≡ take i xs
unfolding field_at
take-none [] zero e = refl
take-none [] (suc i) e = rw add-one refl
take-none (x ∷ xs) zero e = absurd cc
take-none (x ∷ xs) (suc i) e = rw add-one (ap (λ l. x ∷ l) (rw add-one at (take-none xs i e)))

length-cut_from : (start : ℕ) (ends bytes : List ℕ) → length (cut_from start ends bytes) ≡ length ends
unfolding cut_from
length-cut_from start [] bytes = refl
length-cut_from start (end ∷ ends) bytes = ap suc (length-cut_from end ends bytes)

pub length-fields_of : (r : Row) → length (fields_of r) ≡ length r.ends
length-fields_of r = length-cut_from 0 r.ends r.bytes

-- ---- the records that were reached are all

field_step : Bool → Bool → Bool → State × Action
field_step a b d = if a then (st.StartField, act.EndField) else if b then ((if d then st.AfterCr else st.StartRecord), act.EndRecord) else (st.InField, act.Copy)

field-ends : (a b d : Bool) → is_end (field_step a b d).1 ≡ true → ends_at_end (field_step a b d).0 ≡ false
unfolding field_step
field-ends true b d h = absurd cc
field-ends false true true h = refl
field-ends false true false h = refl
field-ends false false d h = absurd cc

in_field-ends : (c : ℕ) → is_end (in_field default_config c).1 ≡ true → ends_at_end (in_field default_config c).0 ≡ false
unfolding field_step
in_field-ends c = field-ends (c == 44) ((c == 13) || (c == 10)) (c == 13)

-- a choice of a step that ends nothing, and of another
chosen-ends : (a : Bool) (one other : State × Action) → is_end one.1 ≡ false → (is_end other.1 ≡ true → ends_at_end other.0 ≡ false)
    → is_end (cond a one other).1 ≡ true → ends_at_end (cond a one other).0 ≡ false
chosen-ends true one other plain rest h = absurd cc
chosen-ends false one other plain rest h = rest h

start_field-ends : (c : ℕ) → is_end (start_field default_config c).1 ≡ true → ends_at_end (start_field default_config c).0 ≡ false
start_field-ends c = chosen-ends (c == 34) (st.InQuoted, act.Skip) (in_field default_config c) refl (in_field-ends c)

start_record-ends : (c : ℕ) → is_end (start_record default_config c).1 ≡ true → ends_at_end (start_record default_config c).0 ≡ false
start_record-ends c = chosen-ends ((c == 13) || (c == 10)) (st.StartRecord, act.Skip) (start_field default_config c) refl (start_field-ends c)

-- a byte that ends a record leaves a state in which the end of the text is no record
step-ends : (s : State) (c : ℕ) → is_end (step default_config s c).1 ≡ true → ends_at_end (step default_config s c).0 ≡ false
step-ends st.StartRecord c = start_record-ends c
step-ends st.StartField c = start_field-ends c
step-ends st.InField c = in_field-ends c
step-ends st.InQuoted c = chosen-ends (c == 34) (st.AfterQuote, act.Skip) (st.InQuoted, act.Copy) refl (λ h. absurd cc)
step-ends st.InEscape c = λ h. absurd cc
step-ends st.AfterQuote c = chosen-ends (c == 34) (st.InQuoted, act.Copy) (in_field default_config c) refl (in_field-ends c)
step-ends st.InComment c = chosen-ends (c == 10) (st.StartRecord, act.Skip) (st.InComment, act.Skip) refl (λ h. absurd cc)
step-ends st.AfterCr c = chosen-ends (c == 10) (st.StartRecord, act.Skip) (start_record default_config c) refl (start_record-ends c)

-- what a record leaves: a shorter text, and such a state
pub record Leaves (xs : List ℕ) (p : Read) : Type 0 where
  pub shorter : length p.2 ≤ length xs - 1
  pub between : ends_at_end p.1 ≡ false

pub leaves : (xs : List ℕ) (s : State) (fields : List (List ℕ)) (field : List ℕ) (p : Read) → next_record default_config s fields field xs ≡ Some p → Leaves xs p
unfolding next_record
leaves [] s fields field p h = by (ends_at_end s) h
  where
    by : (b : Bool) → (if b then Some (fields ++ (field ∷ []), st.StartRecord, []) else None) ≡ Some p → Leaves [] p
    by true h = let is : p ≡ (fields ++ (field ∷ []), st.StartRecord, []) = cc in rw is (record { shorter = omega arith; between = refl })
    by false h = absurd cc
leaves (c ∷ rest) s fields field p h = by (is_end (step default_config s c).1) refl h (leaves rest (step default_config s c).0 (fields_after (step default_config s c).1 fields field) (field_after (step default_config s c).1 c field) p)
  where
    by : (b : Bool) → is_end (step default_config s c).1 ≡ b
        → cond b (Some (fields_after (step default_config s c).1 fields field, (step default_config s c).0, rest)) (next_record default_config (step default_config s c).0 (fields_after (step default_config s c).1 fields field) (field_after (step default_config s c).1 c field) rest) ≡ Some p
        → (next_record default_config (step default_config s c).0 (fields_after (step default_config s c).1 fields field) (field_after (step default_config s c).1 c field) rest ≡ Some p → Leaves rest p)
        → Leaves (c ∷ rest) p
    by true e h more = let is : p ≡ (fields_after (step default_config s c).1 fields field, (step default_config s c).0, rest) = cc in
        rw is (record { shorter = omega arith; between = step-ends s c e })
    by false e h more = let l = more h in record { shorter = omega (arith, l.shorter); between = l.between }

-- between records, a record takes a byte at least
pub left-shorter : (xs : List ℕ) (s : State) (p : Read) → ends_at_end s ≡ false → next_record default_config s [] [] xs ≡ Some p → length p.2 < length xs
unfolding next_record
left-shorter [] s p between h = absurd (by (ends_at_end s) between h)
  where
    by : (b : Bool) → b ≡ false → (if b then Some ([] ++ ([] ∷ []), st.StartRecord, []) else None) ≡ Some p → ⊥
    by true e f = cc
    by false e f = cc
left-shorter (c ∷ rest) s p between h = let l = leaves (c ∷ rest) s [] [] p h in omega (arith, l.shorter)

pub reached-all : (rows : List (List (List ℕ))) (n : ℕ) (s s2 : State) (xs ys : List ℕ) → ends_at_end s ≡ false → length xs < n
    → Reached default_config s xs rows s2 ys → next_record default_config s2 [] [] ys ≡ None → rows ≡ records_from default_config n s xs
unfolding Reached records_from next_record
reached-all rows zero s s2 xs ys between few h none = absurd (omega arith)
reached-all [] (suc n) s s2 xs ys between few h none = rw (h.0, h.1, none) refl
reached-all (r ∷ rs) (suc n) s s2 xs ys between few h none =
    let l = leaves xs s [] [] h.0 h.1 in
    let fewer = left-shorter xs s h.0 between h.1 in
    rw (h.1, h.2) (ap (λ l. h.0.0 ∷ l) (reached-all rs n h.0.1 s2 h.0.2 ys l.between (omega (arith, fewer, few)) h.3 none))
