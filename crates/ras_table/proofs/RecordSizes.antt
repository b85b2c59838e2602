-- Records of a text have no more fields, and no longer ones, than the text has bytes.
use Rattle.std.proofs.Common.{ℕ, zero, suc, ◌+◌, ◌<◌, ◌≤◌, ◌≡◌, refl, Bool, true, false, List, [], ◌∷◌, ◌++◌, length, get_or, Option, Some, None, arith, All, if◌then◌else◌, ap, sym}
use Rattle.std.proofs.lemmas.List.{length-append}
use Rattle.csv.specs.Machine.{next_record, Read, step, ends_at_end, is_end, fields_after, field_after}
use Rattle.csv.specs.Reading.{Reached, default_config, is_bom, strip_bom}
use Rattle.csv.specs.Records.{field_at}
use Rattle.csv.specs.declared.parser.State.{State}
use Rattle.csv.specs.declared.parser.State.TheVariants as st
use Rattle.csv.specs.declared.parser.Action.{Action}
use Rattle.csv.specs.declared.parser.Action.TheVariants as act
use Rattle.ras_table.proofs.RecordsLemmas.{leaves, left-shorter}

-- at most n fields, of at most m bytes each
pub record Sizes (m n : ℕ) (fields : List (List ℕ)) : Type 0 where
  pub few : length fields ≤ n
  pub short : All (λ f. length f ≤ m) fields

All-more : (m : ℕ) (fields : List (List ℕ)) (field : List ℕ) → All (λ f. length f ≤ m) fields → length field ≤ m → All (λ f. length f ≤ m) (fields ++ field ∷ [])
All-more m [] field short last zero d p = last
All-more m [] field short last (suc k) d p = absurd (omega (arith, p))
All-more m (f ∷ fs) field short last zero d p = short zero d (omega arith)
All-more m (f ∷ fs) field short last (suc k) d p =
    All-more m fs field (λ i e q. short (suc i) e (omega (arith, q))) last k d (omega (arith, p))

-- one field more
sizes-more : (m : ℕ) (fields : List (List ℕ)) (field : List ℕ) → All (λ f. length f ≤ m) fields → length field ≤ m → Sizes m (length fields + 1) (fields ++ field ∷ [])
sizes-more m fields field short last =
    let count = length-append fields (field ∷ []) in
    record { few = omega (arith, count); short = All-more m fields field short last }

weaker : (m n k : ℕ) (fields : List (List ℕ)) → n ≤ k → Sizes m n fields → Sizes m k fields
weaker m n k fields le sizes = record { few = omega (arith, le, sizes.few); short = sizes.short }

-- a read from fields and a field at hand, which have at most m bytes with those of the text
read-sizes : (m : ℕ) (xs : List ℕ) (s : State) (fields : List (List ℕ)) (field : List ℕ) (p : Read) → length field + length xs ≤ m → All (λ f. length f ≤ m) fields
    → next_record default_config s fields field xs ≡ Some p → Sizes m (length fields + length xs + 1) p.0
unfolding next_record
read-sizes m [] s fields field p few short h = by (ends_at_end s) h
  where
    by : (b : Bool) → (if b then Some (fields ++ (field ∷ []), st.StartRecord, []) else None) ≡ Some p → Sizes m (length fields + 0 + 1) p.0
    by true h =
        let is : p ≡ (fields ++ (field ∷ []), st.StartRecord, []) = cc in
        rw is (weaker m (length fields + 1) (length fields + 0 + 1) (fields ++ field ∷ []) (omega arith) (sizes-more m fields field short (omega (arith, few))))
    by false h = absurd cc
read-sizes m (c ∷ rest) s fields field p few short h =
    by (step default_config s c).1 (step default_config s c).0 h (λ t fs f q a e. read-sizes m rest t fs f p q a e)
  where
    by : (a : Action) (t : State)
        → (if is_end a then Some (fields_after a fields field, t, rest) else next_record default_config t (fields_after a fields field) (field_after a c field) rest) ≡ Some p
        → ((t : State) (fs : List (List ℕ)) (f : List ℕ) → length f + length rest ≤ m → All (λ f. length f ≤ m) fs → next_record default_config t fs f rest ≡ Some p → Sizes m (length fs + length rest + 1) p.0)
        → Sizes m (length fields + suc (length rest) + 1) p.0
    by act.EndRecord t h more =
        let is : p ≡ (fields ++ (field ∷ []), t, rest) = cc in
        rw is (weaker m (length fields + 1) (length fields + suc (length rest) + 1) (fields ++ field ∷ []) (omega arith) (sizes-more m fields field short (omega (arith, few))))
    by act.Skip t h more =
        weaker m (length fields + length rest + 1) (length fields + suc (length rest) + 1) p.0 (omega arith) (more t fields field (omega (arith, few)) short h)
    by act.Copy t h more =
        let size = length-append field (c ∷ []) in
        weaker m (length fields + length rest + 1) (length fields + suc (length rest) + 1) p.0 (omega arith) (more t fields (field ++ c ∷ []) (omega (arith, few, size)) short h)
    by act.EndField t h more =
        let size = length-append fields (field ∷ []) in
        weaker m (length (fields ++ field ∷ []) + length rest + 1) (length fields + suc (length rest) + 1) p.0 (omega (arith, size))
        (more t (fields ++ field ∷ []) [] (omega (arith, few)) (All-more m fields field short (omega (arith, few))) h)

-- the records that a text gave: no more than it had bytes, and each within the sizes
pub record AreSized (m : ℕ) (rows : List (List (List ℕ))) (xs ys : List ℕ) : Type 0 where
  pub count : length rows + length ys ≤ length xs
  pub each : All (Sizes m (m + 1)) rows

pub reached-sizes : (m : ℕ) (rows : List (List (List ℕ))) (s s2 : State) (xs ys : List ℕ) → ends_at_end s ≡ false → length xs ≤ m
    → Reached default_config s xs rows s2 ys → AreSized m rows xs ys
unfolding Reached
reached-sizes m [] s s2 xs ys between few h = let same = ap length h.1 in record { count = omega (arith, same); each = λ k d p. absurd (omega (arith, p)) }
reached-sizes m (r ∷ rs) s s2 xs ys between few h =
    let l = leaves xs s [] [] h.0 h.1 in
    let shorter = left-shorter xs s h.0 between h.1 in
    let first = read-sizes m xs s [] [] h.0 (omega (arith, few)) (λ k d p. absurd (omega (arith, p))) h.1 in
    let one = weaker m (0 + length xs + 1) (m + 1) h.0.0 (omega (arith, few)) first in
    let rest = reached-sizes m rs h.0.1 s2 h.0.2 ys l.between (omega (arith, shorter, few)) h.3 in
    record { count = omega (arith, shorter, rest.count); each = rw h.2 (All-first h.0.0 rs one rest.each) }
  where
    All-first : (x : List (List ℕ)) (xs : List (List (List ℕ))) → Sizes m (m + 1) x → All (Sizes m (m + 1)) xs → All (Sizes m (m + 1)) (x ∷ xs)
    All-first x xs one more zero d p = one
    All-first x xs one more (suc k) d p = more k d (omega (arith, p))

-- the record that was read last
pub last-sized : (m : ℕ) (rows : List (List (List ℕ))) (r : List (List ℕ)) → All (Sizes m (m + 1)) (rows ++ r ∷ []) → Sizes m (m + 1) r
last-sized m [] r all = all zero [] (omega arith)
last-sized m (x ∷ rows) r all = last-sized m rows r (λ k d p. all (suc k) d (omega (arith, p)))

-- a field of a record
pub field-short : (m : ℕ) (fields : List (List ℕ)) (i : ℕ) (f : List ℕ) → All (λ f. length f ≤ m) fields → Some f ≡ field_at fields i → length f ≤ m
unfolding field_at
field-short m [] i f short e = absurd cc
field-short m (x ∷ xs) zero f short e = let same : f ≡ x = cc in rw same (short zero [] (omega arith))
field-short m (x ∷ xs) (suc i) f short e = field-short m xs i f (λ k d p. short (suc k) d (omega (arith, p))) e

-- a mark that is dropped makes a text shorter
strip-short : (xs : List ℕ) → length (strip_bom xs) ≤ length xs
unfolding strip_bom
strip-short [] = omega arith
strip-short (a ∷ []) = omega arith
strip-short (a ∷ b ∷ []) = omega arith
strip-short (a ∷ b ∷ c ∷ rest) = by (is_bom a b c)
  where
    by : (t : Bool) → length (if t then rest else a ∷ b ∷ c ∷ rest) ≤ suc (suc (suc (length rest)))
    by true = omega arith
    by false = omega arith

pub text-short : (bytes : List ℕ) (m : ℕ) → length bytes ≤ m → length (strip_bom (strip_bom bytes)) ≤ m
text-short bytes m few = omega (arith, few, strip-short bytes, strip-short (strip_bom bytes))
