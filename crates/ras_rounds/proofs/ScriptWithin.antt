-- The entries of a script are of servers that the region has.
use Rattle.std.proofs.Common.{◌≡◌, ℕ, ◌+◌, ◌≤◌, ◌∙◌, Bool, true, false, cond, List, [], ◌∷◌, ◌++◌, length, sym, ap, refl, subst, arith, Option, Some, None, Result, Ok, Err}
use Rattle.std.specs.Prelude.{nat_le, ◌&&◌, ◌==◌, slice_get, IfOk}
use Rattle.std.specs.List.{list_all}
use Rattle.std.specs.Option.{option_map}
use Rattle.std.proofs.lemmas.Bool.Decides.{nat_tests}
use Rattle.std.proofs.lemmas.List.{length-map}
use Rattle.std.proofs.lemmas.List.Recursion.{and_push}
use Rattle.ras_table.specs.Answers.{Gives}
use Rattle.ras_table.specs.declared.rows.Cell.{Cell}
use Rattle.ras_table.specs.declared.rows.Cell.TheVariants as cell
use Rattle.ras_table.specs.declared.rows.RowFault.{RowFault}
use Rattle.ras_table.specs.declared.rows.RowFault.TheVariants as fault
use Rattle.ras_table.specs.Rows.{row_of, are_texts, spelled, cell_of, with_cell, cells_from}
use Rattle.ras_table.specs.Records.{records_of}
use Rattle.ras_inventory.specs.declared.server.Server.{Server}
use Rattle.ras_inventory.specs.RegionRule.{server_names}
use Rattle.online_mover.specs.declared.stands.Event.{Event}
use Rattle.online_mover.specs.declared.fault.EventsWhy.{EventsWhy}
use Rattle.online_mover.specs.declared.fault.EventsWhy.TheVariants.{Head}
use Rattle.online_mover.specs.Events.{event_within}
use Rattle.online_mover.specs.EventRows.{event_in, whole_in}
use Rattle.online_mover.proofs.EventsWithin.{event_in-within}
use Rattle.online_mover.proofs.Given.{none-some, some-same}
use Rattle.ras_rounds.specs.declared.entries.Entry.{Entry}
use Rattle.ras_rounds.specs.declared.fault.ScriptFault.{ScriptFault}
use Rattle.ras_rounds.specs.declared.fault.ScriptFault.TheVariants.{At}
use Rattle.ras_rounds.specs.EntryRows.{kinds, heads, broken_rule, unless_broken, with_event, entry_of}
use Rattle.ras_rounds.specs.Scripts.{told, numbered, entry_in, entry_at, and_then, script_from, script_in, script_of}

-- the round of a row is at most 100
first-whole : (most : ℕ) (b : Bool) (n : ℕ) (c : Cell) → (b ≡ true → n ≤ most) → option_map (λ m. cell.Whole m) (cond b (Some n) None) ≡ Some c → whole_in (Some c) ≤ most
first-whole most true n c small h = subst (λ (x : Cell). whole_in (Some x) ≤ most) (some-same (cell.Whole n) c h) (small refl)
first-whole most false n c small h = absurd (none-some c h)

and-second : (a b : Bool) → (a && b) ≡ true → b ≡ true
and-second true b h = h
and-second false b h = cc

le-of : (m n : ℕ) → nat_le m n ≡ true → m ≤ n
le-of m n h = grind (arith, nat_tests, h)

cell-range : (most : ℕ) (field : List ℕ) (c : Cell) → cell_of (Rattle.ras_table.specs.declared.rows.Kind.TheVariants.Whole most) field ≡ Some c → whole_in (Some c) ≤ most
cell-range most field c h =
    first-whole most _ (spelled 0 field) c (λ e. le-of (spelled 0 field) most (and-second _ _ e)) h

small-whole : (o : Option Cell) → ((c : Cell) → o ≡ Some c → whole_in (Some c) ≤ 100) → whole_in o ≤ 100
small-whole None k = omega arith
small-whole (Some c) k = k c refl

err-cells : (e : RowFault) (x : List Cell) → ◌≡◌ {A = Result (List Cell) RowFault} (Err e) (Ok x) → ⊥
err-cells e x h = cc

ok-cells : (x y : List Cell) → ◌≡◌ {A = Result (List Cell) RowFault} (Ok x) (Ok y) → x ≡ y
ok-cells x y h = cc

with_cell-first : (o : Option Cell) (place : ℕ) (rest : Result (List Cell) RowFault) (cells : List Cell) → with_cell o place rest ≡ Ok cells → slice_get cells 0 ≡ o
with_cell-first None place rest cells h = absurd (err-cells _ cells h)
with_cell-first (Some c) place (Ok more) cells h = sym (ap (λ (xs : List Cell). slice_get xs 0) (ok-cells _ _ h))
with_cell-first (Some c) place (Err f) cells h = absurd (err-cells f cells h)

pub round-range : (fields : List (List ℕ)) (cells : List Cell) → row_of kinds fields ≡ Ok cells → whole_in (slice_get cells 0) ≤ 100
round-range [] cells h = absurd (err-cells _ cells h)
round-range (f ∷ fields) cells h = by (length (f ∷ fields) == 3) h
  where
    by : (b : Bool) → ◌≡◌ {A = Result (List Cell) RowFault} (cond b (cells_from 1 kinds (f ∷ fields)) (Err (fault.Columns (length (f ∷ fields))))) (Ok cells) → whole_in (slice_get cells 0) ≤ 100
    by false k = absurd (err-cells _ cells k)
    by true k =
        let first = with_cell-first (cell_of (Rattle.ras_table.specs.declared.rows.Kind.TheVariants.Whole 100) f) 1 _ cells k in
        subst (λ (o : Option Cell). whole_in o ≤ 100) (sym first) (small-whole _ (λ c e. cell-range 100 f c e))

pub round-gives : (fields : List (List ℕ)) (cells : List Cell) (r : Result (List Cell) RowFault) → row_of kinds fields ≡ r → r ≡ Ok cells → whole_in (slice_get cells 0) ≤ 100
round-gives fields cells r h e = round-range fields cells (h ∙ e)

err-ok : {T E : Type 0} (e : E) (x : T) → ◌≡◌ {A = Result T E} (Err e) (Ok x) → ⊥
err-ok e x h = cc

ok-same : {T E : Type 0} (x y : T) → ◌≡◌ {A = Result T E} (Ok x) (Ok y) → x ≡ y
ok-same x y h = cc

unless-within : (n : ℕ) (t entry : Entry) (o : Option EventsWhy) → event_within n t.event ≡ true → unless_broken t o ≡ Ok entry → event_within n entry.event ≡ true
unless-within n t entry None here h = sym (ap (λ (x : Entry). event_within n x.event) (ok-same {T = Entry} {E = EventsWhy} t entry h)) ∙ here
unless-within n t entry (Some w) here h = absurd (err-ok {T = Entry} {E = EventsWhy} w entry h)

with_event-within : (n : ℕ) (before : List Entry) (round : ℕ) (r : Result Event EventsWhy) (entry : Entry) → ((e : Event) → r ≡ Ok e → event_within n e ≡ true)
    → with_event before round r ≡ Ok entry → event_within n entry.event ≡ true
with_event-within n before round (Err w) entry k h = absurd (err-ok {T = Entry} {E = EventsWhy} w entry h)
with_event-within n before round (Ok e) entry k h = unless-within n (record { round = round; event = e }) entry (broken_rule before round) (k e refl) h

numbered-same : (number : ℕ) (r : Result Entry EventsWhy) (entry : Entry) → numbered number r ≡ Ok entry → r ≡ Ok entry
numbered-same number (Ok t) entry h = ap Ok (ok-same {T = Entry} {E = ScriptFault} t entry h)
numbered-same number (Err w) entry h = absurd (err-ok {T = Entry} {E = ScriptFault} _ entry h)

entry_in-within : (names : List (List ℕ)) (number : ℕ) (before : List Entry) (row : Result (List Cell) RowFault) (entry : Entry)
    → entry_in names number before row ≡ Ok entry → event_within (length names) entry.event ≡ true
entry_in-within names number before (Ok cells) entry h =
    with_event-within (length names) before (whole_in (slice_get cells 0)) (event_in names cells) entry (event_in-within names cells)
    (numbered-same number (entry_of names before cells) entry h)
entry_in-within names number before (Err f) entry h = absurd (err-ok {T = Entry} {E = ScriptFault} _ entry h)

abbrev AreWithin : ℕ → List Entry → Type 0
AreWithin n entries = list_all (λ (entry : Entry). event_within n entry.event) entries ≡ true

push-within : (n : ℕ) (entries : List Entry) (entry : Entry) → AreWithin n entries → event_within n entry.event ≡ true → AreWithin n (entries ++ entry ∷ [])
push-within n entries entry all here =
    and_push (list_all (λ (t : Entry). event_within n t.event)) (λ (t : Entry). event_within n t.event) refl (λ _ _. refl) entries entry
    ∙ ap (λ b. b && event_within n entry.event) all ∙ here

from-within : (names : List (List ℕ)) (number : ℕ) (before : List Entry) (records : List (List (List ℕ))) (entries : List Entry)
    → AreWithin (length names) before → script_from names number before records ≡ Ok entries → AreWithin (length names) entries
from-within names number before [] entries all h = subst (λ (xs : List Entry). AreWithin (length names) xs) (ok-same {T = List Entry} {E = ScriptFault} before entries h) all
from-within names number before (fields ∷ records) entries all h =
    one (entry_at names number before fields) refl h (λ entry here k. from-within names (number + 1) (before ++ entry ∷ []) records entries (push-within (length names) before entry all here) k)
  where
    one : (r : Result Entry ScriptFault) → entry_at names number before fields ≡ r
        → and_then r (λ entry. script_from names (number + 1) (before ++ entry ∷ []) records) ≡ Ok entries
        → ((entry : Entry) → event_within (length names) entry.event ≡ true → script_from names (number + 1) (before ++ entry ∷ []) records ≡ Ok entries → AreWithin (length names) entries)
        → AreWithin (length names) entries
    one (Ok entry) is k more = more entry (entry_in-within names number before (row_of kinds fields) entry is) k
    one (Err f) is k more = absurd (err-ok {T = List Entry} {E = ScriptFault} f entries k)

in-within : (names : List (List ℕ)) (records : List (List (List ℕ))) (entries : List Entry) → script_in names records ≡ Ok entries → AreWithin (length names) entries
in-within names [] entries h = absurd (err-ok {T = List Entry} {E = ScriptFault} _ entries h)
in-within names (head ∷ records) entries h = by (are_texts head heads) h
  where
    by : (b : Bool) → ◌≡◌ {A = Result (List Entry) ScriptFault} (cond b (script_from names 2 [] records) (Err (At 1 Head))) (Ok entries) → AreWithin (length names) entries
    by true k = from-within names 2 [] records entries refl k
    by false k = absurd (err-ok {T = List Entry} {E = ScriptFault} _ entries k)

pub read-within : (servers : List Server) (bytes : List ℕ) (entries : List Entry) → script_of (server_names servers) bytes ≡ Ok entries
    → list_all (λ (entry : Entry). event_within (length servers) entry.event) entries ≡ true
read-within servers bytes entries h =
    subst (λ (n : ℕ). AreWithin n entries) (length-map servers (λ s. s.name)) (in-within (server_names servers) (records_of bytes) entries h)

pub gives-within : (servers : List Server) (bytes : List ℕ) (r : Result (List Entry) ScriptFault) → Gives (λ (entries : List Entry). entries) told r (script_of (server_names servers) bytes)
    → IfOk r (λ entries. list_all (λ (entry : Entry). event_within (length servers) entry.event) entries ≡ true)
gives-within servers bytes (Ok entries) h = read-within servers bytes entries h
gives-within servers bytes (Err f) h = tt
