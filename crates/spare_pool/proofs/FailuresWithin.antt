-- The changes of a file of failures are to servers that the region has.
use Rattle.std.proofs.Common.{◌≡◌, ℕ, ◌+◌, ◌<◌, ◌∙◌, Bool, true, false, cond, List, [], ◌∷◌, ◌++◌, length, sym, ap, refl, subst, arith, Option, Some, None, Result, Ok, Err}
use Rattle.std.specs.Prelude.{nat_lt, ◌&&◌, IfOk, slice_get}
use Rattle.std.specs.List.{list_all}
use Rattle.std.specs.Option.{option_map}
use Rattle.std.specs.Str.{bytes_eq}
use Rattle.std.proofs.lemmas.Bool.Decides.{nat_tests}
use Rattle.std.proofs.lemmas.List.{length-map}
use Rattle.std.proofs.lemmas.List.Quantifiers.{position-Some}
use Rattle.std.proofs.lemmas.List.Recursion.{and_push}
use Rattle.ras_table.specs.declared.rows.Cell.{Cell}
use Rattle.ras_table.specs.declared.rows.Cell.TheVariants as cell
use Rattle.ras_table.specs.declared.rows.RowFault.{RowFault}
use Rattle.ras_table.specs.Answers.{Gives}
use Rattle.ras_table.specs.Rows.{row_of, are_texts}
use Rattle.ras_table.specs.Records.{records_of}
use Rattle.ras_inventory.specs.declared.server.Server.{Server}
use Rattle.ras_inventory.specs.RegionRule.{server_names}
use Rattle.spare_pool.specs.declared.standings.Change.{Change}
use Rattle.spare_pool.specs.declared.failure.Failure.{Failure}
use Rattle.spare_pool.specs.declared.failure.Word.{Word}
use Rattle.spare_pool.specs.declared.failure.Word.TheVariants as word
use Rattle.spare_pool.specs.declared.fault.FailuresFault.{FailuresFault}
use Rattle.spare_pool.specs.declared.fault.FailuresFault.TheVariants.{At}
use Rattle.spare_pool.specs.declared.fault.FailuresWhy.{FailuresWhy}
use Rattle.spare_pool.specs.declared.fault.FailuresWhy.TheVariants.{Head}
use Rattle.spare_pool.specs.Steps.{change_within}
use Rattle.spare_pool.specs.FailureRows.{kinds, heads, server_in, change_of, broken_rule, unless_broken, with_change, with_word, word_in, whole_in, failure_of}
use Rattle.spare_pool.specs.FailureFiles.{told, numbered, failure_in, failure_at, and_then, failures_from, failures_in, failures_of}

none-some : {X : Type 0} (x : X) → ◌≡◌ {A = Option X} None (Some x) → ⊥
none-some x h = cc

some-same : {X : Type 0} (x y : X) → ◌≡◌ {A = Option X} (Some x) (Some y) → x ≡ y
some-same x y h = cc

err-ok : {T E : Type 0} (e : E) (x : T) → ◌≡◌ {A = Result T E} (Err e) (Ok x) → ⊥
err-ok e x h = cc

ok-same : {T E : Type 0} (x y : T) → ◌≡◌ {A = Result T E} (Ok x) (Ok y) → x ≡ y
ok-same x y h = cc

server-within : (names : List (List ℕ)) (c : Option Cell) (s : ℕ) → server_in names c ≡ Some s → nat_lt s (length names) ≡ true
server-within names None s h = absurd (none-some s h)
server-within names (Some (cell.Name name)) s h =
    let within : s < length names = (position-Some (bytes_eq name) names s [] h).0 in
    grind (arith, nat_tests, within)
server-within names (Some (cell.Whole n)) s h = absurd (none-some s h)
server-within names (Some (cell.Flag b)) s h = absurd (none-some s h)
server-within names (Some cell.Nothing) s h = absurd (none-some s h)

change-within : (n : ℕ) (w : Word) (s : ℕ) → nat_lt s n ≡ true → change_within n (change_of w s) ≡ true
change-within n word.Fail s h = h
change-within n word.Repair s h = h

-- a change to a server of the region
mapped-within : (n : ℕ) (w : Word) (o : Option ℕ) (c : Change) → ((s : ℕ) → o ≡ Some s → nat_lt s n ≡ true) → option_map (change_of w) o ≡ Some c → change_within n c ≡ true
mapped-within n w None c k h = absurd (none-some c h)
mapped-within n w (Some s) c k h = sym (ap (change_within n) (some-same (change_of w s) c h)) ∙ change-within n w s (k s refl)

unless-within : (n : ℕ) (t failure : Failure) (o : Option FailuresWhy) → change_within n t.change ≡ true → unless_broken t o ≡ Ok failure → change_within n failure.change ≡ true
unless-within n t failure None here h = sym (ap (λ (x : Failure). change_within n x.change) (ok-same {T = Failure} {E = FailuresWhy} t failure h)) ∙ here
unless-within n t failure (Some w) here h = absurd (err-ok {T = Failure} {E = FailuresWhy} w failure h)

with_change-within : (n : ℕ) (before : List Failure) (at : ℕ) (o : Option Change) (failure : Failure) → ((c : Change) → o ≡ Some c → change_within n c ≡ true)
    → with_change before at o ≡ Ok failure → change_within n failure.change ≡ true
with_change-within n before at None failure k h = absurd (err-ok {T = Failure} {E = FailuresWhy} _ failure h)
with_change-within n before at (Some c) failure k h = unless-within n (record { at = at; change = c }) failure (broken_rule before at) (k c refl) h

with_word-within : (names : List (List ℕ)) (before : List Failure) (cells : List Cell) (o : Option Word) (failure : Failure)
    → with_word names before cells o ≡ Ok failure → change_within (length names) failure.change ≡ true
with_word-within names before cells None failure h = absurd (err-ok {T = Failure} {E = FailuresWhy} _ failure h)
with_word-within names before cells (Some w) failure h =
    with_change-within (length names) before (whole_in (slice_get cells 0)) (option_map (change_of w) (server_in names (slice_get cells 2))) failure
    (λ c k. mapped-within (length names) w (server_in names (slice_get cells 2)) c (λ s e. server-within names (slice_get cells 2) s e) k) h

numbered-same : (number : ℕ) (r : Result Failure FailuresWhy) (failure : Failure) → numbered number r ≡ Ok failure → r ≡ Ok failure
numbered-same number (Ok t) failure h = ap Ok (ok-same {T = Failure} {E = FailuresFault} t failure h)
numbered-same number (Err w) failure h = absurd (err-ok {T = Failure} {E = FailuresFault} _ failure h)

failure_in-within : (names : List (List ℕ)) (number : ℕ) (before : List Failure) (row : Result (List Cell) RowFault) (failure : Failure)
    → failure_in names number before row ≡ Ok failure → change_within (length names) failure.change ≡ true
failure_in-within names number before (Ok cells) failure h =
    with_word-within names before cells (word_in (slice_get cells 1)) failure (numbered-same number (failure_of names before cells) failure h)
failure_in-within names number before (Err f) failure h = absurd (err-ok {T = Failure} {E = FailuresFault} _ failure h)

abbrev AreWithin : ℕ → List Failure → Type 0
AreWithin n failures = list_all (λ (failure : Failure). change_within n failure.change) failures ≡ true

push-within : (n : ℕ) (failures : List Failure) (failure : Failure) → AreWithin n failures → change_within n failure.change ≡ true → AreWithin n (failures ++ failure ∷ [])
push-within n failures failure all here =
    and_push (list_all (λ (t : Failure). change_within n t.change)) (λ (t : Failure). change_within n t.change) refl (λ _ _. refl) failures failure
    ∙ ap (λ b. b && change_within n failure.change) all ∙ here

from-within : (names : List (List ℕ)) (number : ℕ) (before : List Failure) (records : List (List (List ℕ))) (failures : List Failure)
    → AreWithin (length names) before → failures_from names number before records ≡ Ok failures → AreWithin (length names) failures
from-within names number before [] failures all h = subst (λ (xs : List Failure). AreWithin (length names) xs) (ok-same {T = List Failure} {E = FailuresFault} before failures h) all
from-within names number before (fields ∷ records) failures all h =
    one (failure_at names number before fields) refl h (λ failure here k. from-within names (number + 1) (before ++ failure ∷ []) records failures (push-within (length names) before failure all here) k)
  where
    one : (r : Result Failure FailuresFault) → failure_at names number before fields ≡ r
        → and_then r (λ failure. failures_from names (number + 1) (before ++ failure ∷ []) records) ≡ Ok failures
        → ((failure : Failure) → change_within (length names) failure.change ≡ true → failures_from names (number + 1) (before ++ failure ∷ []) records ≡ Ok failures → AreWithin (length names) failures)
        → AreWithin (length names) failures
    one (Ok failure) is k more = more failure (failure_in-within names number before (row_of kinds fields) failure is) k
    one (Err f) is k more = absurd (err-ok {T = List Failure} {E = FailuresFault} f failures k)

in-within : (names : List (List ℕ)) (records : List (List (List ℕ))) (failures : List Failure) → failures_in names records ≡ Ok failures → AreWithin (length names) failures
in-within names [] failures h = absurd (err-ok {T = List Failure} {E = FailuresFault} _ failures h)
in-within names (head ∷ records) failures h = by (are_texts head heads) h
  where
    by : (b : Bool) → ◌≡◌ {A = Result (List Failure) FailuresFault} (cond b (failures_from names 2 [] records) (Err (At 1 Head))) (Ok failures) → AreWithin (length names) failures
    by true k = from-within names 2 [] records failures refl k
    by false k = absurd (err-ok {T = List Failure} {E = FailuresFault} _ failures k)

pub read-within : (servers : List Server) (bytes : List ℕ) (failures : List Failure) → failures_of (server_names servers) bytes ≡ Ok failures
    → list_all (λ (failure : Failure). change_within (length servers) failure.change) failures ≡ true
read-within servers bytes failures h =
    subst (λ (n : ℕ). AreWithin n failures) (length-map servers (λ s. s.name)) (in-within (server_names servers) (records_of bytes) failures h)

pub gives-within : (servers : List Server) (bytes : List ℕ) (r : Result (List Failure) FailuresFault) → Gives (λ (failures : List Failure). failures) told r (failures_of (server_names servers) bytes)
    → IfOk r (λ failures. list_all (λ (failure : Failure). change_within (length servers) failure.change) failures ≡ true)
gives-within servers bytes (Ok failures) h = read-within servers bytes failures h
gives-within servers bytes (Err f) h = tt
