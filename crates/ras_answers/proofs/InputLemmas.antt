-- The note on the first file that is not valid.
use Rattle.std.proofs.Common.{ℕ, ◌≡◌, ◌∙◌, sym, ap, subst, List, ◌++◌, codes, string_bytes, Option, Some, None, IfSome, IfOk, Result, Ok, Err, String}
use Rattle.std.specs.Prelude.{MatchResult}
use Rattle.std.specs.declared.alloc.AllocError.{AllocError}
use Rattle.std.specs.declared.alloc.Global.{Global}
use Rattle.ras_inventory.specs.declared.bindings.Binding.{Binding}
use Rattle.ras_inventory.specs.RegionRule.{server_names}
use Rattle.ras_inventory.specs.Regions.{Regional, seen as seen_region}
use Rattle.ras_requests.specs.RequestsRule.{reservation_names}
use Rattle.ras_requests.specs.Requested.{Requested, seen as seen_requests}
use Rattle.plan_document.specs.Documents.{SeenDocument, document_of}
use Rattle.ras_answers.specs.Inputs.{AreCaseFiles, SeenCase, told, with_note, or_note, note_in, region_line, requests_line, bindings_line, document_line, inventory_read, requests_read, bindings_read, document_read, case_read, invalid_note}
use Rattle.ras_answers.specs.declared.all.CaseFiles.{CaseFiles}
use Rattle.ras_answers.specs.declared.inputs.InputFault.{InputFault}

-- a fact of the note that is told
if-told : (o : Option (List ℕ)) (P Q : List ℕ → Type 0) → ((n : List ℕ) → P n → Q n) → IfSome o P → IfSome o Q
if-told None P Q f h = tt
if-told (Some n) P Q f h = f n h

pub read-ok : {Y E : Type 0} (note : E → List ℕ) (r : Result Y E) (y : Y) → with_note note r ≡ Ok y → r ≡ Ok y
read-ok note (Ok x) y h = cc
read-ok note (Err e) y h = absurd cc

-- the note of an error, as a line
pub noted : {Y E : Type 0} (line : E → List ℕ) (r : Result Y E) (e : E) (note : Result (String Global) AllocError) (f : InputFault) (text : List ℕ) → r ≡ Err e → line e ≡ text ++ codes "\n"
    → IfOk note (λ t. string_bytes t ≡ text) → MatchResult note (λ t. IfSome (told f) (λ l. l ≡ string_bytes t ++ codes "\n")) (λ _. told f ≡ None)
    → IfSome (told f) (λ n. with_note line r ≡ Err n)
noted line r e (Ok t) f text failed same is as_line =
    if-told (told f) (λ l. l ≡ string_bytes t ++ codes "\n") (λ n. with_note line r ≡ Err n)
    (λ n h. ap (with_note line) failed ∙ ap Err (same ∙ (ap (λ u. u ++ codes "\n") (sym is) ∙ sym h))) as_line
noted line r e (Err a) f text failed same is as_line = subst (λ (o : Option (List ℕ)). IfSome o (λ n. with_note line r ≡ Err n)) (sym as_line) tt

pub first-note : {Y Z : Type 0} (f : InputFault) (r : Result Y (List ℕ)) (k : Y → Result Z (List ℕ)) → IfSome (told f) (λ n. r ≡ Err n) → IfSome (told f) (λ n. or_note r k ≡ Err n)
first-note f r k h = if-told (told f) (λ n. r ≡ Err n) (λ n. or_note r k ≡ Err n) (λ n e. ap (λ x. or_note x k) e) h

pub later-note : {Y Z : Type 0} (f : InputFault) (r : Result Y (List ℕ)) (y : Y) (k : Y → Result Z (List ℕ)) → r ≡ Ok y → IfSome (told f) (λ n. k y ≡ Err n) → IfSome (told f) (λ n. or_note r k ≡ Err n)
later-note f r y k e h = if-told (told f) (λ n. k y ≡ Err n) (λ n. or_note r k ≡ Err n) (λ n g. ap (λ x. or_note x k) e ∙ g) h

pub in-note : {Y : Type 0} (f : InputFault) (r : Result Y (List ℕ)) → IfSome (told f) (λ n. r ≡ Err n) → IfSome (told f) (λ n. note_in r ≡ Some n)
in-note f r h = if-told (told f) (λ n. r ≡ Err n) (λ n. note_in r ≡ Some n) (λ n e. ap note_in e) h

-- ---- the files of a case

abbrev seen-with : Regional → Requested → List Binding → SeenCase
seen-with region wanted bound = record { region = region; wanted = wanted; bound = bound }

-- the reading of the bindings, and then of the requests
abbrev bound-with : List ℕ → Regional → Requested → Result SeenCase (List ℕ)
bound-with b region wanted = or_note (bindings_read (server_names region.servers) b) (λ bound. Ok (seen-with region wanted bound))

abbrev wanted-with : List ℕ → List ℕ → Regional → Result SeenCase (List ℕ)
wanted-with r b region = or_note (requests_read r) (bound-with b region)

pub inventory-note : (f : InputFault) (i r b : List ℕ) → IfSome (told f) (λ n. inventory_read i ≡ Err n) → IfSome (told f) (λ n. case_read i r b ≡ Err n)
inventory-note f i r b h = first-note f (inventory_read i) (wanted-with r b) h

pub requests-note : (f : InputFault) (i r b : List ℕ) (region : Regional) → inventory_read i ≡ Ok region → IfSome (told f) (λ n. requests_read r ≡ Err n) → IfSome (told f) (λ n. case_read i r b ≡ Err n)
requests-note f i r b region first h = later-note f (inventory_read i) region (wanted-with r b) first (first-note f (requests_read r) (bound-with b region) h)

pub bindings-note : (f : InputFault) (i r b : List ℕ) (region : Regional) (wanted : Requested) → inventory_read i ≡ Ok region → requests_read r ≡ Ok wanted
    → IfSome (told f) (λ n. bindings_read (server_names region.servers) b ≡ Err n) → IfSome (told f) (λ n. case_read i r b ≡ Err n)
bindings-note f i r b region wanted first second h =
    later-note f (inventory_read i) region (wanted-with r b) first
    (later-note f (requests_read r) wanted (bound-with b region) second
    (first-note f (bindings_read (server_names region.servers) b) (λ bound. Ok (seen-with region wanted bound)) h))

abbrev pub seen-files : CaseFiles → SeenCase
seen-files files = seen-with (seen_region files.region) (seen_requests files.requests) files.bindings.of

-- files that are what their bytes say are read
pub files-read : (i r b : List ℕ) (files : CaseFiles) → AreCaseFiles i r b files → case_read i r b ≡ Ok (seen-files files)
files-read i r b files read =
    ap (λ x. or_note (with_note region_line x) (wanted-with r b)) read.region_is
    ∙ (ap (λ x. or_note (with_note requests_line x) (bound-with b (seen_region files.region))) read.requests_are
    ∙ ap (λ x. or_note (with_note bindings_line x) (λ bound. Ok (seen-with (seen_region files.region) (seen_requests files.requests) bound))) read.bindings_are)

-- ---- and a document over them

abbrev document-with : List ℕ → SeenCase → Result SeenDocument (List ℕ)
document-with p files = document_read (server_names files.region.servers) (reservation_names files.wanted.list) p

pub files-note : (f : InputFault) (i r b p : List ℕ) → IfSome (told f) (λ n. case_read i r b ≡ Err n) → IfSome (told f) (λ n. invalid_note i r b p ≡ Some n)
files-note f i r b p h = in-note f (or_note (case_read i r b) (document-with p)) (first-note f (case_read i r b) (document-with p) h)

pub document-note : (f : InputFault) (i r b p : List ℕ) (files : CaseFiles) → AreCaseFiles i r b files
    → IfSome (told f) (λ n. document_read (server_names files.region.servers) (reservation_names files.requests.list) p ≡ Err n) → IfSome (told f) (λ n. invalid_note i r b p ≡ Some n)
document-note f i r b p files read last =
    in-note f (or_note (case_read i r b) (document-with p)) (later-note f (case_read i r b) (seen-files files) (document-with p) (files-read i r b files read) last)

-- no file is refused where each is read
pub all-read : (i r b p : List ℕ) (files : CaseFiles) (d : SeenDocument) → AreCaseFiles i r b files
    → document_of (server_names files.region.servers) (reservation_names files.requests.list) p ≡ Ok d → invalid_note i r b p ≡ None
all-read i r b p files d read last =
    ap (λ x. note_in (or_note x (document-with p))) (files-read i r b files read) ∙ ap (λ x. note_in (with_note document_line x)) last

-- the note on files of a case alone
pub files-alone : (i r b : List ℕ) (files : CaseFiles) → AreCaseFiles i r b files → note_in (case_read i r b) ≡ None
files-alone i r b files read = ap note_in (files-read i r b files read)
