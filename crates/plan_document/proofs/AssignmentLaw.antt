-- What was written is read again: the assignment.
use Rattle.std.proofs.Common.{arith, ℕ, ◌≡◌, ◌∙◌, ◌<◌, ◌≤◌, ◌+◌, sym, ap, ap₂, refl, List, [], ◌∷◌, map, length, drop, Option, Some, None, option_and_then}
use Rattle.std.proofs.lemmas.List.{drop_all}
use Rattle.std.proofs.lemmas.Option.{unwrap_or-slice_get}
use Rattle.serde_json.specs.Data.{string, object, Members, no_members}
use Rattle.serde_json.specs.Find.{get_member}
use Rattle.serde_json.proofs.Views.{get_member-put, get_member-put_other}
use Rattle.ras_table.specs.Names.{number_of}
use Rattle.plan_document.specs.Members.{numbered}
use Rattle.plan_document.specs.Parts.{place_in, places_of}
use Rattle.plan_document.specs.Written.{name_of, put_place, put_places}
use Rattle.plan_document.proofs.NumbersLemmas.{drop-next}

-- no two places have one name
abbrev pub AreApart : List (List ℕ) → Type 0
AreApart names = (i j : ℕ) → i < length names → j < length names → name_of names i ≡ name_of names j → i ≡ j

-- each reservation that is given is the number of its name
abbrev pub AreNamed : List (List ℕ) → List (Option ℕ) → Type 0
AreNamed names [] = Unit {0}
AreNamed names (None ∷ ps) = AreNamed names ps
AreNamed names (Some r ∷ ps) = (number_of names (name_of names r) ≡ Some r) × AreNamed names ps

-- what is put for later servers leaves an earlier one's member
pub other-place : (servers reservations : List (List ℕ)) → AreApart servers → (m n : ℕ) (p : Option ℕ) (ms : Members) → m < length servers → n < length servers → (m ≡ n → ⊥)
    → get_member (name_of servers m) (put_place reservations (name_of servers n) p ms) ≡ get_member (name_of servers m) ms
other-place servers reservations apart m n None ms h k different = refl
other-place servers reservations apart m n (Some r) ms h k different =
    get_member-put_other (name_of servers m) (name_of servers n) (string (name_of reservations r)) ms (λ e. different (apart m n h k e))

pub other-places : (servers reservations : List (List ℕ)) → AreApart servers → (m n : ℕ) (ps : List (Option ℕ)) (ms : Members) → m < n → n + length ps ≡ length servers
    → get_member (name_of servers m) (put_places servers reservations n ps ms) ≡ get_member (name_of servers m) ms
other-places servers reservations apart m n [] ms before all = refl
other-places servers reservations apart m n (p ∷ ps) ms before all =
    other-places servers reservations apart m (n + 1) ps (put_place reservations (name_of servers n) p ms) (omega (arith, before)) (omega (arith, all))
    ∙ other-place servers reservations apart m n p ms (omega (arith, before, all)) (omega (arith, all)) (λ (e : m ≡ n). omega (arith, before, e))

own-place : (reservations : List (List ℕ)) (server : List ℕ) (p : Option ℕ) (ms : Members) → AreNamed reservations (p ∷ []) → get_member server ms ≡ None
    → option_and_then (numbered reservations) (get_member server (put_place reservations server p ms)) ≡ p
own-place reservations server None ms named none = ap (option_and_then (numbered reservations)) none
own-place reservations server (Some r) ms named none = ap (option_and_then (numbered reservations)) (get_member-put server (string (name_of reservations r)) ms) ∙ named.0

first-named : (reservations : List (List ℕ)) (p : Option ℕ) (ps : List (Option ℕ)) → AreNamed reservations (p ∷ ps) → AreNamed reservations (p ∷ []) × AreNamed reservations ps
first-named reservations None ps h = (tt, h)
first-named reservations (Some r) ps h = ((h.0, tt), h.1)

pub places-from : (servers reservations : List (List ℕ)) → AreApart servers → (n : ℕ) (ps : List (Option ℕ)) (ms : Members) → n + length ps ≡ length servers → AreNamed reservations ps
    → ((m : ℕ) → n ≤ m → m < length servers → get_member (name_of servers m) ms ≡ None)
    → map (place_in reservations (object (put_places servers reservations n ps ms))) (drop n servers) ≡ ps
places-from servers reservations apart n [] ms all named none = ap (map (place_in reservations (object ms))) (drop_all n servers (omega (arith, all)))
places-from servers reservations apart n (p ∷ ps) ms all named none =
    let server = name_of servers n in
    let after = put_place reservations server p ms in
    let whole = put_places servers reservations (n + 1) ps after in
    let give = place_in reservations (object whole) in
    let here : n < length servers = omega (arith, all) in
    let both = first-named reservations p ps named in
    let head = ap give (sym (unwrap_or-slice_get servers n []))
    ∙ (ap (option_and_then (numbered reservations)) (other-places servers reservations apart n (n + 1) ps after (omega arith) (omega (arith, all)))
    ∙ own-place reservations server p ms both.0 (none n (omega arith) here)) in
    let later = λ (m : ℕ) (h : n + 1 ≤ m) (k : m < length servers).
    other-place servers reservations apart m n p ms k here (λ (e : m ≡ n). omega (arith, h, e)) ∙ none m (omega (arith, h)) k in
    let tail = places-from servers reservations apart (n + 1) ps after (omega (arith, all)) both.1 later in
    ap (map give) (drop-next n servers [] here) ∙ ap₂ (λ (x : Option ℕ) (xs : List (Option ℕ)). x ∷ xs) head tail

-- the places that are written are read again
pub places-written : (servers reservations : List (List ℕ)) (places : List (Option ℕ)) → AreApart servers → length places ≡ length servers → AreNamed reservations places
    → places_of servers reservations (object (put_places servers reservations 0 places no_members)) ≡ places
places-written servers reservations places apart all named = places-from servers reservations apart 0 places no_members (omega (arith, all)) named (λ m h k. refl)
