-- What was written is read again: the protections.
use Rattle.std.proofs.Common.{arith, ℕ, ◌≡◌, ◌∙◌, ◌<◌, ◌+◌, ◌&&◌, sym, ap, ap₂, refl, Bool, true, List, [], ◌∷◌, length, drop, is_some, Option, Some, None, option_and_then, if◌then◌else◌}
use Rattle.std.proofs.lemmas.Bool.{and_parts}
use Rattle.std.proofs.lemmas.List.{drop_all}
use Rattle.std.proofs.lemmas.Option.{unwrap_or-slice_get}
use Rattle.std.proofs.Common.{Ordering, Less, Equal, Greater}
use Rattle.std.specs.Ordering.{nat_cmp, match_ordering}
use Rattle.std.specs.Cmp.Lexicographic.{slice_cmp}
use Rattle.serde_json.specs.Data.{Data, string, object, Members, no_members, member, put}
use Rattle.serde_json.specs.Find.{get_member}
use Rattle.serde_json.proofs.Views.{get_member-put, get_member-put_other}
use Rattle.ras_table.specs.Names.{number_of}
use Rattle.ras_requests.specs.declared.requests.Protection.{Protection}
use Rattle.ras_requests.specs.declared.requests.Protection.TheVariants.{Total, Board, Center}
use Rattle.ras_requests.specs.Protections.{protection_text, protection_of_text}
use Rattle.plan_document.specs.Members.{are_texts}
use Rattle.plan_document.specs.Protections.{protection_in, are_protections, are_reservations, with_protection, protection_at, each_protection, named_protections}
use Rattle.plan_document.specs.Written.{name_of, put_protections, protection_data}
use Rattle.plan_document.proofs.NumbersLemmas.{drop-next}
use Rattle.plan_document.proofs.AssignmentLaw.{AreApart}
use Rattle.plan_document.proofs.PartLaw.{AreServers, texts-put}

pub protection-written : (p : Protection) → protection_of_text (protection_text p) ≡ Some p
protection-written Total = refl
protection-written Board = refl
protection-written Center = refl

-- each member is a text, and that of a protection
both-true : (a b : Bool) → a ≡ true → b ≡ true → (a && b) ≡ true
both-true a b p q = ap₂ (λ x y. x && y) p q

ordered-kept : (test : Members → Bool) (o : Ordering) (a b c : Members) → test a ≡ true → test b ≡ true → test c ≡ true → test (match_ordering o a b c) ≡ true
ordered-kept test Less a b c p q r = p
ordered-kept test Equal a b c p q r = q
ordered-kept test Greater a b c p q r = r

protection-put : (k : List ℕ) (p : Protection) (ms : Members) → are_protections ms ≡ true → are_protections (put k (string (protection_text p)) ms) ≡ true
protection-put k p no_members h = both-true _ true (ap is_some (protection-written p)) refl
protection-put k p (member l e ms) h =
    let s = string (protection_text p) in
    let here : is_some (protection_in s) ≡ true = ap is_some (protection-written p) in
    let q = and_parts (is_some (protection_in e)) (are_protections ms) h in
    ordered-kept are_protections (slice_cmp nat_cmp k l) (member k s (member l e ms)) (member l s ms) (member l e (put k s ms))
    (both-true _ _ here h) (both-true _ _ here q.1) (both-true _ _ q.0 (protection-put k p ms q.1))

pub protections-fit : (names : List (List ℕ)) (n : ℕ) (ps : List Protection) (ms : Members) → are_protections ms ≡ true → are_protections (put_protections names n ps ms) ≡ true
protections-fit names n [] ms h = h
protections-fit names n (p ∷ ps) ms h = protections-fit names (n + 1) ps (put (name_of names n) (string (protection_text p)) ms) (protection-put (name_of names n) p ms h)

pub protections-shaped : (names : List (List ℕ)) (n : ℕ) (ps : List Protection) (ms : Members) → are_texts ms ≡ true → are_texts (put_protections names n ps ms) ≡ true
protections-shaped names n [] ms h = h
protections-shaped names n (p ∷ ps) ms h =
    protections-shaped names (n + 1) ps (put (name_of names n) (string (protection_text p)) ms) (texts-put (name_of names n) (protection_text p) ms h)

-- each member is named after a reservation
reservation-put : (names : List (List ℕ)) (k : List ℕ) (d : Data) (ms : Members) → is_some (number_of names k) ≡ true → are_reservations names ms ≡ true → are_reservations names (put k d ms) ≡ true
reservation-put names k d no_members here h = both-true _ true here refl
reservation-put names k d (member l e ms) here h =
    let q = and_parts (is_some (number_of names l)) (are_reservations names ms) h in
    ordered-kept (are_reservations names) (slice_cmp nat_cmp k l) (member k d (member l e ms)) (member l d ms) (member l e (put k d ms))
    (both-true _ _ here h) (both-true _ _ q.0 q.1) (both-true _ _ q.0 (reservation-put names k d ms here q.1))

protections-known : (names : List (List ℕ)) → AreServers names → (n : ℕ) (ps : List Protection) (ms : Members) → n + length ps ≡ length names → are_reservations names ms ≡ true
    → are_reservations names (put_protections names n ps ms) ≡ true
protections-known names there n [] ms all h = h
protections-known names there n (p ∷ ps) ms all h =
    let s = string (protection_text p) in
    protections-known names there (n + 1) ps (put (name_of names n) s ms) (omega (arith, all)) (reservation-put names (name_of names n) s ms (ap is_some (there n (omega (arith, all)))) h)

-- what is put for later reservations leaves an earlier one's member
other-protections : (names : List (List ℕ)) → AreApart names → (m n : ℕ) (ps : List Protection) (ms : Members) → m < n → n + length ps ≡ length names
    → get_member (name_of names m) (put_protections names n ps ms) ≡ get_member (name_of names m) ms
other-protections names apart m n [] ms before all = refl
other-protections names apart m n (p ∷ ps) ms before all =
    let s = string (protection_text p) in
    other-protections names apart m (n + 1) ps (put (name_of names n) s ms) (omega (arith, before)) (omega (arith, all))
    ∙ get_member-put_other (name_of names m) (name_of names n) s ms
    (λ e. let same : m ≡ n = apart m n (omega (arith, before, all)) (omega (arith, all)) e in omega (arith, before, same))

each-from : (names : List (List ℕ)) → AreApart names → (n : ℕ) (ps : List Protection) (ms : Members) → n + length ps ≡ length names
    → each_protection (drop n names) (object (put_protections names n ps ms)) ≡ Some ps
each-from names apart n [] ms all = ap (λ (l : List (List ℕ)). each_protection l (object ms)) (drop_all n names (omega (arith, all)))
each-from names apart n (p ∷ ps) ms all =
    let name = name_of names n in
    let s = string (protection_text p) in
    let after = put name s ms in
    let whole = object (put_protections names (n + 1) ps after) in
    let here : n < length names = omega (arith, all) in
    let head = ap (λ k. protection_at k whole) (sym (unwrap_or-slice_get names n []))
    ∙ (ap (option_and_then protection_in) (other-protections names apart n (n + 1) ps after (omega arith) (omega (arith, all)) ∙ get_member-put name s ms)
    ∙ protection-written p) in
    ap (λ (l : List (List ℕ)). each_protection l whole) (drop-next n names [] here)
    ∙ ap₂ with_protection head (each-from names apart (n + 1) ps after (omega (arith, all)))

-- the protections that are written are read again
pub protections-written : (names : List (List ℕ)) → AreServers names → AreApart names → (ps : List Protection) → length ps ≡ length names
    → named_protections names (protection_data names ps) ≡ Some ps
protections-written names there apart ps all =
    ap (λ (b : Bool). if b then each_protection names (protection_data names ps) else None) (protections-known names there 0 ps no_members (omega (arith, all)) refl)
    ∙ each-from names apart 0 ps no_members (omega (arith, all))
