-- What was written is read again: the nodes of a tree, and a region part with a plan.
use Rattle.std.proofs.Common.{arith, ℕ, ◌≡◌, ◌∙◌, ◌<◌, ◌+◌, ◌&&◌, sym, ap, ap₂, refl, Bool, true, List, [], ◌∷◌, ◌++◌, map, length, is_some, Option, Some, None, append_assoc, append-nil}
use Rattle.std.specs.Prelude.{Result, Ok}
use Rattle.std.proofs.lemmas.Bool.{and_parts}
use Rattle.std.proofs.Common.{Ordering, Less, Equal, Greater}
use Rattle.std.specs.Ordering.{nat_cmp, match_ordering}
use Rattle.std.specs.Cmp.Lexicographic.{slice_cmp}
use Rattle.serde_json.specs.Data.{string, Members, no_members, member, put}
use Rattle.ras_table.specs.Names.{number_of}
use Rattle.plan_document.specs.Members.{is_text, are_texts, numbered, are_known}
use Rattle.plan_document.specs.Shapes.{fits}
use Rattle.plan_document.specs.Faults.{and_then}
use Rattle.plan_document.specs.Parts.{node_place, nodes_from}
use Rattle.plan_document.specs.Written.{name_of, node_data, put_places}
use Rattle.plan_document.specs.declared.shape.Shape.{Shape}
use Rattle.plan_document.specs.declared.fault.DocFault.{DocFault}
use Rattle.plan_document.proofs.LawLemmas.{HasShape, node-written}
use Rattle.plan_document.proofs.AssignmentLaw.{AreNamed}

-- nodes that a document may state
abbrev pub AllWritten : List Shape → Type 0
AllWritten [] = Unit {0}
AllWritten (s ∷ ss) = HasShape s × (fits s ≡ true) × AllWritten ss

pub nodes-written : (with_chosen : Bool) (n : ℕ) (before ss : List Shape) → AllWritten ss → nodes_from with_chosen n before (map node_data ss) ≡ Ok (before ++ ss)
nodes-written with_chosen n before [] h = ap Ok (sym (append-nil before))
nodes-written with_chosen n before (s ∷ ss) h =
    ap (λ (r : Result Shape DocFault). and_then r (λ t. nodes_from with_chosen (n + 1) (before ++ t ∷ []) (map node_data ss))) (node-written (node_place with_chosen n) s h.0 h.1)
    ∙ (nodes-written with_chosen (n + 1) (before ++ s ∷ []) ss h.2 ∙ ap Ok (append_assoc before (s ∷ []) ss))

both-true : (a b : Bool) → a ≡ true → b ≡ true → (a && b) ≡ true
both-true a b p q = ap₂ (λ x y. x && y) p q

ordered-texts : (o : Ordering) (a b c : Members) → are_texts a ≡ true → are_texts b ≡ true → are_texts c ≡ true → are_texts (match_ordering o a b c) ≡ true
ordered-texts Less a b c p q r = p
ordered-texts Equal a b c p q r = q
ordered-texts Greater a b c p q r = r

pub texts-put : (k s : List ℕ) (ms : Members) → are_texts ms ≡ true → are_texts (put k (string s) ms) ≡ true
texts-put k s no_members h = refl
texts-put k s (member l e ms) h =
    let p = and_parts (is_text e) (are_texts ms) h in
    ordered-texts (slice_cmp nat_cmp k l) (member k (string s) (member l e ms)) (member l (string s) ms) (member l e (put k (string s) ms)) h p.1
    (both-true (is_text e) _ p.0 (texts-put k s ms p.1))

pub texts-written : (servers reservations : List (List ℕ)) (n : ℕ) (ps : List (Option ℕ)) (ms : Members) → are_texts ms ≡ true → are_texts (put_places servers reservations n ps ms) ≡ true
texts-written servers reservations n [] ms h = h
texts-written servers reservations n (None ∷ ps) ms h = texts-written servers reservations (n + 1) ps ms h
texts-written servers reservations n (Some r ∷ ps) ms h =
    texts-written servers reservations (n + 1) ps (put (name_of servers n) (string (name_of reservations r)) ms) (texts-put (name_of servers n) (name_of reservations r) ms h)

-- each server's name is known
abbrev pub AreServers : List (List ℕ) → Type 0
AreServers servers = (n : ℕ) → n < length servers → number_of servers (name_of servers n) ≡ Some n

ordered-known : (servers reservations : List (List ℕ)) (o : Ordering) (a b c : Members) → are_known servers reservations a ≡ true → are_known servers reservations b ≡ true → are_known servers reservations c ≡ true
    → are_known servers reservations (match_ordering o a b c) ≡ true
ordered-known servers reservations Less a b c p q r = p
ordered-known servers reservations Equal a b c p q r = q
ordered-known servers reservations Greater a b c p q r = r

pub known-put : (servers reservations : List (List ℕ)) (k s : List ℕ) (ms : Members) → is_some (number_of servers k) ≡ true → is_some (number_of reservations s) ≡ true
    → are_known servers reservations ms ≡ true → are_known servers reservations (put k (string s) ms) ≡ true
known-put servers reservations k s no_members a b h = both-true _ _ a (both-true _ true b refl)
known-put servers reservations k s (member l e ms) a b h =
    let p = and_parts (is_some (number_of servers l)) _ h in
    let q = and_parts (is_some (numbered reservations e)) (are_known servers reservations ms) p.1 in
    ordered-known servers reservations (slice_cmp nat_cmp k l) (member k (string s) (member l e ms)) (member l (string s) ms) (member l e (put k (string s) ms))
    (both-true _ _ a (both-true _ _ b h))
    (both-true _ _ p.0 (both-true _ _ b q.1))
    (both-true _ _ p.0 (both-true _ _ q.0 (known-put servers reservations k s ms a b q.1)))

pub known-written : (servers reservations : List (List ℕ)) → AreServers servers → (n : ℕ) (ps : List (Option ℕ)) (ms : Members) → n + length ps ≡ length servers → AreNamed reservations ps
    → are_known servers reservations ms ≡ true → are_known servers reservations (put_places servers reservations n ps ms) ≡ true
known-written servers reservations there n [] ms all named h = h
known-written servers reservations there n (None ∷ ps) ms all named h = known-written servers reservations there (n + 1) ps ms (omega (arith, all)) named h
known-written servers reservations there n (Some r ∷ ps) ms all named h =
    known-written servers reservations there (n + 1) ps (put (name_of servers n) (string (name_of reservations r)) ms) (omega (arith, all)) named.1
    (known-put servers reservations (name_of servers n) (name_of reservations r) ms (ap is_some (there n (omega (arith, all)))) (ap is_some named.0) h)
