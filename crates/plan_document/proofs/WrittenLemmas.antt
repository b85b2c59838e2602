-- The value of a document has no float.
use Rattle.std.proofs.Common.{ℕ, ◌≡◌, ◌+◌, ◌||◌, ap₂, refl, Bool, false, List, [], ◌∷◌, map, codes, Option, Some, None}
use Rattle.std.proofs.lemmas.Bool.{or_parts}
use Rattle.std.specs.Ordering.{nat_cmp, match_ordering}
use Rattle.std.specs.Cmp.Lexicographic.{slice_cmp}
use Rattle.std.proofs.Common.{Ordering, Less, Equal, Greater}
use Rattle.serde_json.specs.Data.{string, Members, no_members, member, put}
use Rattle.serde_json.specs.View.{items_of}
use Rattle.serde_json.specs.Written.{has_float, items_have_float, members_have_float}
use Rattle.ras_requests.specs.declared.requests.Protection.{Protection}
use Rattle.ras_requests.specs.Protections.{protection_text}
use Rattle.plan_document.specs.Parts.{SeenPart}
use Rattle.plan_document.specs.Documents.{SeenDocument}
use Rattle.plan_document.specs.Written.{num, flat, weights_data, shown_items, node_data, name_of, put_places, put_protections, bound_data, region_data, rack_data, rack_member, document_data}
use Rattle.plan_document.specs.declared.shape.Weights.{Weights}
use Rattle.plan_document.specs.declared.shape.Fractions.{Fractions}
use Rattle.plan_document.specs.declared.shape.Shape.{Shape}
use Rattle.plan_document.specs.declared.shape.Shape.TheVariants.{Split, Bound, Refute}
use Rattle.plan_document.specs.declared.part.Planned.{Planned}

or-false : (a b : Bool) → a ≡ false → b ≡ false → (a || b) ≡ false
or-false a b p q = ap₂ (λ x y. x || y) p q

pub numbers-none : (ns : List ℕ) → items_have_float (items_of (map num ns)) ≡ false
numbers-none [] = refl
numbers-none (n ∷ ns) = numbers-none ns

pub weights-none : (word : List ℕ) (w : Weights) → has_float (weights_data word w) ≡ false
weights-none word w = or-false _ false (numbers-none (flat w.pairs)) refl

pub shown-none : (f : Option Fractions) → items_have_float (shown_items f) ≡ false
shown-none None = refl
shown-none (Some f) = or-false _ _ (numbers-none f.whole) (or-false _ false (numbers-none f.part) refl)

pub node-none : (s : Shape) → has_float (node_data s) ≡ false
node-none (Split c) = shown-none c.shown
node-none (Bound w) = weights-none (codes "bound") w
node-none (Refute w) = weights-none (codes "refute") w

pub nodes-none : (ss : List Shape) → items_have_float (items_of (map node_data ss)) ≡ false
nodes-none [] = refl
nodes-none (s ∷ ss) = or-false _ _ (node-none s) (nodes-none ss)

ordered-none : (o : Ordering) (a b c : Members) → members_have_float a ≡ false → members_have_float b ≡ false → members_have_float c ≡ false → members_have_float (match_ordering o a b c) ≡ false
ordered-none Less a b c p q r = p
ordered-none Equal a b c p q r = q
ordered-none Greater a b c p q r = r

pub put-none : (k s : List ℕ) (ms : Members) → members_have_float ms ≡ false → members_have_float (put k (string s) ms) ≡ false
put-none k s no_members h = refl
put-none k s (member l e ms) h =
    let p = or_parts (has_float e) (members_have_float ms) h in
    ordered-none (slice_cmp nat_cmp k l) (member k (string s) (member l e ms)) (member l (string s) ms) (member l e (put k (string s) ms)) h p.1
    (or-false (has_float e) _ p.0 (put-none k s ms p.1))

pub places-none : (servers reservations : List (List ℕ)) (n : ℕ) (places : List (Option ℕ)) (ms : Members) → members_have_float ms ≡ false
    → members_have_float (put_places servers reservations n places ms) ≡ false
places-none servers reservations n [] ms h = h
places-none servers reservations n (None ∷ ps) ms h = places-none servers reservations (n + 1) ps ms h
places-none servers reservations n (Some r ∷ ps) ms h =
    places-none servers reservations (n + 1) ps (put (name_of servers n) (string (name_of reservations r)) ms) (put-none (name_of servers n) (name_of reservations r) ms h)

pub chosen-none : (reservations : List (List ℕ)) (ns : List ℕ) → items_have_float (items_of (map (λ n. string (name_of reservations n)) ns)) ≡ false
chosen-none reservations [] = refl
chosen-none reservations (n ∷ ns) = chosen-none reservations ns

pub bound-none : (lower : Option ℕ) (nodes : List Shape) → has_float (bound_data lower nodes) ≡ false
bound-none None nodes = or-false _ false (nodes-none nodes) refl
bound-none (Some l) nodes = or-false _ false (nodes-none nodes) refl

pub region-none : (servers reservations : List (List ℕ)) (p : Option Planned) (lower : Option ℕ) (nodes : List Shape) → has_float (region_data servers reservations p lower nodes) ≡ false
region-none servers reservations None lower nodes = bound-none lower nodes
region-none servers reservations (Some p) lower nodes =
    or-false _ _ (places-none servers reservations 0 p.of.of no_members refl) (or-false _ false (nodes-none nodes) refl)

pub rack-none : (servers reservations : List (List ℕ)) (chosen : List ℕ) (p : Option Planned) (lower : Option ℕ) (nodes : List Shape) → has_float (rack_data servers reservations chosen p lower nodes) ≡ false
rack-none servers reservations chosen None lower nodes = bound-none lower nodes
rack-none servers reservations chosen (Some p) lower nodes =
    or-false _ _ (places-none servers reservations 0 p.of.of no_members refl) (or-false _ _ (chosen-none reservations chosen) (or-false _ false (nodes-none nodes) refl))

pub rack_member-none : (servers reservations : List (List ℕ)) (r : Option SeenPart) (ms : Members) → members_have_float ms ≡ false → members_have_float (rack_member servers reservations r ms) ≡ false
rack_member-none servers reservations None ms h = h
rack_member-none servers reservations (Some r) ms h = or-false _ _ (rack-none servers reservations r.chosen r.plan r.lower r.nodes) h

pub protections-none : (reservations : List (List ℕ)) (n : ℕ) (ps : List Protection) (ms : Members) → members_have_float ms ≡ false
    → members_have_float (put_protections reservations n ps ms) ≡ false
protections-none reservations n [] ms h = h
protections-none reservations n (p ∷ ps) ms h =
    protections-none reservations (n + 1) ps (put (name_of reservations n) (string (protection_text p)) ms) (put-none (name_of reservations n) (protection_text p) ms h)

pub document-none : (servers reservations : List (List ℕ)) (d : SeenDocument) → has_float (document_data servers reservations d) ≡ false
document-none servers reservations d =
    or-false _ _ (protections-none reservations 0 d.protection no_members refl)
    (rack_member-none servers reservations d.rack _ (or-false _ false (region-none servers reservations d.region.plan d.region.lower d.region.nodes) refl))
