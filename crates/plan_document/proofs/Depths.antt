-- The value of a document is not deep.
use Rattle.std.proofs.Common.{arith, ℕ, suc, ◌≤◌, ◌+◌, max, List, [], ◌∷◌, map, codes, Option, Some, None, Ordering, Less, Equal, Greater}
use Rattle.std.specs.Ordering.{nat_cmp, match_ordering}
use Rattle.std.specs.Cmp.Lexicographic.{slice_cmp}
use Rattle.serde_json.specs.Data.{string, Members, no_members, member, put, depth, items_depth, members_depth}
use Rattle.serde_json.specs.View.{items_of}
use Rattle.ras_requests.specs.declared.requests.Protection.{Protection}
use Rattle.ras_requests.specs.Protections.{protection_text}
use Rattle.plan_document.specs.Parts.{SeenPart}
use Rattle.plan_document.specs.Documents.{SeenDocument}
use Rattle.plan_document.specs.Written.{num, flat, weights_data, shown_items, node_data, nodes_data, name_of, put_places, put_protections, protection_data, assignment_data, chosen_data, bound_data, region_data, rack_data, rack_member, document_data}
use Rattle.plan_document.specs.declared.shape.Weights.{Weights}
use Rattle.plan_document.specs.declared.shape.Fractions.{Fractions}
use Rattle.plan_document.specs.declared.shape.Shape.{Shape}
use Rattle.plan_document.specs.declared.shape.Shape.TheVariants.{Split, Bound, Refute}
use Rattle.plan_document.specs.declared.part.Planned.{Planned}

-- the greater of two is at most what both are at most
pub max-most : (m a b : ℕ) → a ≤ m → b ≤ m → max a b ≤ m
max-most m a b h k = omega arith

pub numbers-deep : (ns : List ℕ) → items_depth (items_of (map num ns)) ≤ 0
numbers-deep [] = omega arith
numbers-deep (n ∷ ns) = max-most 0 0 _ (omega arith) (numbers-deep ns)

-- one level more
pub deeper : (m n : ℕ) → n ≤ m → suc n ≤ m + 1
deeper m n h = omega arith

pub weights-deep : (word : List ℕ) (w : Weights) → depth (weights_data word w) ≤ 2
weights-deep word w = deeper 1 _ (max-most 1 0 _ (omega arith) (max-most 1 0 _ (omega arith) (max-most 1 _ 0 (deeper 0 _ (numbers-deep (flat w.pairs))) (omega arith))))

pub shown-deep : (f : Option Fractions) → items_depth (shown_items f) ≤ 1
shown-deep None = omega arith
shown-deep (Some f) = max-most 1 0 _ (omega arith) (max-most 1 _ _ (deeper 0 _ (numbers-deep f.whole)) (max-most 1 _ 0 (deeper 0 _ (numbers-deep f.part)) (omega arith)))

pub node-deep : (s : Shape) → depth (node_data s) ≤ 2
node-deep (Split c) =
    deeper 1 _ (max-most 1 0 _ (omega arith) (max-most 1 0 _ (omega arith) (max-most 1 0 _ (omega arith) (max-most 1 0 _ (omega arith) (max-most 1 0 _ (omega arith) (shown-deep c.shown))))))
node-deep (Bound w) = weights-deep (codes "bound") w
node-deep (Refute w) = weights-deep (codes "refute") w

pub all-deep : (ss : List Shape) → items_depth (items_of (map node_data ss)) ≤ 2
all-deep [] = omega arith
all-deep (s ∷ ss) = max-most 2 _ _ (node-deep s) (all-deep ss)

pub nodes-deep : (ss : List Shape) → depth (nodes_data ss) ≤ 3
nodes-deep ss = deeper 2 _ (all-deep ss)

ordered-deep : (o : Ordering) (a b c : Members) → members_depth a ≤ 0 → members_depth b ≤ 0 → members_depth c ≤ 0 → members_depth (match_ordering o a b c) ≤ 0
ordered-deep Less a b c p q r = p
ordered-deep Equal a b c p q r = q
ordered-deep Greater a b c p q r = r

first-deep : (a b : ℕ) → max a b ≤ 0 → (a ≤ 0) × (b ≤ 0)
first-deep a b h = (omega (arith, h), omega (arith, h))

pub put-deep : (k s : List ℕ) (ms : Members) → members_depth ms ≤ 0 → members_depth (put k (string s) ms) ≤ 0
put-deep k s no_members h = max-most 0 0 0 (omega arith) (omega arith)
put-deep k s (member l e ms) h =
    let p = first-deep (depth e) (members_depth ms) h in
    ordered-deep (slice_cmp nat_cmp k l) (member k (string s) (member l e ms)) (member l (string s) ms) (member l e (put k (string s) ms))
    (max-most 0 0 _ (omega arith) h) (max-most 0 0 _ (omega arith) p.1) (max-most 0 _ _ p.0 (put-deep k s ms p.1))

pub places-deep : (servers reservations : List (List ℕ)) (n : ℕ) (places : List (Option ℕ)) (ms : Members) → members_depth ms ≤ 0
    → members_depth (put_places servers reservations n places ms) ≤ 0
places-deep servers reservations n [] ms h = h
places-deep servers reservations n (None ∷ ps) ms h = places-deep servers reservations (n + 1) ps ms h
places-deep servers reservations n (Some r ∷ ps) ms h =
    places-deep servers reservations (n + 1) ps (put (name_of servers n) (string (name_of reservations r)) ms) (put-deep (name_of servers n) (name_of reservations r) ms h)

pub assignment-deep : (servers reservations : List (List ℕ)) (places : List (Option ℕ)) → depth (assignment_data servers reservations places) ≤ 3
assignment-deep servers reservations places =
    omega (arith, deeper 0 _ (places-deep servers reservations 0 places no_members (omega arith)))

pub names-deep : (reservations : List (List ℕ)) (ns : List ℕ) → items_depth (items_of (map (λ n. string (name_of reservations n)) ns)) ≤ 0
names-deep reservations [] = omega arith
names-deep reservations (n ∷ ns) = max-most 0 0 _ (omega arith) (names-deep reservations ns)

pub chosen-deep : (reservations : List (List ℕ)) (ns : List ℕ) → depth (chosen_data reservations ns) ≤ 3
chosen-deep reservations ns = omega (arith, deeper 0 _ (names-deep reservations ns))

pub bound-deep : (lower : Option ℕ) (nodes : List Shape) → depth (bound_data lower nodes) ≤ 4
bound-deep None nodes = deeper 3 _ (max-most 3 _ 0 (nodes-deep nodes) (omega arith))
bound-deep (Some l) nodes = deeper 3 _ (max-most 3 0 _ (omega arith) (max-most 3 _ 0 (nodes-deep nodes) (omega arith)))

pub region-deep : (servers reservations : List (List ℕ)) (p : Option Planned) (lower : Option ℕ) (nodes : List Shape) → depth (region_data servers reservations p lower nodes) ≤ 4
region-deep servers reservations None lower nodes = bound-deep lower nodes
region-deep servers reservations (Some p) lower nodes =
    deeper 3 _ (max-most 3 _ _ (assignment-deep servers reservations p.of.of) (max-most 3 0 _ (omega arith) (max-most 3 0 _ (omega arith) (max-most 3 _ _ (nodes-deep nodes) (max-most 3 0 0 (omega arith) (omega arith))))))

pub rack-deep : (servers reservations : List (List ℕ)) (chosen : List ℕ) (p : Option Planned) (lower : Option ℕ) (nodes : List Shape) → depth (rack_data servers reservations chosen p lower nodes) ≤ 4
rack-deep servers reservations chosen None lower nodes = bound-deep lower nodes
rack-deep servers reservations chosen (Some p) lower nodes =
    deeper 3 _ (max-most 3 _ _ (assignment-deep servers reservations p.of.of) (max-most 3 _ _ (chosen-deep reservations chosen) (max-most 3 0 _ (omega arith) (max-most 3 0 _ (omega arith) (max-most 3 _ _ (nodes-deep nodes) (max-most 3 0 0 (omega arith) (omega arith)))))))

pub rack_member-deep : (servers reservations : List (List ℕ)) (r : Option SeenPart) (ms : Members) → members_depth ms ≤ 4 → members_depth (rack_member servers reservations r ms) ≤ 4
rack_member-deep servers reservations None ms h = h
rack_member-deep servers reservations (Some r) ms h = max-most 4 _ _ (rack-deep servers reservations r.chosen r.plan r.lower r.nodes) h

protections-low : (reservations : List (List ℕ)) (n : ℕ) (ps : List Protection) (ms : Members) → members_depth ms ≤ 0 → members_depth (put_protections reservations n ps ms) ≤ 0
protections-low reservations n [] ms h = h
protections-low reservations n (p ∷ ps) ms h =
    protections-low reservations (n + 1) ps (put (name_of reservations n) (string (protection_text p)) ms) (put-deep (name_of reservations n) (protection_text p) ms h)

pub protections-deep : (reservations : List (List ℕ)) (ps : List Protection) → depth (protection_data reservations ps) ≤ 4
protections-deep reservations ps = omega (arith, deeper 0 _ (protections-low reservations 0 ps no_members (omega arith)))

pub document-deep : (servers reservations : List (List ℕ)) (d : SeenDocument) → depth (document_data servers reservations d) ≤ 5
document-deep servers reservations d =
    deeper 4 _ (max-most 4 0 _ (omega arith) (max-most 4 0 _ (omega arith) (max-most 4 0 _ (omega arith) (max-most 4 0 _ (omega arith) (max-most 4 0 _ (omega arith) (max-most 4 _ _ (protections-deep reservations d.protection)
    (rack_member-deep servers reservations d.rack _ (max-most 4 0 _ (omega arith) (max-most 4 _ 0 (region-deep servers reservations d.region.plan d.region.lower d.region.nodes) (omega arith))))))))))
