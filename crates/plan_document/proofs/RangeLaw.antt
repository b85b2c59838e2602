-- What a document that can be written keeps, as its value is read again.
use Rattle.std.proofs.Common.{arith, ℕ, ◌≡◌, ◌<◌, ◌≤◌, ◌^◌, ◌&&◌, ap₂, refl, Bool, true, List, [], ◌∷◌, suc, map, length, nat_lt, All, AllPairs, Option, Some, None, option_map, eq-eqb}
use Rattle.std.specs.Prelude.{IfSome}
use Rattle.std.specs.List.{list_all}
use Rattle.std.proofs.lemmas.Bool.{le-leb, lt-ltb}
use Rattle.std.proofs.lemmas.List.Elements.{All-head, All-tail, All-from_get_or}
use Rattle.ip_model.specs.Fractions.{PointInRange}
use Rattle.ip_model.specs.declared.point.Point.{Point}
use Rattle.ip_model.proofs.RuleFacts.{point_range_of}
use Rattle.bound_certificate.proofs.RuleFacts.{multipliers_range}
use Rattle.bound_certificate.specs.Rising.{TopInRange, KeepsRange}
use Rattle.bound_certificate.specs.declared.multipliers.Top.{Top}
use Rattle.bound_certificate.specs.declared.multipliers.Multipliers.{Multipliers}
use Rattle.bound_certificate.specs.declared.tree.Node.{Node}
use Rattle.bound_certificate.specs.declared.tree.Node.TheVariants as node
use Rattle.plan_document.specs.Numbers.{rises_from}
use Rattle.plan_document.specs.Shapes.{is_den, is_count, pair_fits, shown_fits, fits}
use Rattle.plan_document.specs.Seen.{seen_top, seen_point, seen_node}
use Rattle.plan_document.specs.Writable.{PointIsEven, NodeIsInRange}
use Rattle.plan_document.proofs.LawLemmas.{AreEven, HasShape}
use Rattle.plan_document.proofs.PartLaw.{AllWritten}

pub both-are : (a b : Bool) → a ≡ true → b ≡ true → (a && b) ≡ true
both-are a b p q = ap₂ (λ x y. x && y) p q

pub all-are : {X : Type 0} (P : X → Type 0) (p : X → Bool) → ((x : X) → P x → p x ≡ true) → (xs : List X) → All P xs → list_all p xs ≡ true
all-are P p each [] h = refl
all-are P p each (x ∷ xs) h = both-are (p x) (list_all p xs) (each x (All-head P x xs h)) (all-are P p each xs (All-tail P x xs h))

pub den-is : (n : ℕ) → 1 ≤ n → n ≤ 2 ^ 60 → is_den n ≡ true
den-is n least most = both-are _ _ (le-leb 1 n least) (le-leb n (2 ^ 60) most)

-- rows that rise pairwise rise one by one
pub rising-from : (last : ℕ) (tops : List Top) → All (λ t. last < t.row) tops → AllPairs (λ s t. s.row < t.row) tops → rises_from (Some last) (map seen_top tops) ≡ true
rising-from last [] above pairs = refl
rising-from last (t ∷ ts) above pairs =
    both-are _ _ (lt-ltb last t.row (All-head (λ t. last < t.row) t ts above))
    (rising-from t.row ts (λ k d less. pairs 0 (suc k) d (omega arith) (omega arith)) (λ i j d less short. pairs (suc i) (suc j) d (omega arith) (omega arith)))

pub rising-all : (tops : List Top) → AllPairs (λ s t. s.row < t.row) tops → rises_from None (map seen_top tops) ≡ true
rising-all [] pairs = refl
rising-all (t ∷ ts) pairs =
    rising-from t.row ts (λ k d less. pairs 0 (suc k) d (omega arith) (omega arith)) (λ i j d less short. pairs (suc i) (suc j) d (omega arith) (omega arith))

pub tops-fit : (tops : List Top) → All TopInRange tops → All (λ t. t.row ≤ 2047) tops → list_all pair_fits (map seen_top tops) ≡ true
tops-fit [] nums rows = refl
tops-fit (t ∷ ts) nums rows =
    let n = All-head TopInRange t ts nums in
    both-are _ _ (both-are _ _ (le-leb t.row 2047 (All-head (λ t. t.row ≤ 2047) t ts rows)) (den-is t.num n.above_none n.most))
    (tops-fit ts (All-tail TopInRange t ts nums) (All-tail (λ t. t.row ≤ 2047) t ts rows))

-- what the types of multipliers and points keep
pub multipliers-keep : (m : Multipliers) → KeepsRange m.den m.tops
multipliers-keep m = multipliers_range m

pub point-keeps : (p : Point) → PointInRange p.den p.whole p.part
point-keeps p = point_range_of p.den p.whole p.part p.kept

pub leaf-shaped : (m : Multipliers) → rises_from None (map seen_top m.tops) ≡ true
leaf-shaped m = rising-all m.tops (multipliers-keep m).rising

pub leaf-fits : (m : Multipliers) → All (λ t. t.row ≤ 2047) m.tops → (is_den m.den && list_all pair_fits (map seen_top m.tops)) ≡ true
leaf-fits m rows =
    let k = multipliers-keep m in
    both-are _ _ (den-is m.den k.den_above_none k.den_most) (tops-fit m.tops k.nums rows)

pub shown-even : (shown : Option Point) → IfSome shown PointIsEven → AreEven (option_map seen_point shown)
shown-even None h = tt
shown-even (Some p) h = eq-eqb (length p.whole) (length p.part) h.even

pub point-fits : (shown : Option Point) → IfSome shown PointIsEven → shown_fits (option_map seen_point shown) ≡ true
point-fits None h = refl
point-fits (Some p) h =
    let k = point-keeps p in
    both-are _ _ (both-are _ _ (den-is p.den k.den_above_none k.den_most)
    (all-are (λ n. n ≤ 4294967294) is_count (λ n l. le-leb n 4294967294 l) p.whole h.wholes))
    (all-are (λ n. n < p.den) (λ n. nat_lt n p.den) (λ n l. lt-ltb n p.den l) p.part (All-from_get_or (λ n. n < p.den) p.part 0 (λ i less. k.parts i)))

pub node-shaped : (n : Node) → NodeIsInRange n → HasShape (seen_node n)
node-shaped (node.Split column at low high shown) h = shown-even shown h.shown_even
node-shaped (node.Bound m) h = leaf-shaped m
node-shaped (node.Refute m) h = leaf-shaped m

pub node-fits : (n : Node) → NodeIsInRange n → fits (seen_node n) ≡ true
node-fits (node.Split column at low high shown) h =
    both-are _ _ (both-are _ _ (both-are _ _ (both-are _ _ (le-leb column 2047 h.column_most) (le-leb at 4294967294 h.at_most)) (le-leb low 4294967294 h.low_most)) (le-leb high 4294967294 h.high_most))
    (point-fits shown h.shown_even)
node-fits (node.Bound m) h = leaf-fits m h
node-fits (node.Refute m) h = leaf-fits m h

pub nodes-fit : (ns : List Node) → All NodeIsInRange ns → AllWritten (map seen_node ns)
nodes-fit [] h = tt
nodes-fit (n ∷ ns) h =
    let first = All-head NodeIsInRange n ns h in
    (node-shaped n first, node-fits n first, nodes-fit ns (All-tail NodeIsInRange n ns h))
