-- What a node that was read keeps.
use Rattle.std.proofs.Common.{ℕ, ◌≡◌, ◌∙◌, ◌≤◌, ◌+◌, ◌&&◌, ◌==◌, sym, ap, subst, Bool, true, false, List, [], ◌∷◌, ◌++◌, map, length, codes, All, Option, Some, None, option_map, option_and_then, if◌then◌else◌, eqb-true}
use Rattle.std.specs.Prelude.{IfSome, Ok}
use Rattle.std.specs.List.{list_all}
use Rattle.std.specs.Str.{bytes_eq}
use Rattle.std.proofs.lemmas.Bool.{and_parts, leb-true}
use Rattle.std.proofs.lemmas.List.Elements.{All-nil, All-cons, All-head, All-tail, All-push}
use Rattle.serde_json.specs.Data.{Data}
use Rattle.ip_model.specs.declared.point.Point.{Point}
use Rattle.bound_certificate.specs.declared.multipliers.Top.{Top}
use Rattle.bound_certificate.specs.declared.tree.Node.{Node}
use Rattle.bound_certificate.specs.declared.tree.Node.TheVariants as node
use Rattle.plan_document.specs.Numbers.{has_size, numbers_at, whole_at}
use Rattle.plan_document.specs.Shapes.{weights_of, fractions_of, cut_with, cut_of, by_word, word_at, shape_of, is_den, is_place, is_count, pair_fits, shown_fits, fits, if_fits}
use Rattle.plan_document.specs.Seen.{seen_top, seen_point, seen_node}
use Rattle.plan_document.specs.Faults.{ok_or, node_at}
use Rattle.plan_document.specs.Parts.{node_place, nodes_from}
use Rattle.plan_document.specs.Writable.{PointIsEven, NodeIsInRange}
use Rattle.plan_document.specs.declared.shape.Fractions.{Fractions}
use Rattle.plan_document.specs.declared.shape.Cut.{Cut}
use Rattle.plan_document.specs.declared.shape.Shape.{Shape}
use Rattle.plan_document.specs.declared.shape.Shape.TheVariants.{Split, Bound, Refute}
use Rattle.plan_document.specs.declared.fault.DocPlace.{DocPlace}
use Rattle.plan_document.specs.declared.fault.DocWhy.TheVariants as why
use Rattle.plan_document.proofs.LawLemmas.{AreEven}
use Rattle.plan_document.proofs.Inverse.{step-before, option-given, some-before, mapped-from, test-passed}

-- the two lists of a point that is shown have one length
abbrev pub IsEven : Shape → Type 0
IsEven (Split c) = AreEven c.shown
IsEven (Bound w) = Unit {0}
IsEven (Refute w) = Unit {0}

fractions-even : (d : Data) (f : Fractions) → fractions_of d ≡ Some f → AreEven (Some f)
fractions-even d f e =
    let a = some-before (whole_at 5 d) _ f e in
    let b = some-before (numbers_at 6 d) _ f a.2 in
    let c = some-before (numbers_at 7 d) _ f b.2 in
    let made : Fractions = record { den = a.0; whole = b.0; part = c.0 } in
    let t = test-passed (length b.0 == length c.0) made f c.2 in
    ap (λ (g : Fractions). length g.whole == length g.part) (sym t.1) ∙ t.0

cut-shown : (shown : Option Fractions) (d : Data) (c : Cut) → cut_with shown d ≡ Some c → shown ≡ c.shown
cut-shown shown d c e =
    let column = some-before (whole_at 1 d) _ c e in
    let at = some-before (whole_at 2 d) _ c column.2 in
    let low = some-before (whole_at 3 d) _ c at.2 in
    let high = some-before (whole_at 4 d) _ c low.2 in
    ap (shown-in shown) high.2
  where
    shown-in : Option Fractions → Option Cut → Option Fractions
    shown-in other None = other
    shown-in other (Some c) = c.shown

cut-even : (d : Data) (c : Cut) → cut_of d ≡ Some c → AreEven c.shown
cut-even d c e = by (has_size 5 d) (has_size 8 d) e
  where
    by : (short long : Bool) → ◌≡◌ {A = Option Cut} (if short then cut_with None d else (if long then option_and_then (λ shown. cut_with (Some shown) d) (fractions_of d) else None)) (Some c) → AreEven c.shown
    by true long h = subst AreEven (cut-shown None d c h) tt
    by false true h =
        let f = some-before (fractions_of d) (λ shown. cut_with (Some shown) d) c h in
        subst AreEven (cut-shown (Some f.0) d c f.2) (fractions-even d f.0 f.1)
    by false false h = absurd (cc)

word-even : (split bound refute : Bool) (d : Data) (s : Shape)
    → ◌≡◌ {A = Option Shape} (if split then option_map Split (cut_of d) else (if bound then option_map Bound (weights_of d) else (if refute then option_map Refute (weights_of d) else None))) (Some s) → IsEven s
word-even true bound refute d s e = let c = mapped-from Split (cut_of d) s e in subst IsEven c.2 (cut-even d c.0 c.1)
word-even false true refute d s e = let w = mapped-from Bound (weights_of d) s e in subst IsEven w.2 tt
word-even false false true d s e = let w = mapped-from Refute (weights_of d) s e in subst IsEven w.2 tt
word-even false false false d s e = absurd (cc)

pub shape-even : (d : Data) (s : Shape) → shape_of d ≡ Some s → IsEven s
shape-even d s e = by (word_at 0 d) e
  where
    by : (o : Option (List ℕ)) → by_word o d ≡ Some s → IsEven s
    by None h = absurd (cc)
    by (Some word) h = word-even (bytes_eq word (codes "split")) (bytes_eq word (codes "bound")) (bytes_eq word (codes "refute")) d s h

-- a node that was read is in its ranges
pub record IsRead (s : Shape) : Type 0 where
  pub fit : fits s ≡ true
  pub even : IsEven s

pub node-read : (place : DocPlace) (d : Data) (s : Shape) → node_at place d ≡ Ok s → IsRead s
node-read place d s e =
    let a = step-before (ok_or place why.Shape (shape_of d)) (λ s. ok_or place why.Range (if_fits s)) s e in
    let shaped = option-given place why.Shape (shape_of d) a.0 a.1 in
    let t = test-passed (fits a.0) a.0 s (option-given place why.Range (if_fits a.0) s a.2) in
    subst IsRead t.1 (record { fit = t.0; even = shape-even d a.0 shaped })

pub nodes-read : (with_chosen : Bool) (n : ℕ) (before : List Shape) (ds : List Data) (all : List Shape) → nodes_from with_chosen n before ds ≡ Ok all → All IsRead before → All IsRead all
nodes-read with_chosen n before [] all e h = let same : before ≡ all = cc in subst (All IsRead) same h
nodes-read with_chosen n before (d ∷ ds) all e h =
    let a = step-before (node_at (node_place with_chosen n) d) (λ s. nodes_from with_chosen (n + 1) (before ++ s ∷ []) ds) all e in
    nodes-read with_chosen (n + 1) (before ++ a.0 ∷ []) ds all a.2 (All-push IsRead before a.0 h (node-read (node_place with_chosen n) d a.0 a.1))

-- from what a document states to the node itself
tops-in : (tops : List Top) → list_all pair_fits (map seen_top tops) ≡ true → All (λ t. t.row ≤ 2047) tops
tops-in [] h = All-nil (λ t. t.row ≤ 2047)
tops-in (t ∷ ts) h =
    let p = and_parts (pair_fits (seen_top t)) (list_all pair_fits (map seen_top ts)) h in
    All-cons (λ t. t.row ≤ 2047) t ts (leb-true t.row 2047 (and_parts (is_place t.row) (is_den t.num) p.0).0) (tops-in ts p.1)

counts-in : (ns : List ℕ) → list_all is_count ns ≡ true → All (λ n. n ≤ 4294967294) ns
counts-in [] h = All-nil (λ n. n ≤ 4294967294)
counts-in (n ∷ ns) h =
    let p = and_parts (is_count n) (list_all is_count ns) h in
    All-cons (λ n. n ≤ 4294967294) n ns (leb-true n 4294967294 p.0) (counts-in ns p.1)

shown-in : (shown : Option Point) → AreEven (option_map seen_point shown) → shown_fits (option_map seen_point shown) ≡ true → IfSome shown PointIsEven
shown-in None even fit = tt
shown-in (Some p) even fit =
    let a = and_parts (is_den p.den && list_all is_count p.whole) _ fit in
    let b = and_parts (is_den p.den) (list_all is_count p.whole) a.0 in
    record { even = eqb-true (length p.whole) (length p.part) even; wholes = counts-in p.whole b.1 }

pub node-in : (n : Node) → IsRead (seen_node n) → NodeIsInRange n
node-in (node.Split column at low high shown) h =
    let a = and_parts (is_place column && is_count at && is_count low && is_count high) _ h.fit in
    let b = and_parts (is_place column && is_count at && is_count low) (is_count high) a.0 in
    let c = and_parts (is_place column && is_count at) (is_count low) b.0 in
    let d = and_parts (is_place column) (is_count at) c.0 in
    record {
      column_most = leb-true column 2047 d.0;
      at_most = leb-true at 4294967294 d.1;
      low_most = leb-true low 4294967294 c.1;
      high_most = leb-true high 4294967294 b.1;
      shown_even = shown-in shown h.even a.1;
    }
node-in (node.Bound m) h = tops-in m.tops (and_parts (is_den m.den) (list_all pair_fits (map seen_top m.tops)) h.fit).1
node-in (node.Refute m) h = tops-in m.tops (and_parts (is_den m.den) (list_all pair_fits (map seen_top m.tops)) h.fit).1

pub nodes-in : (ns : List Node) → All IsRead (map seen_node ns) → All NodeIsInRange ns
nodes-in [] h = All-nil NodeIsInRange
nodes-in (n ∷ ns) h =
    All-cons NodeIsInRange n ns (node-in n (All-head IsRead (seen_node n) (map seen_node ns) h)) (nodes-in ns (All-tail IsRead (seen_node n) (map seen_node ns) h))
