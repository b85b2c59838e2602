-- What was written is read again: numbers, leaves, splits and nodes.
use Rattle.std.proofs.Common.{ℕ, ◌≡◌, ◌∙◌, ◌==◌, ap, ap₂, refl, Bool, true, List, [], ◌∷◌, map, length, codes, Option, Some, None, option_and_then, option_map, if◌then◌else◌}
use Rattle.std.specs.Prelude.{Ok}
use Rattle.plan_document.specs.Numbers.{wholes, with_number, numbers_of, paired, with_pair, rises_from, if_rising, pairs_of}
use Rattle.plan_document.specs.Shapes.{weights_of, fractions_in, cut_of, shape_of, fits, if_fits}
use Rattle.plan_document.specs.Faults.{ok_or, and_then, node_at}
use Rattle.plan_document.specs.Written.{num, numbers_data, flat, weights_data, cut_data, node_data}
use Rattle.plan_document.specs.declared.shape.Pair.{Pair}
use Rattle.plan_document.specs.declared.shape.Weights.{Weights}
use Rattle.plan_document.specs.declared.shape.Fractions.{Fractions}
use Rattle.plan_document.specs.declared.shape.Cut.{Cut}
use Rattle.plan_document.specs.declared.shape.Shape.{Shape}
use Rattle.plan_document.specs.declared.shape.Shape.TheVariants.{Split, Bound, Refute}
use Rattle.plan_document.specs.declared.fault.DocPlace.{DocPlace}
use Rattle.plan_document.specs.declared.fault.DocWhy.TheVariants as why
use Rattle.plan_document.proofs.NumbersLemmas.{items-of}

pub wholes-written : (ns : List ℕ) → wholes (map num ns) ≡ Some ns
wholes-written [] = refl
wholes-written (n ∷ ns) = ap (with_number (Some n)) (wholes-written ns)

pub numbers-written : (ns : List ℕ) → numbers_of (numbers_data ns) ≡ Some ns
numbers-written ns = ap wholes (items-of (map num ns)) ∙ wholes-written ns

pub pairs-flat : (ps : List Pair) → paired None (flat ps) ≡ Some ps
pairs-flat [] = refl
pairs-flat (p ∷ ps) = ap (with_pair p.row p.num) (pairs-flat ps)

pub pairs-written : (ps : List Pair) → rises_from None ps ≡ true → pairs_of (numbers_data (flat ps)) ≡ Some ps
pairs-written ps rises =
    ap (λ (o : Option (List ℕ)). option_and_then if_rising (option_and_then (paired None) o)) (numbers-written (flat ps))
    ∙ (ap (option_and_then if_rising) (pairs-flat ps)
    ∙ ap (λ (b : Bool). if b then Some ps else None) rises)

pub weights-written : (word : List ℕ) (w : Weights) → rises_from None w.pairs ≡ true → weights_of (weights_data word w) ≡ Some w
weights-written word w rises =
    ap (λ (o : Option (List Pair)). option_and_then (λ pairs. Some (let v : Weights = record { den = w.den; pairs = pairs } in v)) o) (pairs-written w.pairs rises)

-- both lists of a shown point have the same length
abbrev pub AreEven : Option Fractions → Type 0
AreEven None = Unit {0}
AreEven (Some f) = (length f.whole == length f.part) ≡ true

pub cut-written : (column at low high : ℕ) (shown : Option Fractions) → AreEven shown
    → cut_of (cut_data (record { column = column; at = at; low = low; high = high; shown = shown })) ≡ Some (record { column = column; at = at; low = low; high = high; shown = shown })
cut-written column at low high None h = refl
cut-written column at low high (Some f) h =
    let cut : Option Fractions → Option Cut = λ s. Some (record { column = column; at = at; low = low; high = high; shown = s }) in
    ap₂ (λ (a b : Option (List ℕ)). option_and_then (λ s. cut (Some s)) (option_and_then (λ whole. option_and_then (λ part. fractions_in f.den whole part) b) a))
    (numbers-written f.whole) (numbers-written f.part)
    ∙ ap (λ (b : Bool). option_and_then (λ s. cut (Some s)) (if b then Some f else None)) h

-- a node that a document may state: its rows rise, and the lists of its shown point have the same length
abbrev pub HasShape : Shape → Type 0
HasShape (Split c) = AreEven c.shown
HasShape (Bound w) = rises_from None w.pairs ≡ true
HasShape (Refute w) = rises_from None w.pairs ≡ true

pub shape-written : (s : Shape) → HasShape s → shape_of (node_data s) ≡ Some s
shape-written (Split c) h = ap (option_map Split) (cut-written c.column c.at c.low c.high c.shown h)
shape-written (Bound w) h = ap (option_map Bound) (weights-written (codes "bound") w h)
shape-written (Refute w) h = ap (option_map Refute) (weights-written (codes "refute") w h)

pub node-written : (place : DocPlace) (s : Shape) → HasShape s → fits s ≡ true → node_at place (node_data s) ≡ Ok s
node-written place s shaped fit =
    ap (λ (o : Option Shape). and_then (ok_or place why.Shape o) (λ s. ok_or place why.Range (if_fits s))) (shape-written s shaped)
    ∙ ap (λ (b : Bool). ok_or place why.Range (if b then Some s else None)) fit
