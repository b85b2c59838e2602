-- What protections that were read keep: there is one for each reservation.
use Rattle.std.proofs.Common.{arith, ℕ, ◌≡◌, ◌∙◌, ◌+◌, refl, sym, ap, Bool, true, false, List, [], ◌∷◌, length, codes, Option, Some, None}
use Rattle.std.specs.Prelude.{replicate}
use Rattle.std.proofs.lemmas.List.{length-replicate}
use Rattle.serde_json.specs.Data.{Data, Members}
use Rattle.serde_json.specs.Find.{get, as_object}
use Rattle.ras_requests.specs.declared.requests.Protection.{Protection}
use Rattle.ras_requests.specs.declared.requests.Protection.TheVariants.{Board}
use Rattle.plan_document.specs.Protections.{are_reservations, with_protection, protection_at, each_protection, protections_in, named_protections, protections_of}
use Rattle.plan_document.proofs.Inverse.{some-before, test-open}

one-more : (o : Option Protection) (rest : Option (List Protection)) (count : ℕ) (all : List Protection)
    → ((more : List Protection) → rest ≡ Some more → length more ≡ count) → with_protection o rest ≡ Some all → length all ≡ count + 1
one-more (Some p) (Some more) count all h e = let same : p ∷ more ≡ all = cc in omega (arith, ap length same, h more refl)
one-more (Some p) None count all h e = absurd (cc)
one-more None rest count all h e = absurd (cc)

each-count : (names : List (List ℕ)) (d : Data) (ps : List Protection) → each_protection names d ≡ Some ps → length ps ≡ length names
each-count [] d ps e = let same : [] ≡ ps = cc in ap length (sym same)
each-count (name ∷ names) d ps e =
    let all = one-more (protection_at name d) (each_protection names d) (length names) ps (λ more h. each-count names d more h) e in
    omega (arith, all)

pub protections-count : (names : List (List ℕ)) (second : Bool) (d : Data) (ps : List Protection) → protections_of names second d ≡ Some ps → length ps ≡ length names
protections-count names false d ps e =
    let same : replicate (length names) Board ≡ ps = cc in
    ap length (sym same) ∙ length-replicate (length names) Board
protections-count names true d ps e =
    let x = some-before (get (codes "protection") d) (named_protections names) ps e in
    by x.0 (as_object x.0) x.2
  where
    by : (x : Data) (o : Option Members) → protections_in names x o ≡ Some ps → length ps ≡ length names
    by x None h = absurd (cc)
    by x (Some ms) h = each-count names x ps (test-open (are_reservations names ms) (each_protection names x) ps h).1
