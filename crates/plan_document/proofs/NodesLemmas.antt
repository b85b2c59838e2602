-- What the multipliers of a leaf keep.
use Rattle.std.proofs.Common.{arith, ℕ, ◌≡◌, ◌∙◌, ◌<◌, ◌≤◌, ◌+◌, length, drop, get_or, ◌^◌, ◌&&◌, sym, ap, refl, Bool, true, false, List, [], ◌∷◌, ◌++◌, map, Option, Some, None, All, AllPairs, nat_le, nat_lt, if◌then◌else◌}
use Rattle.std.specs.List.{list_all}
use Rattle.std.proofs.lemmas.Bool.{and_parts, ltb-true, leb-true}
use Rattle.std.proofs.lemmas.List.Elements.{All-cons, All-nil}
use Rattle.std.proofs.lemmas.List.Kept.{AllPairs-cons}
use Rattle.bound_certificate.specs.Rising.{TopInRange, KeepsRange}
use Rattle.bound_certificate.specs.declared.multipliers.Top.{Top}
use Rattle.plan_document.specs.Numbers.{rises_from}
use Rattle.plan_document.proofs.NumbersLemmas.{drop-next}
use Rattle.plan_document.specs.Shapes.{is_den, if_all, pair_fits}
use Rattle.plan_document.specs.Seen.{seen_top}
use Rattle.plan_document.specs.declared.shape.Pair.{Pair}

pub den-parts : (n : ℕ) → is_den n ≡ true → (1 ≤ n) × (n ≤ 2 ^ 60)
den-parts n h = let p = and_parts (nat_le 1 n) (nat_le n (2 ^ 60)) h in (leb-true 1 n p.0, leb-true n (2 ^ 60) p.1)

pub top-in-range : (t : Top) → is_den t.num ≡ true → TopInRange t
top-in-range t h = let p = den-parts t.num h in record { above_none = p.0; most = p.1 }

-- rows that rise from a row on are all above what is not above it
pub all-above : (least last : ℕ) (tops : List Top) → least ≤ last → rises_from (Some last) (map seen_top tops) ≡ true → All (λ t. least < t.row) tops
all-above least last [] h r = All-nil (λ t. least < t.row)
all-above least last (t ∷ ts) h r =
    let p = and_parts (nat_lt last t.row) (rises_from (Some t.row) (map seen_top ts)) r in
    let less : last < t.row = ltb-true last t.row p.0 in
    All-cons (λ t. least < t.row) t ts (omega (arith, h, less)) (all-above least t.row ts (omega (arith, h, less)) p.1)

pub all-rising : (last : Option ℕ) (tops : List Top) → rises_from last (map seen_top tops) ≡ true → AllPairs (λ s t. s.row < t.row) tops
all-rising last [] r = λ i j d less short. omega (arith, short)
all-rising last (t ∷ ts) r =
    let p = and_parts _ (rises_from (Some t.row) (map seen_top ts)) r in
    AllPairs-cons (λ s t. s.row < t.row) t ts (all-above t.row t.row ts (omega arith) p.1) (all-rising (Some t.row) ts p.1)

pub seen-of-all : (tops : List Top) (pairs : List Pair) (b : Bool) → Some (map seen_top tops) ≡ (if b then Some pairs else None) → map seen_top tops ≡ pairs
seen-of-all tops pairs true e = cc
seen-of-all tops pairs false e = cc

pub keeps-range : (den : ℕ) (tops : List Top) (pairs : List Pair) → is_den den ≡ true → All TopInRange tops
    → Some (map seen_top tops) ≡ if_all pair_fits pairs → rises_from None pairs ≡ true → KeepsRange den tops
keeps-range den tops pairs good nums seen rises =
    let d = den-parts den good in
    let same = seen-of-all tops pairs (list_all pair_fits pairs) seen in
    record { den_above_none = d.0; den_most = d.1; nums = nums; rising = all-rising None tops (ap (rises_from None) same ∙ rises) }

-- one step of a loop that tests and copies
pub all-step : {X : Type 0} (p : X → Bool) (xs : List X) (i : ℕ) (d : X) (all : Bool) → i < length xs → p (get_or xs i d) ≡ true
    → list_all p (drop i xs) ≡ all → list_all p (drop (i + 1) xs) ≡ all
all-step p xs i d all less fit so =
    sym (ap (λ b. b && list_all p (drop (i + 1) xs)) fit) ∙ (sym (ap (list_all p) (drop-next i xs d less)) ∙ so)

pub front-step : {X Y : Type 0} (f : X → Y) (ys : List X) (y : X) (zs : List Y) → map f (ys ++ y ∷ []) ++ zs ≡ map f ys ++ f y ∷ zs
front-step f [] y zs = refl
front-step f (x ∷ ys) y zs = ap (λ l. f x ∷ l) (front-step f ys y zs)

pub seen-step : {X Y : Type 0} (f : X → Y) (ys : List X) (y : X) (xs : List Y) (i : ℕ) (d : Y) → i < length xs → f y ≡ get_or xs i d
    → map f ys ++ drop i xs ≡ xs → map f (ys ++ y ∷ []) ++ drop (i + 1) xs ≡ xs
seen-step f ys y xs i d less is so =
    front-step f ys y (drop (i + 1) xs) ∙ (ap (λ z. map f ys ++ z ∷ drop (i + 1) xs) is ∙ (ap (λ l. map f ys ++ l) (sym (drop-next i xs d less)) ∙ so))
