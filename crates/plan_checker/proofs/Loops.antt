-- Steps of the loops over lists.
use Rattle.std.proofs.Common.{◌≡◌, ℕ, suc, ◌+◌, ◌<◌, ◌≤◌, ◌≢◌, refl, ap, ◌∙◌, arith, add-one, List, [], ◌∷◌, length, get_or, drop, Option, Some, None, min, IsTrue, zip, slice_index_or}
use Rattle.std.specs.Prelude.{option_map}
use Rattle.std.specs.Option.{option_or}
use Rattle.std.specs.List.{range_with_len}
use Rattle.std.proofs.Math.Seq.{drop-cons}
use Rattle.std.proofs.lemmas.List.{drop_all, length-drop}
use Rattle.std.proofs.lemmas.List.FromFn.{get_or-range_with_len, length-range_with_len}
use Rattle.std.proofs.lemmas.Bool.{eq-eqb, ne_eqb}
use Rattle.plan_model.specs.declared.cases.Case.{Case}
use Rattle.plan_model.specs.declared.losses.Lost.{Lost}
use Rattle.plan_model.specs.declared.cases.Assignment.{Assignment}
use Rattle.plan_model.specs.declared.cases.Place.{Place}
use Rattle.plan_model.specs.Allowed.{first_loss, fits}
use Rattle.plan_model.proofs.SumLemmas.{length-fits}
use Rattle.std.proofs.lemmas.Slice.Zip.{get_or-zip, length-zip}
use Rattle.plan_model.specs.Units.{all_reservations, servers_with_places, server_with, no_place}
use Rattle.plan_checker.specs.declared.verdict.PhaseName.{PhaseName}
use Rattle.plan_checker.specs.declared.verdict.Reason.TheVariants as reason
use Rattle.plan_checker.specs.Reasons.{first_need, first_difference}

-- ---- needs

need-drop : (part : PhaseName) (case : Case) (a : Assignment) (rs : List ℕ) (r d : ℕ) → r < length rs
    → first_need part case a (drop r rs) ≡ option_or (option_map (λ lost. reason.Need part (get_or rs r d) lost) (first_loss case a (get_or rs r d))) (first_need part case a (drop (r + 1) rs))
need-drop part case a rs r d within = rw (add-one, drop-cons rs r d within) refl

plus_none : (n : ℕ) → 0 + n ≡ n
plus_none n = omega arith

pub need-step : (part : PhaseName) (case : Case) (a : Assignment) (r : ℕ) (found : Option Lost) → r < length case.wants → found ≡ first_loss case a r
    → first_need part case a (drop r (all_reservations case)) ≡ option_or (option_map (λ lost. reason.Need part r lost) found) (first_need part case a (drop (r + 1) (all_reservations case)))
need-step part case a r found within is =
    let n = length case.wants in
    let here : get_or (range_with_len 0 n) r 0 ≡ r = get_or-range_with_len 0 n r 0 within ∙ plus_none r in
    need-drop part case a (all_reservations case) r 0 (omega (arith, within, length-range_with_len 0 n))
    ∙ rw is (ap (λ q. option_or (option_map (λ lost. reason.Need part q lost) (first_loss case a q)) (first_need part case a (drop (r + 1) (all_reservations case)))) here)

pub need-end : (part : PhaseName) (case : Case) (a : Assignment) (r : ℕ) → length case.wants ≤ r → first_need part case a (drop r (all_reservations case)) ≡ None
need-end part case a r past = rw (drop_all r (all_reservations case) (omega (arith, past, length-range_with_len 0 (length case.wants)))) refl

-- ---- differences

empty_one : (us vs : List ℕ) → min (length us) (length vs) ≡ 0 → length us ≢ length vs → first_difference us vs ≡ Some 0
empty_one [] [] none other = absurd (other refl)
empty_one [] (v ∷ vs) none other = refl
empty_one (u ∷ us) [] none other = refl
empty_one (u ∷ us) (v ∷ vs) none other = absurd (omega (arith, none))

empty_both : (us vs : List ℕ) → min (length us) (length vs) ≡ 0 → length us ≡ length vs → first_difference us vs ≡ None
empty_both [] [] none same = refl
empty_both [] (v ∷ vs) none same = absurd (omega (arith, same))
empty_both (u ∷ us) [] none same = absurd (omega (arith, same))
empty_both (u ∷ us) (v ∷ vs) none same = absurd (omega (arith, none))

pub end-other : (xs ys : List ℕ) (i : ℕ) → i ≡ min (length xs) (length ys) → length xs ≢ length ys → option_map (λ k. k + i) (first_difference (drop i xs) (drop i ys)) ≡ Some i
end-other xs ys i end other =
    rw (empty_one (drop i xs) (drop i ys) (omega (arith, end, length-drop i xs, length-drop i ys)) (λ same. other (omega (arith, same, end, length-drop i xs, length-drop i ys)))) (ap Some (omega arith))

pub end-same : (xs ys : List ℕ) (i : ℕ) → i ≡ min (length xs) (length ys) → length xs ≡ length ys → option_map (λ k. k + i) (first_difference (drop i xs) (drop i ys)) ≡ None
end-same xs ys i end same = rw (empty_both (drop i xs) (drop i ys) (omega (arith, end, length-drop i xs, length-drop i ys)) (omega (arith, same, end, length-drop i xs, length-drop i ys))) refl

place_plus : (i : ℕ) (o : Option ℕ) → option_map (λ k. k + i) (option_map (λ k. k + 1) o) ≡ option_map (λ k. k + (i + 1)) o
place_plus i None = refl
place_plus i (Some k) = ap Some (omega arith)

pub same-step : (xs ys : List ℕ) (i d : ℕ) → i < length xs → i < length ys → get_or xs i d ≡ get_or ys i d
    → option_map (λ k. k + i) (first_difference (drop i xs) (drop i ys)) ≡ option_map (λ k. k + (i + 1)) (first_difference (drop (i + 1) xs) (drop (i + 1) ys))
same-step xs ys i d p q same =
    let test = eq-eqb (get_or xs i d) (get_or ys i d) same in
    rw (drop-cons xs i d p, drop-cons ys i d q, test) (place_plus i (first_difference (drop (suc i) xs) (drop (suc i) ys)) ∙ rw add-one refl)

pub other-step : (xs ys : List ℕ) (i d : ℕ) → i < length xs → i < length ys → get_or xs i d ≢ get_or ys i d → option_map (λ k. k + i) (first_difference (drop i xs) (drop i ys)) ≡ Some i
other-step xs ys i d p q other = rw (drop-cons xs i d p, drop-cons ys i d q, ne_eqb (get_or xs i d) (get_or ys i d) other) (ap Some (omega arith))

-- ---- servers

pub kept-at : (case : Case) (region a : Assignment) (s : ℕ) → IsTrue (fits case region) → IsTrue (fits case a) → s < length case.places
    → get_or (zip (servers_with_places case region) a.of) s ((no_place, None), None) ≡ (server_with case region s, slice_index_or a.of s None)
kept-at case region a s start fitting within =
    let same = length-fits case region start in
    let also = length-fits case a fitting in
    get_or-zip (servers_with_places case region) a.of s ((no_place, None), None) (omega (arith, length-zip case.places region.of, same, within)) (omega (arith, also, within))
    ∙ ap (λ (p : Place × Option ℕ). (p, slice_index_or a.of s None)) (get_or-zip case.places region.of s (no_place, None) within (omega (arith, same, within)))

pub kept-length : (case : Case) (region a : Assignment) → IsTrue (fits case region) → IsTrue (fits case a) → length (zip (servers_with_places case region) a.of) ≡ length case.places
kept-length case region a start fitting =
    omega (arith, length-zip (servers_with_places case region) a.of, length-zip case.places region.of, length-fits case region start, length-fits case a fitting)
