-- What a part that was read keeps.
use Rattle.std.proofs.Common.{arith, ℕ, ◌≡◌, ◌∙◌, ◌<◌, ◌≤◌, ◌+◌, ◌^◌, ◌&&◌, sym, ap, refl, subst, Bool, true, false, List, [], ◌∷◌, length, codes, nat_le, is_some, All, Option, Some, None, option_and_then}
use Rattle.std.specs.Prelude.{IfSome, Ok}
use Rattle.std.specs.List.{list_all}
use Rattle.std.specs.Str.{bytes_eq}
use Rattle.std.proofs.lemmas.Bool.{and_parts, leb-true}
use Rattle.std.proofs.lemmas.List.{length-map}
use Rattle.std.proofs.lemmas.List.Elements.{All-nil, All-cons}
use Rattle.std.proofs.lemmas.List.Quantifiers.{position-Some}
use Rattle.serde_json.specs.Data.{Data, Members}
use Rattle.serde_json.specs.Find.{get, as_object, as_str}
use Rattle.ras_table.specs.Names.{number_of}
use Rattle.plan_model.specs.declared.Assignment.{Assignment}
use Rattle.plan_document.specs.Members.{is_object_of, needed_whole, is_text, numbered, are_known}
use Rattle.plan_document.specs.Faults.{ok_or, and_then}
use Rattle.plan_document.specs.Parts.{part_names, claim_of, lower_of, stated_of, assignment_shaped, entries_at, has_nodes, are_few_texts, chosen_shaped, part_shape, at_most, claim_fits, stated_fits, if_stated_fits, place_in, places_of, assignment_in, assignment_of, plan_of, with_chosen_one, chosen_of, chosen_at, part_place, nodes_in, nodes_at, SeenPart, named_part, part_at}
use Rattle.plan_document.specs.Writable.{PlanIsInRange, HasForm}
use Rattle.plan_document.specs.declared.shape.Shape.{Shape}
use Rattle.plan_document.specs.declared.part.Planned.{Planned}
use Rattle.plan_document.specs.declared.part.Claim.{Claim}
use Rattle.plan_document.specs.declared.part.Stated.{Stated}
use Rattle.plan_document.specs.declared.part.Form.{Form}
use Rattle.plan_document.specs.declared.part.Form.TheVariants as form
use Rattle.plan_document.specs.declared.fault.DocWhy.TheVariants as why
use Rattle.plan_document.proofs.Inverse.{step-before, option-given, some-before, test-passed, test-open}
use Rattle.plan_document.proofs.NodeInverse.{IsRead, nodes-read}

-- a number that is found is that of a name
number-there : (names : List (List ℕ)) (t : List ℕ) (o : Option ℕ) → number_of names t ≡ o → IfSome o (λ n. n < length names)
number-there names t None e = tt
number-there names t (Some n) e = (position-Some (bytes_eq t) names n [] e).0

pub numbered-there : (names : List (List ℕ)) (d : Data) → IfSome (numbered names d) (λ n. n < length names)
numbered-there names d = by (as_str d)
  where
    by : (o : Option (List ℕ)) → IfSome (option_and_then (number_of names) o) (λ n. n < length names)
    by None = tt
    by (Some t) = number-there names t (number_of names t) refl

place-there : (names : List (List ℕ)) (o : Option Data) → IfSome (option_and_then (numbered names) o) (λ n. n < length names)
place-there names None = tt
place-there names (Some d) = numbered-there names d

places-there : (servers reservations : List (List ℕ)) (d : Data) → All (λ place. IfSome place (λ r. r < length reservations)) (places_of servers reservations d)
places-there [] reservations d = All-nil (λ place. IfSome place (λ r. r < length reservations))
places-there (s ∷ ss) reservations d =
    All-cons (λ place. IfSome place (λ r. r < length reservations)) (place_in reservations d s) (places_of ss reservations d) (place-there reservations (get s d)) (places-there ss reservations d)

-- the numbers that a part states go with its form
abbrev pub StatesForm : Form → Stated → Type 0
StatesForm form.Planned s = (is_some s.claim ≡ true) × (is_some s.lower ≡ true)
StatesForm form.Bounded s = (is_some s.claim ≡ false) × (is_some s.lower ≡ true)
StatesForm form.Bare s = (is_some s.claim ≡ false) × (is_some s.lower ≡ false)

claim-there : (d : Data) (c : Option Claim) → claim_of form.Planned d ≡ Some c → is_some c ≡ true
claim-there d c e =
    let value = some-before (needed_whole (codes "value") d) _ c e in
    let gap = some-before (needed_whole (codes "gap") d) _ c value.2 in
    let made : Claim = record { value = value.0; gap = gap.0 } in
    let same : Some made ≡ c = cc (gap.2) in
    ap is_some (sym same)

lower-there : (d : Data) (l : Option ℕ) → option_and_then (λ lower. Some (Some lower)) (needed_whole (codes "lower") d) ≡ Some l → is_some l ≡ true
lower-there d l e =
    let lower = some-before (needed_whole (codes "lower") d) _ l e in
    let same : Some lower.0 ≡ l = cc (lower.2) in
    ap is_some (sym same)

pub states-form : (f : Form) (d : Data) (s : Stated) → stated_of f d ≡ Some s → StatesForm f s
states-form form.Planned d s e =
    let claim = some-before (claim_of form.Planned d) _ s e in
    let lower = some-before (lower_of form.Planned d) _ s claim.2 in
    let made : Stated = record { claim = claim.0; lower = lower.0 } in
    let same : made ≡ s = cc (lower.2) in
    subst (StatesForm form.Planned) same (claim-there d claim.0 claim.1, lower-there d lower.0 lower.1)
states-form form.Bounded d s e =
    let lower = some-before (lower_of form.Bounded d) _ s e in
    let made : Stated = record { claim = None; lower = lower.0 } in
    let same : made ≡ s = cc (lower.2) in
    subst (StatesForm form.Bounded) same (refl, lower-there d lower.0 lower.1)
states-form form.Bare d s e =
    let made : Stated = record { claim = None; lower = None } in
    let same : made ≡ s = cc in
    subst (StatesForm form.Bare) same (refl, refl)

-- the assignment of a plan
pub assignment-read : (servers reservations : List (List ℕ)) (d : Data) (a : Assignment) → assignment_of servers reservations d ≡ Some a → places_of servers reservations d ≡ a.of
assignment-read servers reservations d a e = by (as_object d) e
  where
    by : (o : Option Members) → assignment_in servers reservations d o ≡ Some a → places_of servers reservations d ≡ a.of
    by None h = absurd (cc)
    by (Some ms) h =
        let t = test-passed (are_known servers reservations ms) (let b : Assignment = record { of = places_of servers reservations d } in b) a h in
        ap (λ (b : Assignment). b.of) t.1

-- a plan is there where its numbers are stated, and in its ranges
pub plan-read : (servers reservations : List (List ℕ)) (claim : Option Claim) (d : Data) (plan : Option Planned) → plan_of servers reservations claim d ≡ Some plan → claim_fits claim ≡ true
    → (is_some plan ≡ is_some claim) × IfSome plan (PlanIsInRange servers reservations)
plan-read servers reservations None d plan e fit =
    let same : None ≡ plan = cc in
    subst (λ (p : Option Planned). (is_some p ≡ false) × IfSome p (PlanIsInRange servers reservations)) same (refl, tt)
plan-read servers reservations (Some c) d plan e fit =
    let a = some-before (option_and_then (assignment_of servers reservations) (get (codes "assignment") d)) _ plan e in
    let x = some-before (get (codes "assignment") d) (assignment_of servers reservations) a.0 a.1 in
    let places = assignment-read servers reservations x.0 a.0 x.2 in
    let made : Planned = record { of = a.0; value = c.value; gap = c.gap } in
    let same : Some made ≡ plan = cc (a.2) in
    let p = and_parts (nat_le c.value (2 ^ 62)) (nat_le c.gap (2 ^ 62)) fit in
    let range : PlanIsInRange servers reservations made = record {
      places = ap length (sym places) ∙ length-map servers (place_in reservations x.0);
      there = subst (All (λ place. IfSome place (λ r. r < length reservations))) places (places-there servers reservations x.0);
      value_most = leb-true c.value (2 ^ 62) p.0;
      gap_most = leb-true c.gap (2 ^ 62) p.1;
    } in
    subst (λ (p : Option Planned). (is_some p ≡ true) × IfSome p (PlanIsInRange servers reservations)) same (refl, range)

-- a list of chosen reservations
pub record AreChosenOf (names : List (List ℕ)) (count : ℕ) (chosen : List ℕ) : Type 0 where
  pub as_many : length chosen ≡ count
  pub there : All (λ n. n < length names) chosen

one-more : (names : List (List ℕ)) (o : Option ℕ) (rest : Option (List ℕ)) (count : ℕ) (all : List ℕ) → IfSome o (λ n. n < length names)
    → ((more : List ℕ) → rest ≡ Some more → AreChosenOf names count more) → with_chosen_one o rest ≡ Some all → AreChosenOf names (count + 1) all
one-more names (Some n) (Some more) count all here h e =
    let m = h more refl in
    let same : n ∷ more ≡ all = cc in
    subst (AreChosenOf names (count + 1)) same (record { as_many = omega (arith, m.as_many); there = All-cons (λ n. n < length names) n more here m.there })
one-more names (Some n) None count all here h e = absurd (cc)
one-more names None rest count all here h e = absurd (cc)

pub chosen-of_read : (names : List (List ℕ)) (ds : List Data) (chosen : List ℕ) → chosen_of names ds ≡ Some chosen → AreChosenOf names (length ds) chosen
chosen-of_read names [] chosen e =
    let same : [] ≡ chosen = cc in
    subst (AreChosenOf names 0) same (record { as_many = refl; there = All-nil (λ n. n < length names) })
chosen-of_read names (d ∷ ds) chosen e =
    let all = one-more names (numbered names d) (chosen_of names ds) (length ds) chosen (numbered-there names d) (λ more h. chosen-of_read names ds more h) e in
    record { as_many = omega (arith, all.as_many); there = all.there }

few-texts : (ds : List Data) → are_few_texts (Some ds) ≡ true → (1 ≤ length ds) × (length ds ≤ 64)
few-texts ds h =
    let a = and_parts (nat_le 1 (length ds) && nat_le (length ds) 64) (list_all is_text ds) h in
    let b = and_parts (nat_le 1 (length ds)) (nat_le (length ds) 64) a.0 in
    (leb-true 1 (length ds) b.0, leb-true (length ds) 64 b.1)

-- the chosen reservations of a rack part
pub record AreFewChosen (names : List (List ℕ)) (chosen : List ℕ) : Type 0 where
  pub least : 1 ≤ length chosen
  pub most : length chosen ≤ 64
  pub there : All (λ n. n < length names) chosen

pub chosen-read : (reservations : List (List ℕ)) (d : Data) (chosen : List ℕ) → chosen_at reservations true d ≡ Some chosen → chosen_shaped true d ≡ true → AreFewChosen reservations chosen
chosen-read reservations d chosen e shaped =
    let ds = some-before (entries_at (codes "chosen") d) (chosen_of reservations) chosen e in
    let few = few-texts ds.0 (ap are_few_texts (sym ds.1) ∙ shaped) in
    let all = chosen-of_read reservations ds.0 chosen ds.2 in
    record { least = omega (arith, few.0, all.as_many); most = omega (arith, few.1, all.as_many); there = all.there }

-- where a part has a list of chosen reservations, these are few
abbrev pub ChosenIfAny : Bool → List (List ℕ) → List ℕ → Type 0
ChosenIfAny true names chosen = AreFewChosen names chosen
ChosenIfAny false names chosen = Unit {0}

chosen-any : (with_chosen : Bool) (reservations : List (List ℕ)) (d : Data) (chosen : List ℕ) → chosen_at reservations with_chosen d ≡ Some chosen → chosen_shaped with_chosen d ≡ true → ChosenIfAny with_chosen reservations chosen
chosen-any true reservations d chosen e h = chosen-read reservations d chosen e h
chosen-any false reservations d chosen e h = tt

-- the form of a part goes with the numbers that it states
form-of_stated : (f : Form) (s : Stated) (plan : Option Planned) → StatesForm f s → is_some plan ≡ is_some s.claim → HasForm f plan s.lower
form-of_stated form.Planned s plan h e = (e ∙ h.0, h.1)
form-of_stated form.Bounded s plan h e = (e ∙ h.0, h.1)
form-of_stated form.Bare s plan h e = (e ∙ h.0, h.1)

lower-in : (lower : Option ℕ) → at_most (2 ^ 62) lower ≡ true → IfSome lower (λ l. l ≤ 2 ^ 62)
lower-in None h = tt
lower-in (Some l) h = leb-true l (2 ^ 62) h

nodes-given : (with_chosen : Bool) (o : Option (List Data)) (nodes : List Shape) → nodes_in with_chosen o ≡ Ok nodes → All IsRead nodes
nodes-given with_chosen None nodes e = let same : [] ≡ nodes = cc in subst (All IsRead) same (All-nil IsRead)
nodes-given with_chosen (Some ds) nodes e = nodes-read with_chosen 0 [] ds nodes e (All-nil IsRead)

-- what a part that was read keeps
pub record PartIsRead (servers reservations : List (List ℕ)) (with_chosen : Bool) (f : Form) (p : SeenPart) : Type 0 where
  pub form : HasForm f p.plan p.lower
  pub plan : IfSome p.plan (PlanIsInRange servers reservations)
  pub lower_most : IfSome p.lower (λ lower. lower ≤ 2 ^ 62)
  pub nodes : All IsRead p.nodes
  pub chosen : ChosenIfAny with_chosen reservations p.chosen

pub part-read : (servers reservations : List (List ℕ)) (with_chosen : Bool) (f : Form) (d : Data) (p : SeenPart) → part_at servers reservations with_chosen f d ≡ Ok p → PartIsRead servers reservations with_chosen f p
part-read servers reservations with_chosen f d p e =
    let pl = part_place with_chosen in
    let a = step-before (ok_or pl why.Shape (part_shape with_chosen f d)) (λ stated. and_then (ok_or pl why.Range (if_stated_fits stated)) (λ s. named_part servers reservations with_chosen s d)) p e in
    let shape = test-open (is_object_of (part_names with_chosen f) (as_object d) && assignment_shaped f d && has_nodes d && chosen_shaped with_chosen d) (stated_of f d) a.0 (option-given pl why.Shape (part_shape with_chosen f d) a.0 a.1) in
    let b = step-before (ok_or pl why.Range (if_stated_fits a.0)) (λ s. named_part servers reservations with_chosen s d) p a.2 in
    let fit = test-passed (stated_fits a.0) a.0 b.0 (option-given pl why.Range (if_stated_fits a.0) b.0 b.1) in
    let stated : Stated = b.0 in
    let stated_form : StatesForm f stated = subst (StatesForm f) fit.1 (states-form f d a.0 shape.1) in
    let ranges : stated_fits stated ≡ true = ap stated_fits (sym fit.1) ∙ fit.0 in
    let parts = and_parts (claim_fits stated.claim) (at_most (2 ^ 62) stated.lower) ranges in
    let plan = step-before (ok_or pl why.Name (plan_of servers reservations stated.claim d)) _ p b.2 in
    let chosen = step-before (ok_or pl why.Name (chosen_at reservations with_chosen d)) _ p plan.2 in
    let nodes = step-before (nodes_at with_chosen d) _ p chosen.2 in
    let made : SeenPart = record { plan = plan.0; lower = stated.lower; nodes = nodes.0; chosen = chosen.0 } in
    let same : made ≡ p = cc (nodes.2) in
    let planned = plan-read servers reservations stated.claim d plan.0 (option-given pl why.Name (plan_of servers reservations stated.claim d) plan.0 plan.1) parts.0 in
    let few = and_parts (is_object_of (part_names with_chosen f) (as_object d) && assignment_shaped f d && has_nodes d) (chosen_shaped with_chosen d) shape.0 in
    subst (PartIsRead servers reservations with_chosen f) same (record {
      form = form-of_stated f stated plan.0 stated_form planned.0;
      plan = planned.1;
      lower_most = lower-in stated.lower parts.1;
      nodes = nodes-given with_chosen (entries_at (codes "tree") d) nodes.0 nodes.1;
      chosen = chosen-any with_chosen reservations d chosen.0 (option-given pl why.Name (chosen_at reservations with_chosen d) chosen.0 chosen.1) few.1;
    })
