-- The case after a round keeps the rule of a case.
use Rattle.std.proofs.Common.{◌≡◌, ℕ, true, List, [], ◌∷◌, length, arith, refl, subst}
use Rattle.std.specs.Prelude.{zip, IsTrue, nat_le}
use Rattle.std.specs.List.{list_all}
use Rattle.std.proofs.lemmas.Bool.Decides.{nat_tests}
use Rattle.std.proofs.lemmas.List.{length-map}
use Rattle.std.proofs.lemmas.Slice.Zip.{length-zip}
use Rattle.plan_model.specs.declared.cases.Holder.TheVariants.{Held, Gone, Free as Nobody}
use Rattle.plan_model.specs.declared.cases.Place.{Place}
use Rattle.plan_model.specs.declared.cases.Case.{Case}
use Rattle.plan_model.specs.CaseRule.{case_rule, holder_in_range, place_in_range, stand_together}
use Rattle.plan_model.proofs.CaseFacts.{and-left, and-right}
use Rattle.plan_model.proofs.JoinRule.{both}
use Rattle.online_mover.specs.declared.stands.Stand.{Stand}
use Rattle.online_mover.specs.declared.stands.Stand.TheVariants.{Free, Joining, Bound, Draining}
use Rattle.online_mover.specs.declared.stands.Server.{Server}
use Rattle.online_mover.specs.States.{State, state_rule, stand_in_range, server_in_range}
use Rattle.ras_rounds.specs.Rounds.{holder_after, placed_after, places_after}

held-in : (n : ℕ) (stand : Stand) → stand_in_range n stand ≡ true → holder_in_range n (holder_after stand) ≡ true
held-in n Free h = refl
held-in n (Joining r) h = refl
held-in n (Bound (Held r)) h = h
held-in n (Bound Gone) h = refl
held-in n (Bound Nobody) h = refl
held-in n (Draining (Held r)) h = h
held-in n (Draining Gone) h = refl
held-in n (Draining Nobody) h = refl

module _ (kinds racks boards centers n : ℕ) where
  placed-in : (places : List Place) (servers : List Server) → list_all (place_in_range kinds racks boards centers n) places ≡ true
      → list_all (server_in_range n) servers ≡ true → list_all (place_in_range kinds racks boards centers n) (places_after places servers) ≡ true
  placed-in [] servers h k = refl
  placed-in (s ∷ places) [] h k = refl
  placed-in (s ∷ places) (x ∷ servers) h k =
      both _ _
      (both _ _ (and-left _ _ (and-left _ _ h)) (held-in n x.stand (and-left _ _ (and-left _ _ k))))
      (placed-in places servers (and-right _ _ h) (and-right _ _ k))

together-one : (s : Place) (x : Server) (places : List Place) (servers : List Server) → list_all (stand_together s) places ≡ true
    → list_all (stand_together (placed_after (s, x))) (places_after places servers) ≡ true
together-one s x [] servers h = refl
together-one s x (t ∷ places) [] h = refl
together-one s x (t ∷ places) (y ∷ servers) h = both _ _ (and-left _ _ h) (together-one s x places servers (and-right _ _ h))

together-all : (places all : List Place) (servers others : List Server) → list_all (λ s. list_all (stand_together s) all) places ≡ true
    → list_all (λ s. list_all (stand_together s) (places_after all others)) (places_after places servers) ≡ true
together-all [] all servers others h = refl
together-all (s ∷ places) all [] others h = refl
together-all (s ∷ places) all (x ∷ servers) others h =
    both _ _ (together-one s x all others (and-left _ _ h)) (together-all places all servers others (and-right _ _ h))

few-after : (places : List Place) (servers : List Server) → length servers ≡ length places → nat_le (length places) 20000 ≡ true
    → nat_le (length (places_after places servers)) 20000 ≡ true
few-after places servers same few =
    let many = length-map (zip places servers) placed_after in
    grind (arith, nat_tests, many, length-zip places servers, few)

pub after-rule : (case : Case) (state : State) → length state.servers ≡ length case.places → length state.case.wants ≡ length case.wants
    → IsTrue (state_rule state) → IsTrue (case_rule (places_after case.places state.servers) case.kinds case.racks case.boards case.centers case.moves case.wants)
after-rule case state same wants rule =
    let wants-in = and-right _ _ case.kept in
    let together-from = and-left _ _ case.kept in
    let together = and-right _ _ together-from in
    let places-from = and-left _ _ together-from in
    let places-in = and-right _ _ places-from in
    let numbers = and-left _ _ places-from in
    let busy-small = and-right _ _ numbers in
    let four = and-left _ _ numbers in
    let idle-small = and-right _ _ four in
    let three = and-left _ _ four in
    let take-small = and-right _ _ three in
    let two = and-left _ _ three in
    let centers-few = and-right _ _ two in
    let on-boards = and-left _ _ two in
    let boards-few = and-right _ _ on-boards in
    let one = and-left _ _ on-boards in
    let wants-few = and-right _ _ one in
    let places-few = and-left _ _ one in
    let range : list_all (server_in_range (length case.wants)) state.servers ≡ true =
    subst (λ (n : ℕ). list_all (server_in_range n) state.servers ≡ true) wants (and-right _ _ rule) in
    both _ _
    (both _ _
    (both _ _
    (both _ _ (both _ _ (both _ _ (both _ _ (both _ _ (both _ _ (few-after case.places state.servers same places-few) wants-few) boards-few) centers-few) take-small) idle-small) busy-small)
    (placed-in case.kinds case.racks case.boards case.centers (length case.wants) case.places state.servers places-in range))
    (together-all case.places case.places state.servers state.servers together))
    wants-in
