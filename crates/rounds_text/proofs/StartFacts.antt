-- Where the run of a round's moves begins, what it leaves, and the text of a round that grows by it.
use Rattle.std.proofs.Common.{◌≡◌, ℕ, true, false, List, [], ◌∷◌, ◌++◌, length, append-nil, ap, ◌∙◌, sym, subst, refl, Option, Some, None}
use Rattle.plan_model.specs.declared.cases.Assignment.{Assignment}
use Rattle.plan_model.specs.declared.cases.Case.{Case}
use Rattle.plan_model.specs.declared.cases.Place.{Place}
use Rattle.plan_model.specs.Allowed.{fits}
use Rattle.plan_model.proofs.SumLemmas.{length-fits}
use Rattle.online_mover.specs.declared.timed.Timed.{Timed}
use Rattle.online_mover.specs.declared.stands.Server.{Server}
use Rattle.online_mover.specs.States.{State, state_at_start}
use Rattle.online_mover.proofs.Targets.{start-length}
use Rattle.move_text.specs.Texts.{IsMoveTextTo}
use Rattle.ras_rounds.specs.Rounds.{IsAfter, places_after}
use Rattle.rounds_text.specs.Rounds.{AddsMoves, Agenda, IsMoved}
use Rattle.move_text.proofs.RunFacts.{end-case}

-- at the start there are as many servers as in the case
pub start-servers : (case : Case) (target : Assignment) (at_once : ℕ) → fits case target ≡ true → length (state_at_start case target at_once).servers ≡ length case.places
start-servers case target at_once fitting = start-length case.places target.of (length-fits case target fitting)

-- at the end too, and the case is that of the start
pub record CanBeCarried (case : Case) (state : State) : Type 0 where
  pub servers : length state.servers ≡ length case.places
  pub reservations : length state.case.wants ≡ length case.wants

pub can-be-carried : (servers reservations : List (List ℕ)) (case : Case) (target : Assignment) (at_once : ℕ) (start end : State) (events : List Timed) (text : List ℕ)
    → start ≡ state_at_start case target at_once → fits case target ≡ true → IsMoveTextTo servers reservations start events text end → CanBeCarried case end
can-be-carried servers reservations case target at_once start end events text begins fitting run =
    let kept = end-case servers reservations start end events text run in
    record {
      servers = kept.2 ∙ ap (λ (t : State). length t.servers) begins ∙ start-servers case target at_once fitting;
      reservations = ap (λ (c : Case). length c.wants) (kept.0 ∙ ap (λ (t : State). t.case) begins);
    }

placed-length : (places : List Place) (servers : List Server) → length servers ≡ length places → length (places_after places servers) ≡ length places
placed-length [] servers h = refl
placed-length (s ∷ places) [] h = cc
placed-length (s ∷ places) (x ∷ servers) h = let same : length servers ≡ length places = cc in let rest = placed-length places servers same in cc

-- after a round there are as many servers as before
pub after-servers : (before : Case) (state : State) (after : Case) → IsAfter before state after → length state.servers ≡ length before.places → length after.places ≡ length before.places
after-servers before state after is same = ap (λ (ps : List Place). length ps) is.places ∙ placed-length before.places state.servers same

-- ---- the moves of a round in its text

pub adds-none : (agenda : Agenda) (number : ℕ) (case : Case) (target : Option Assignment) (text : List ℕ) → target ≡ None → AddsMoves agenda number case target text text case false
adds-none agenda number case target text e =
    subst (λ (o : Option Assignment). AddsMoves agenda number case o text text case false) (sym e)
    (record { moves = []; left = None; goes = (refl, refl); grown = sym (append-nil text); is_left = refl; next_is = tt })

pub adds-some : (agenda : Agenda) (number : ℕ) (case : Case) (found : Option Assignment) (target : Assignment) (before text moves : List ℕ) (after : Case) → found ≡ Some target
    → IsMoved agenda number case target moves after → text ≡ before ++ moves → AddsMoves agenda number case found before text after true
adds-some agenda number case found target before text moves after e is grown =
    subst (λ (o : Option Assignment). AddsMoves agenda number case o before text after true) (sym e)
    (record { moves = moves; left = Some after; goes = is; grown = grown; is_left = refl; next_is = refl })
