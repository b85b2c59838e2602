-- There is one case after a round.
use Rattle.std.proofs.Common.{◌≡◌, ℕ, Bool, true, List, ap, sym, ◌∙◌, subst}
use Rattle.std.specs.Prelude.{IsTrue}
use Rattle.std.proofs.Props.{props}
use Rattle.ras_requests.specs.declared.requests.Moves.{Moves}
use Rattle.plan_model.specs.declared.cases.Place.{Place}
use Rattle.plan_model.specs.declared.cases.Want.{Want}
use Rattle.plan_model.specs.declared.cases.Case.{Case}
use Rattle.plan_model.specs.CaseRule.{case_rule}
use Rattle.online_mover.specs.States.{State}
use Rattle.ras_rounds.specs.Rounds.{IsAfter}

-- what a case consists of, beside that it keeps the rule
abbrev Parts : Type 0
Parts = List Place × ℕ × ℕ × ℕ × ℕ × Moves × List Want

abbrev rule_of : Parts → Bool
rule_of t = case_rule t.0 t.1 t.2 t.3 t.4 t.5 t.6

abbrev case_of : (t : Parts) → IsTrue (rule_of t) → Case
case_of t kept = record { places = t.0; kinds = t.1; racks = t.2; boards = t.3; centers = t.4; moves = t.5; wants = t.6; kept = kept }

abbrev parts_of : Case → Parts
parts_of case = (case.places, case.kinds, case.racks, case.boards, case.centers, case.moves, case.wants)

one-proof : (b : Bool) → IsProp (b ≡ true)
one-proof b = hlevel props

same-from_parts : (t u : Parts) → t ≡ u → (h : IsTrue (rule_of t)) (k : IsTrue (rule_of u)) → case_of t h ≡ case_of u k
same-from_parts t u e h k =
    let P : Parts → Type 0 = λ v. (kept : IsTrue (rule_of v)) → case_of t h ≡ case_of v kept in
    subst P e (λ kept. ap (case_of t) (one-proof (rule_of t) h kept)) k

same-parts : (s t : Parts) → s.0 ≡ t.0 → s.1 ≡ t.1 → s.2 ≡ t.2 → s.3 ≡ t.3 → s.4 ≡ t.4 → s.5 ≡ t.5 → s.6 ≡ t.6 → s ≡ t
same-parts s t places kinds racks boards centers moves wants =
    ap (λ (x : List Place). (x, s.1, s.2, s.3, s.4, s.5, s.6)) places
    ∙ ap (λ (x : ℕ). (t.0, x, s.2, s.3, s.4, s.5, s.6)) kinds
    ∙ ap (λ (x : ℕ). (t.0, t.1, x, s.3, s.4, s.5, s.6)) racks
    ∙ ap (λ (x : ℕ). (t.0, t.1, t.2, x, s.4, s.5, s.6)) boards
    ∙ ap (λ (x : ℕ). (t.0, t.1, t.2, t.3, x, s.5, s.6)) centers
    ∙ ap (λ (x : Moves). (t.0, t.1, t.2, t.3, t.4, x, s.6)) moves
    ∙ ap (λ (x : List Want). (t.0, t.1, t.2, t.3, t.4, t.5, x)) wants

pub after-once : (before : Case) (state : State) (one other : Case) → IsAfter before state one → IsAfter before state other → one ≡ other
after-once before state one other h k =
    same-from_parts (parts_of one) (parts_of other)
    (same-parts (parts_of one) (parts_of other) (h.places ∙ sym k.places) (h.kinds ∙ sym k.kinds) (h.racks ∙ sym k.racks) (h.boards ∙ sym k.boards)
    (h.centers ∙ sym k.centers) (h.moves ∙ sym k.moves) (h.wants ∙ sym k.wants))
    one.kept other.kept
