use Rattle.std.proofs.Common.{◌≡◌, ℕ, ap, sym, arith, ◌∙◌, refl, true, false, cond, List, get_or, Some, None, nat_lt}
use Rattle.std.specs.Prelude.{Option, is_none, is_some, not, ◌&&◌}
use Rattle.std.proofs.lemmas.Bool.Decides.{nat_tests}
use Rattle.ras_requests.specs.declared.requests.Protection.{Protection}
use Rattle.plan_model.specs.declared.cases.Place.{Place}
use Rattle.plan_model.specs.declared.losses.Lost.TheVariants.{Board, Center}
use Rattle.plan_model.specs.Units.{server_with, value_for, want_of, place_of, units_in_center, units_on_board}
use Rattle.first_plans.specs.Ranks.{rank_by, rank_of}
use Rattle.first_plans.specs.FirstPlan.{may_be_taken}
use Rattle.first_plans.specs.Best.{candidate_at}
use Rattle.first_plans.proofs.Given.{both}
use Rattle.first_plans.proofs.takes.candidate_at.Goals as goal

none-there : (o : Option ℕ) → is_some o ≡ false → is_none o ≡ true
none-there None h = refl
none-there (Some r) h = cc

same-rank : {p q : Protection} {k l m n v w : ℕ} → p ≡ q → k ≡ l → m ≡ n → v ≡ w → rank_by p k m v ≡ rank_by q l n w
same-rank {p} {q} {k} {l} {m} {n} {v} {w} same center board value =
    ap (λ p. rank_by p k m v) same ∙ ap (λ (i : ℕ). rank_by q i m v) center ∙ ap (λ (i : ℕ). rank_by q l i v) board ∙ ap (λ (i : ℕ). rank_by q l n i) value

pub returns-then-value-gt0 : goal.returns-then-value-gt0
returns-then-value-gt0 c =
    let case = c.args.case.now in
    let a = c.args.a.now in
    let r = c.args.r in
    let here = c.place_at-place.ensures.place in
    let worth : c.value-value.result ≡ value_for case r (place_of case c.args.server).kind = c.value-value.ensures.value ∙ ap (λ (s : Place). value_for case r s.kind) here in
    let rank : c.by-rank.result ≡ rank_of case a r (place_of case c.args.server) =
    c.by-rank.ensures
    ∙ same-rank c.protection.ensures (c.requires.sums.lost (Center c.place_at-place.result.now.center) c.place_at-place.ensures.center)
    (c.requires.sums.lost (Board c.place_at-place.result.now.board) c.place_at-place.ensures.board) c.value-value.ensures.value
    ∙ ap (rank_of case a r) here in
    let up : (place_of case c.args.server).up ≡ true = ap (λ (s : Place). s.up) (sym here) ∙ c.if-place.true in
    let empty : is_some (get_or c.as_slice.result.now c.args.server None) ≡ false = c.is_none.ensures ∙ ap not c.if-is_none.true in
    let free : is_none (get_or a.of c.args.server None) ≡ true =
    none-there (get_or a.of c.args.server None) (ap (λ (of : List (Option ℕ)). is_some (get_or of c.args.server None)) (sym c.as_slice.ensures.items) ∙ empty) in
    let above : nat_lt 0 (value_for case r (place_of case c.args.server).kind) ≡ true = (let positive = c.if-value-gt0.true in grind (arith, nat_tests, worth, positive)) in
    let may : may_be_taken case r (server_with case a c.args.server) ≡ true = both _ _ (both _ _ up free) above in
    ap (λ k. Some (record { server = c.args.server; rank = k })) rank ∙ sym (ap (λ b. cond b (Some (candidate_at case a r c.args.server)) None) may)
