use Rattle.std.proofs.Common.{◌≡◌, ◌-◌, ◌<◌, ◌≤◌, ℕ, Bool, refl, true, false, arith, ap, sym, subst, ◌∙◌}
use Rattle.std.specs.Prelude.{nat_le, ◌&&◌}
use Rattle.std.specs.List.{list_all, range_with_len}
use Rattle.std.proofs.lemmas.Bool.Decides.{nat_tests}
use Rattle.ras_requests.specs.declared.requests.Protection.{Protection}
use Rattle.plan_model.specs.declared.cases.Case.{Case}
use Rattle.plan_model.specs.declared.losses.Lost.{Lost}
use Rattle.plan_model.specs.Units.{want_of}
use Rattle.plan_model.specs.Losses.{loss_at, losses_named}
use Rattle.plan_model.proofs.NumberLemmas.{list_all-range_more, list_all-range_fails}
use Rattle.first_plans.specs.declared.sums.Sums.{Sums}
use Rattle.first_plans.specs.Sums.{leaves, number_of, units_lost, keeps_by}
use Rattle.first_plans.proofs.Running.{named-small}
use Rattle.first_plans.proofs.sums.Sums.keep.Goals as goal

not-le : (a b : ℕ) → b < a → nat_le a b ≡ false
not-le a b h = grind (arith, nat_tests, h)

is-le : (a b : ℕ) → a ≤ b → nat_le a b ≡ true
is-le a b h = grind (arith, nat_tests, h)

and-false : (b : Bool) → (b && false) ≡ false
and-false true = refl
and-false false = refl

and-true : (b : Bool) → b ≡ true → (b && true) ≡ true
and-true b h = ap (λ c. c && true) h

-- what is left after a loss, as it is computed
too-few : (sums : Sums) (need needed gone left : ℕ) (lost : Lost) → need ≡ needed → gone ≡ units_lost sums lost → left ≡ sums.all - gone → left < need → leaves needed sums lost ≡ false
too-few sums need needed gone left lost n g l h = not-le needed (sums.all - units_lost sums lost) (omega (arith, n, g, l, h))

enough : (sums : Sums) (need needed gone left : ℕ) (lost : Lost) → need ≡ needed → gone ≡ units_lost sums lost → left ≡ sums.all - gone → need ≤ left → leaves needed sums lost ≡ true
enough sums need needed gone left lost n g l h = is-le needed (sums.all - units_lost sums lost) (omega (arith, n, g, l, h))

pub lost-requires-clause-number : goal.lost-requires-clause-number
lost-requires-clause-number c =
    let p = c.protection-protection.result in
    let within : c.loop-number.number < losses_named c.args.case.now p = omega (arith, c.losses_named-number-end.ensures, c.loop-number-test.true) in
    omega (arith, ap number_of c.loss_at.ensures, named-small c.args.case.now p c.loop-number.number within)

pub returns-then-saturating_sub-need : goal.returns-then-saturating_sub-need
returns-then-saturating_sub-need c =
    let sums = c.args.self.now in
    let want = want_of c.args.case.now c.args.r in
    let n = c.loop-number.number in
    let named : c.losses_named-number-end.result ≡ losses_named c.args.case.now want.protection = c.losses_named-number-end.ensures ∙ ap (losses_named c.args.case.now) c.protection-protection.ensures in
    let lost : c.loss_at.result ≡ loss_at want.protection n = c.loss_at.ensures ∙ ap (λ p. loss_at p n) c.protection-protection.ensures in
    let here : leaves want.need sums (loss_at want.protection n) ≡ false =
    too-few sums c.need-need.result want.need c.lost.result c.saturating_sub.result (loss_at want.protection n) c.need-need.ensures (c.lost.ensures ∙ ap (units_lost sums) lost) c.saturating_sub.ensures c.if-saturating_sub-need.true in
    let fails = list_all-range_fails (λ m. leaves want.need sums (loss_at want.protection m)) (losses_named c.args.case.now want.protection) n (omega (arith, named, c.loop-number-test.true)) here in
    sym (ap (λ b. nat_le want.need sums.all && b) fails ∙ and-false (nat_le want.need sums.all))

pub loop-number-preserved : goal.loop-number-preserved
loop-number-preserved c =
    let sums = c.args.self.now in
    let want = want_of c.args.case.now c.args.r in
    let n = c.loop-number.number in
    let lost : c.loss_at.result ≡ loss_at want.protection n = c.loss_at.ensures ∙ ap (λ p. loss_at p n) c.protection-protection.ensures in
    let here : leaves want.need sums (loss_at want.protection n) ≡ true =
    enough sums c.need-need.result want.need c.lost.result c.saturating_sub.result (loss_at want.protection n) c.need-need.ensures (c.lost.ensures ∙ ap (units_lost sums) lost) c.saturating_sub.ensures c.if-saturating_sub-need.false in
    list_all-range_more (λ m. leaves want.need sums (loss_at want.protection m)) n c.loop-number.invariant here

pub returns : goal.returns
returns c =
    let sums = c.args.self.now in
    let want = want_of c.args.case.now c.args.r in
    let named : c.losses_named-number-end.result ≡ losses_named c.args.case.now want.protection = c.losses_named-number-end.ensures ∙ ap (losses_named c.args.case.now) c.protection-protection.ensures in
    let whole : c.loop-number.number ≡ losses_named c.args.case.now want.protection = omega (arith, named, c.loop-number-test.false) in
    let total : nat_le want.need sums.all ≡ true = is-le want.need sums.all (omega (arith, c.need-need.ensures, c.if-self-need.false)) in
    let all = sym (ap (λ n. list_all (λ m. leaves want.need sums (loss_at want.protection m)) (range_with_len 0 n)) whole) ∙ c.loop-number.invariant in
    sym (ap (λ b. nat_le want.need sums.all && b) all ∙ and-true (nat_le want.need sums.all) total)
