use Rattle.std.proofs.Common.{ℕ, ◌≡◌, ◌∙◌, subst, ap, unsigned_abs, to_z-of_z, FitsSigned, rules}
use Rattle.std.proofs.lemmas.List.{get_or_read}
use Rattle.std.specs.Int.{w128}
use Rattle.exact_fraction.specs.declared.fraction.Fraction.{Fraction}
use Rattle.exact_simplex.specs.Cells.{cell_of, no_fraction}
use Rattle.exact_simplex.specs.Commons.{IsLeastMultiple}
use Rattle.exact_simplex.proofs.CommonSteps.{over_none, over_more, no_over}
use Rattle.exact_simplex.proofs.commons.common_den.Goals as goal

pub loop-number-init : goal.loop-number-init
loop-number-init c = over_none c.args.numbers.now

pub loop-number-preserved : goal.loop-number-preserved
loop-number-preserved c =
    let den : FitsSigned w128 c.number-item.result.den = search rules in
    let own = simp to_z-of_z at c.unsigned_abs.ensures.value in
    let read = get_or_read c.args.numbers.now c.loop-number.number-index c.number-item.result c.loop-number-test.true c.number-item.is no_fraction in
    let is : c.unsigned_abs.result ≡ unsigned_abs (cell_of c.args.numbers.now c.loop-number.number-index).den = own ∙ ap (λ (f : Fraction). unsigned_abs f.den) read in
    over_more c.args.numbers.now c.loop-number.number-index c.loop-number.den c.in-Some.both c.loop-number.invariant (subst (λ (m : ℕ). IsLeastMultiple c.loop-number.den m c.in-Some.both) is c.in-Some.ensures.both)

pub returns-in_default-clause-none : goal.returns-in_default-clause-none
returns-in_default-clause-none c =
    let den : FitsSigned w128 c.number-item.result.den = search rules in
    let own = simp to_z-of_z at c.unsigned_abs.ensures.value in
    let read = get_or_read c.args.numbers.now c.loop-number.number-index c.number-item.result c.loop-number-test.true c.number-item.is no_fraction in
    let is : c.unsigned_abs.result ≡ unsigned_abs (cell_of c.args.numbers.now c.loop-number.number-index).den = own ∙ ap (λ (f : Fraction). unsigned_abs f.den) read in
    λ d some most all. no_over c.args.numbers.now c.loop-number.number-index c.loop-number.den c.unsigned_abs.result d c.loop-number.invariant c.loop-number-test.true is c.in_default.ensures.none some most all
