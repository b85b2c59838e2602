use Rattle.std.proofs.Common.{rules, arith, to_z-of_z, FitsSigned, get_or, pos, ◌<◌, ◌≡◌, length, length-set, ◌∙◌, ◌+ℤ◌, ap}
use Rattle.std.specs.Int.{w64, w32}
use Rattle.std.proofs.lemmas.List.{get_or_read}
use Rattle.ip_model.specs.declared.parts.Term.{Term}
use Rattle.bound_certificate.proofs.Taken.{factor_of-drop}
use Rattle.exact_simplex.proofs.LowSteps.{factor_kept, factor_small}
use Rattle.exact_simplex.proofs.lows.factor_slopes.Goals as goal

pub loop-term-preserved : goal.loop-term-preserved
loop-term-preserved c =
    let none : Term = record { column = 0; factor = pos 0 } in
    let k = c.loop-term.term-index in
    let term : Term = get_or c.args.terms.now k none in
    let slopes = c.loop-term.slopes.items in
    let there = c.requires.columns k none c.loop-term-test.true in
    let small = c.requires.factors k none c.loop-term-test.true in
    let within : term.column < length slopes = omega (arith, there, c.loop-term.invariant.size) in
    let fits : FitsSigned w64 c.added-sum.result = search rules in
    let first : FitsSigned w64 c.index.result.now = search rules in
    let second : FitsSigned w32 term.factor = search rules in
    let sum = simp to_z-of_z at c.added-sum.ensures in
    let is : c.added-sum.result ≡ get_or slopes term.column (pos 0) +ℤ term.factor = sum ∙ ap (λ z. z +ℤ term.factor) (get_or_read slopes term.column c.index.result.now within c.index.ensures (pos 0)) in
    simp to_z-of_z (record {
      size = length-set slopes term.column c.added-sum.result ∙ c.loop-term.invariant.size;
      so_far = λ j. factor_kept slopes term.column j term.factor c.added-sum.result _ _ within is (rw (factor_of-drop c.args.terms.now k none j c.loop-term-test.true) at (c.loop-term.invariant.so_far j));
      small = λ j. (let size = factor_small slopes term.column j term.factor c.added-sum.result _ within c.loop-term.invariant.small small is in omega (arith, size));
    })
