use Rattle.std.proofs.Common.{rules, arith, FitsSigned, to_z-of_z, refl}
use Rattle.std.proofs.lemmas.Int.{ints}
use Rattle.std.specs.Int.{w64, w128}
use Rattle.exact_fraction.proofs.Coprime.{gcd_one}
use Rattle.exact_fraction.proofs.fraction.whole.Goals as goal

pub invariant_of-result : goal.invariant_of-result
invariant_of-result c =
    let narrow : FitsSigned w64 c.from.result = search rules in
    let wide : FitsSigned w128 c.from.result = omega (arith, ints) in
    simp to_z-of_z (record { lowest = record { num_small = record { most = omega (arith, ints) }; den_small = record { most = omega arith }; den_is = refl; den_above_none = omega arith; lowest = gcd_one _ _ (λ e p q. q) } })
