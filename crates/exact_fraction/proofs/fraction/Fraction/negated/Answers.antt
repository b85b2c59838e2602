use Rattle.std.proofs.Common.{rules, FitsSigned, to_z-of_z, arith, pos, ◌-ℤ◌}
use Rattle.std.proofs.lemmas.Int.{fits_signed_from_abs}
use Rattle.std.specs.Int.{w128}
use Rattle.exact_fraction.proofs.Others.{same_size, turned_lowest}
use Rattle.exact_fraction.proofs.fraction.Fraction.negated.Goals as goal

pub invariant_of-result : goal.invariant_of-result
invariant_of-result c =
    let num : FitsSigned w128 c.args.self.num = search rules in
    let den : FitsSigned w128 c.args.self.den = search rules in
    let turned : FitsSigned w128 (pos 0 -ℤ c.args.self.num) = fits_signed_from_abs w128 _ (omega (arith, same_size c.args.self.num, c.args.self.lowest.num_small.most)) in
    simp to_z-of_z (record { lowest = turned_lowest c.args.self.num c.args.self.den c.args.self.lowest })
