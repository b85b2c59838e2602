use Rattle.std.proofs.Common.{subst, sym, pos, int_div, ◌≡◌, ℕ, FitsSigned, to_z-of_z}
use Rattle.std.specs.Int.{w128}
use Rattle.exact_fraction.proofs.Quotients.{by_one}
use Rattle.exact_fraction.proofs.small.quotient.Goals as goal

pub returns-then-g-eq1 : goal.returns-then-g-eq1
returns-then-g-eq1 c =
    let n : FitsSigned w128 c.args.n = c.ranges.n in
    simp to_z-of_z (subst (λ (g : ℕ). c.args.n ≡ int_div c.args.n (pos g)) (sym c.if-g-eq1.true) (by_one c.args.n))
