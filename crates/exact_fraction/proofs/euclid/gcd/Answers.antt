use Rattle.std.proofs.Common.{sym, subst}
use Rattle.std.specs.Int.{IsGcd}
use Rattle.exact_fraction.proofs.euclid.gcd.Goals as goal

pub returns-then-b-le18446744073709551615 : goal.returns-then-b-le18446744073709551615
returns-then-b-le18446744073709551615 c = subst (λ g. IsGcd c.args.a c.args.b g) (sym c.from.ensures) c.narrow_gcd.ensures
