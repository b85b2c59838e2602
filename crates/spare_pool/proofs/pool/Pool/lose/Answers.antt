use Rattle.std.proofs.Common.{◌≡◌, ◌<◌, ◌∙◌, ℕ, ap, sym, subst, length, arith}
use Rattle.std.specs.Prelude.{Option, IfSome}
use Rattle.std.proofs.lemmas.List.{length-set}
use Rattle.spare_pool.specs.States.{State, down, value_of}
use Rattle.spare_pool.specs.Steps.{IsFilled, IsLoss}
use Rattle.spare_pool.proofs.pool.Pool.lose.Goals as goal

pub value-lost-requires-clause-in_range : goal.value-lost-requires-clause-in_range
value-lost-requires-clause-in_range c =
    let lost = subst (λ (o : Option ℕ). IfSome o (λ r. (r < length c.args.self.now.case.wants) × (0 < value_of c.args.self.now r c.args.server))) c.in-Some.is c.requires.lost in
    subst (λ (t : State). c.in-Some.r < length t.case.wants) (sym c.put.ensures) lost.0

pub value-lost-requires-clause-there : goal.value-lost-requires-clause-there
value-lost-requires-clause-there c =
    subst (λ (t : State). c.args.server < length t.servers) (sym c.put.ensures)
    (let long = length-set c.args.self.now.servers c.args.server down in omega (arith, long, c.requires.there))

pub fill-requires-clause-in_range : goal.fill-requires-clause-in_range
fill-requires-clause-in_range c =
    let lost = subst (λ (o : Option ℕ). IfSome o (λ r. (r < length c.args.self.now.case.wants) × (0 < value_of c.args.self.now r c.args.server))) c.in-Some.is c.requires.lost in
    subst (λ (t : State). c.in-Some.r < length t.case.wants) (sym c.put.ensures) lost.0

pub fill-requires-clause-some : goal.fill-requires-clause-some
fill-requires-clause-some c =
    let lost = subst (λ (o : Option ℕ). IfSome o (λ r. (r < length c.args.self.now.case.wants) × (0 < value_of c.args.self.now r c.args.server))) c.in-Some.is c.requires.lost in
    let same : c.value-lost.result ≡ value_of c.args.self.now c.in-Some.r c.args.server = c.value-lost.ensures ∙ ap (λ (t : State). value_of t c.in-Some.r c.args.server) c.put.ensures in
    omega (arith, same, lost.1)

pub returns-in-Some : goal.returns-in-Some
returns-in-Some c =
    let same : c.value-lost.result ≡ value_of c.args.self.now c.in-Some.r c.args.server = c.value-lost.ensures ∙ ap (λ (t : State). value_of t c.in-Some.r c.args.server) c.put.ensures in
    subst (λ (o : Option ℕ). IsLoss c.args.self.now c.args.server o c.fill.result c.fill.new.self) (sym c.in-Some.is)
    (subst (λ (t : State). IsFilled t c.in-Some.r (value_of c.args.self.now c.in-Some.r c.args.server) c.fill.result c.fill.new.self) c.put.ensures
    (subst (λ (n : ℕ). IsFilled c.put.new.self c.in-Some.r n c.fill.result c.fill.new.self) same c.fill.ensures))
