use Rattle.std.proofs.Common.{◌≡◌, ◌∙◌, Bool, true, false, ap, sym, subst, refl}
use Rattle.spare_pool.specs.declared.standings.Standing.{Standing}
use Rattle.spare_pool.specs.declared.standings.Outcome.TheVariants.{Stale}
use Rattle.spare_pool.specs.States.{standing_of}
use Rattle.spare_pool.specs.Steps.{IsLoss, IsFail}
use Rattle.spare_pool.proofs.pool.Pool.fail.Goals as goal

pub returns-then-up : goal.returns-then-up
returns-then-up c =
    let up : (standing_of c.args.self.now c.args.server).up ≡ true = sym (ap (λ (x : Standing). x.up) c.standing-now.ensures.at) ∙ c.if-up.true in
    subst (λ (b : Bool). IsFail c.args.self.now c.args.server b c.lose.result c.lose.new.self) (sym up)
    (subst (λ (x : Standing). IsLoss c.args.self.now c.args.server x.serves c.lose.result c.lose.new.self) c.standing-now.ensures.at c.lose.ensures)

pub returns-else-up : goal.returns-else-up
returns-else-up c =
    let down : (standing_of c.args.self.now c.args.server).up ≡ false = sym (ap (λ (x : Standing). x.up) c.standing-now.ensures.at) ∙ c.if-up.false in
    subst (λ (b : Bool). IsFail c.args.self.now c.args.server b Stale c.args.self.now) (sym down) (refl, refl)
