use Rattle.std.proofs.Common.{◌≡◌, ◌∙◌, List, ℕ, ap, sym, subst, true}
use Rattle.std.specs.Prelude.{Option, replicate}
use Rattle.spare_pool.specs.declared.standings.Standing.{Standing}
use Rattle.spare_pool.specs.States.{state_rule, down}
use Rattle.spare_pool.specs.Sums.{AreUnits}
use Rattle.spare_pool.specs.Firsts.{AreFirsts}
use Rattle.spare_pool.proofs.StartFacts.{all_down, down-rule, down-units, down-firsts}
use Rattle.spare_pool.proofs.pool.Pool.all_down.Goals as goal

pub invariant_of-result : goal.invariant_of-result
invariant_of-result c =
    let servers = c.in_ok-servers.ensures ∙ ap (λ n. replicate n down) c.len-count.ensures in
    let units = c.in_ok-units.ensures ∙ ap (λ n. replicate n (let nothing : ℕ = 0 in nothing)) c.len-wants.ensures in (
      subst (λ (xs : List Standing). state_rule (record { case = c.args.case; servers = xs }) ≡ true) (sym servers) (down-rule c.args.case),
      subst (λ (xs : List Standing). AreUnits (record { case = c.args.case; servers = xs }) c.in_ok-units.units) (sym servers)
          (subst (λ (ys : List ℕ). AreUnits (all_down c.args.case) ys) (sym units) (down-units c.args.case)),
      subst (λ (xs : List Standing). AreFirsts (record { case = c.args.case; servers = xs }) c.in_ok-firsts.firsts) (sym servers)
          (subst (λ (ys : List (Option ℕ)). AreFirsts (all_down c.args.case) ys) (sym c.in_ok-firsts.ensures) (down-firsts c.args.case)),
    )
