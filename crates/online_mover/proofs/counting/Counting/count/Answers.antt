use Rattle.std.proofs.Common.{◌≡◌, ◌∙◌, ℕ, List, sym, ap, Some, None}
use Rattle.std.specs.Prelude.{Option}
use Rattle.online_mover.specs.Sums.{Counted}
use Rattle.std.proofs.lemmas.List.{set-set}
use Rattle.online_mover.specs.Sums.{with_count}
use Rattle.online_mover.proofs.counting.Counting.count.Goals as goal

again : (v : Counted) (s r : ℕ) → with_count (with_count v s None) s (Some r) ≡ with_count v s (Some r)
again v s r = ap (λ (of : List (Option ℕ)). let w : Counted = record { case = v.case; counts = record { of = of } } in w) (set-set v.counts.of s None (Some r))

pub returns-in-Some : goal.returns-in-Some
returns-in-Some c =
    c.enter.ensures ∙ ap (λ (v : Counted). with_count v c.args.server (Some c.in-Some.r)) c.leave.ensures
    ∙ again c.args.self.now c.args.server c.in-Some.r ∙ ap (with_count c.args.self.now c.args.server) (sym c.in-Some.is)
