use Rattle.std.proofs.Common.{◌≡◌, ◌+◌, ◌<◌, ◌≤◌, ℕ, Bool, true, false, cond, List, length, All, arith, sym, subst}
use Rattle.std.proofs.lemmas.List.Elements.{All-push, All-weaker}
use Rattle.steady_plans.proofs.tried.none_tried.Goals as goal

grows : (b : Bool) (m n : ℕ) → m ≡ n + cond b 1 0 → (n ≤ m) × (m ≤ n + 1)
grows true m n h = (omega (arith, h), omega (arith, h))
grows false m n h = (omega (arith, h), omega (arith, h))

pub loop-server-preserved : goal.loop-server-preserved
loop-server-preserved c =
    let before = length c.loop-server.found.keys in
    let after = length c.insert_full.new.self.keys in
    let more = grows c.in_ok-number.field-0-1 after before c.in_ok-number.ensures.len in (
      omega (arith, more.1, c.loop-server.invariant.0),
      omega (arith, c.in_ok-push.ensures.len, c.loop-server.invariant.1),
      subst (λ (ns : List ℕ). All (λ n. n < after) ns) (sym c.in_ok-push.ensures.items)
          (All-push (λ n. n < after) c.loop-server.likeness.items c.in_ok-number.number
          (All-weaker (λ n. n < before) (λ n. n < after) (λ n less. omega (arith, less, more.0)) c.loop-server.likeness.items c.loop-server.invariant.2) c.in_ok-number.ensures.within),
    )
