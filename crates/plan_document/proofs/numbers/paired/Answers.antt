use Rattle.std.proofs.Common.{arith, rules, ◌∙◌, ◌<◌, ◌+◌, ◌++◌, ◌∷◌, [], sym, ap, ℕ, List, Option, None, drop, length, length-append, get_or, Vec}
use Rattle.std.specs.declared.alloc.Global.{Global}
use Rattle.plan_document.specs.Numbers.{paired}
use Rattle.plan_document.specs.declared.shape.Pair.{Pair}
use Rattle.plan_document.proofs.NumbersLemmas.{with_front, paired-first, paired-second}
use Rattle.plan_document.proofs.numbers.paired.Goals as goal
use Rattle.plan_document.proofs.numbers.paired.Goals.{in-Some+in_ok-push-in-Some, in-None}

pub loop-number-preserved : goal.loop-number-preserved
loop-number-preserved c =
    let ns : List ℕ = c.args.numbers.now in
    let i : ℕ = c.loop-number.number-index in
    let less : i < length ns = search rules in
    let found : List Pair = c.loop-number.found.items in
    let now : List ℕ = drop (i + 1) ns in
    elim c.match-pending.branch [
      | in-Some+in_ok-push-in-Some w ↦
          let so = ap (λ (o : Option ℕ). with_front found (paired o (drop i ns))) (sym w.in-Some.is) ∙ c.loop-number.invariant.0 in
          let more : List Pair = record { row = w.in-Some.row; num = get_or ns i 0 } ∷ [] in (
            ap (λ (v : Vec Pair Global). with_front v.items (paired c.match-pending.pending now)) w.found-is
                ∙ (ap (λ (ps : List Pair). with_front ps (paired c.match-pending.pending now)) w.in_ok-push-in-Some.ensures.items
                ∙ (ap (λ (o : Option ℕ). with_front (found ++ more) (paired o now)) w.pending-is
                ∙ paired-second found w.in-Some.row ns i 0 (paired None ns) less so)),
            omega (arith, ap (λ (v : Vec Pair Global). length v.items) w.found-is, ap length w.in_ok-push-in-Some.ensures.items, length-append found more, c.loop-number.invariant.1),
          )
      | in-None w ↦
          let so = ap (λ (o : Option ℕ). with_front found (paired o (drop i ns))) (sym w.in-None.is) ∙ c.loop-number.invariant.0 in (
            ap (λ (v : Vec Pair Global). with_front v.items (paired c.match-pending.pending now)) w.found-is
                ∙ (ap (λ (o : Option ℕ). with_front found (paired o now)) w.pending-is
                ∙ paired-first found ns i 0 (paired None ns) less so),
            omega (arith, ap (λ (v : Vec Pair Global). length v.items) w.found-is, c.loop-number.invariant.1),
          )
    ]
