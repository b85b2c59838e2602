use Rattle.std.proofs.Common.{◌++◌, ◌∷◌, [], ap, sym, ◌∙◌, arith, length}
use Rattle.std.proofs.lemmas.List.FromFn.{length-range_with_len}
use Rattle.plan_model.proofs.NumberLemmas.{range_more}
use Rattle.conflict_core.proofs.KeepRule.{few-reservations}
use Rattle.conflict_core.proofs.sets.all_of.Goals as goal

pub from_vec-requires : goal.from_vec-requires
from_vec-requires c =
    let many = ap length c.loop-r.invariant ∙ length-range_with_len 0 c.loop-r.r in
    let few = few-reservations c.args.requests.now in
    grind (arith, many, few, c.len-r-end.ensures)

pub loop-r-preserved : goal.loop-r-preserved
loop-r-preserved c = c.in_ok-push.ensures.items ∙ ap (λ xs. xs ++ c.loop-r.r ∷ []) c.loop-r.invariant ∙ sym (range_more c.loop-r.r)
