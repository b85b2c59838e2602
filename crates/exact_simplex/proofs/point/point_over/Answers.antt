use Rattle.std.proofs.Common.{ℕ, ◌≡◌, ◌+◌, ◌*◌, pos, ◌-ℤ◌, slice_index, ◌≤◌, ◌<◌, ◌^◌, List, All, subst, sym, unsigned_abs}
use Rattle.std.specs.Prelude.{IsTrue}
use Rattle.std.specs.Int.{◌∣◌}
use Rattle.std.proofs.lemmas.List.{get_or_read}
use Rattle.ip_model.specs.Rule.{point_rule}
use Rattle.ip_model.proofs.RuleFacts.{point_rule_of}
use Rattle.exact_fraction.specs.declared.fraction.Fraction.{Fraction}
use Rattle.exact_fraction.specs.Exact.{IsRatio}
use Rattle.exact_simplex.specs.Cells.{no_fraction}
use Rattle.exact_simplex.proofs.PointSteps.{point_pushed}
use Rattle.exact_simplex.proofs.point.point_over.Goals as goal

pub number_over-number-requires-clause-over : goal.number_over-number-requires-clause-over
number_over-number-requires-clause-over c =
    let read = get_or_read c.args.steps.now c.loop-j.j c.index-steps-j.result c.loop-j-test.true c.index-steps-j.is no_fraction in
    subst (λ (f : Fraction). unsigned_abs f.den ∣ c.args.den) (sym read) (c.requires.den.over c.loop-j.j c.loop-j-test.true)

pub loop-j-preserved : goal.loop-j-preserved
loop-j-preserved c =
    let read = get_or_read c.args.steps.now c.loop-j.j c.index-steps-j.result c.loop-j-test.true c.index-steps-j.is no_fraction in
    rw (c.in_ok-push.ensures.items, c.in_ok-push-2.ensures.items) (point_pushed c.args.steps.now c.args.low.now c.loop-j.whole.items c.loop-j.part.items c.args.den c.loop-j.j _ _ c.loop-j.invariant c.number_over-number.ensures.part (subst (λ (f : Fraction). IsRatio f.num f.den (pos (c.number_over-number.result.0 * c.args.den + c.number_over-number.result.1) -ℤ pos (c.args.den * slice_index c.args.low.now c.loop-j.j)) (pos c.args.den)) read c.number_over-number.ensures.value))

point_kept : (den : ℕ) (whole part w p : List ℕ) → w ≡ whole → p ≡ part → 1 ≤ den → den ≤ 2 ^ 60 → All (λ n. n < den) part → IsTrue (point_rule den w p)
point_kept den whole part w p is_w is_p some most below = point_rule_of den w p some most (subst (λ (xs : List ℕ). All (λ n. n < den) xs) (sym is_p) below)

pub invariant_of-result : goal.invariant_of-result
invariant_of-result c = record { kept = point_kept c.args.den c.loop-j.whole.items c.loop-j.part.items c.from_vec.result c.from_vec-2.result c.from_vec.ensures c.from_vec-2.ensures c.requires.den.some c.requires.den.most c.loop-j.invariant.below }
