use Rattle.std.proofs.Common.{◌≡◌, sym, subst, slice_index_or, ◌+◌, ◌-◌, ◌/◌, ◌<◌, ◌≤◌, arith, refl, length}
use Rattle.std.proofs.lemmas.Option.{slice_get_read}
use Rattle.exact_simplex.specs.declared.tableau_row.Kept.{Kept}
use Rattle.exact_simplex.proofs.KeptFacts.{after_middle, before_middle}
use Rattle.exact_simplex.proofs.tableau_row.first_from.Goals as goal

pub loop-low-preserved-then-kept-middle : goal.loop-low-preserved-then-kept-middle
loop-low-preserved-then-kept-middle c =
    let order = c.loop-low-test.true in
    let most = c.loop-low.invariant.most in
    let m = c.loop-low.low + (c.loop-low.high - c.loop-low.low) / 2 in
    let there : m < length c.args.kept.now = omega arith in
    let is = slice_get_read c.args.kept.now (length c.args.kept.now) m c.index-kept-middle.result refl there c.index-kept-middle.is in
    let same : c.index-kept-middle.result ≡ slice_index_or c.args.kept.now m c.index-kept-middle.result = c.index-kept-middle.is in
    record {
      order = omega arith;
      most = most;
      before = before_middle c.args.kept.now c.args.column m c.index-kept-middle.result c.requires is (subst (λ (k : Kept). k.column < c.args.column) (sym same) c.if-kept-middle.true);
      after = c.loop-low.invariant.after;
    }

pub loop-low-preserved : goal.loop-low-preserved
loop-low-preserved c =
    let order = c.loop-low-test.true in
    let most = c.loop-low.invariant.most in
    let m = c.loop-low.low + (c.loop-low.high - c.loop-low.low) / 2 in
    let there : m < length c.args.kept.now = omega arith in
    let is = slice_get_read c.args.kept.now (length c.args.kept.now) m c.index-kept-middle.result refl there c.index-kept-middle.is in
    let same : c.index-kept-middle.result ≡ slice_index_or c.args.kept.now m c.index-kept-middle.result = c.index-kept-middle.is in
    record {
      order = omega arith;
      most = omega arith;
      before = c.loop-low.invariant.before;
      after = after_middle c.args.kept.now c.args.column m c.index-kept-middle.result c.requires is (subst (λ (k : Kept). c.args.column ≤ k.column) (sym same) c.if-kept-middle.false);
    }
