use Rattle.std.proofs.Common.{◌<◌, length, take, arith, ap, sym, ◌∙◌}
use Rattle.symmetry_classes.specs.declared.groups.Class.{Class as Group}
use Rattle.ras_rounds.specs.Mends.{clear, is_touched}
use Rattle.ras_rounds.proofs.MendSteps.{cleared-kept, cleared-left, cleared-length, same-read}
use Rattle.ras_rounds.proofs.mend.loose_flags.Goals as goal
use Rattle.ras_rounds.proofs.mend.loose_flags.Goals.{then-not-is_touched, else-not-is_touched}

pub loop-i-preserved : goal.loop-i-preserved
loop-i-preserved c =
    let touched = is_touched c.args.changes.now.flags.items c.args.changes.now.joiners.items in
    let classes = c.args.classes.now in
    let flags = c.into_vec-flags.result.items in
    let read = c.index-classes-i in
    let within : c.loop-i.i < length c.args.classes.now = omega (arith, c.loop-i-test.true) in
    elim c.if-not-is_touched.branch [
      | then-not-is_touched w ↦ (
          let again = w.index-classes-i-then-not-is_touched in
          ap (λ v. v.items) w.flags-is ∙ w.clear.ensures
          ∙ ap (λ ms. clear ms c.loop-i.flags.items) (w.as_slice.ensures.items ∙ ap (λ (g : Group). g.members) (sym again.is ∙ same-read classes c.loop-i.i again.result read.result within again.is read.is))
          ∙ ap (λ fs. clear read.result.members fs) c.loop-i.invariant
          ∙ sym (cleared-kept touched classes c.loop-i.i read.result flags within read.is (sym c.is_touched.ensures ∙ w.if-not-is_touched.true))
          )
      | else-not-is_touched w ↦ ap (λ v. v.items) w.flags-is ∙ c.loop-i.invariant
          ∙ sym (cleared-left touched classes c.loop-i.i read.result flags within read.is (sym c.is_touched.ensures ∙ w.if-not-is_touched.false))
    ]

pub from_vec-requires : goal.from_vec-requires
from_vec-requires c =
    let touched = is_touched c.args.changes.now.flags.items c.args.changes.now.joiners.items in
    omega (arith, ap length c.loop-i.invariant, cleared-length touched (take c.loop-i.i c.args.classes.now) c.into_vec-flags.result.items, c.into_vec-flags.ensures.few)

pub returns-clause-as_many : goal.returns-clause-as_many
returns-clause-as_many c =
    let touched = is_touched c.args.changes.now.flags.items c.args.changes.now.joiners.items in
    omega (
      arith,
      ap length c.from_vec.ensures,
      ap length c.loop-i.invariant,
      cleared-length touched (take c.loop-i.i c.args.classes.now) c.into_vec-flags.result.items,
      ap length c.into_vec-flags.ensures.items,
      c.in_ok-movables.ensures.as_many,
    )
