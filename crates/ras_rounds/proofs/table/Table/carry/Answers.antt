use Rattle.std.proofs.Common.{◌≡◌, length, arith, ap, ◌∙◌}
use Rattle.ras_rounds.specs.Rounds.{region_classes}
use Rattle.ras_rounds.specs.Mends.{changed_flags, joiners_of}
use Rattle.ras_rounds.proofs.CarryFacts.{IsReady, after-long, mended-table, region-few}
use Rattle.ras_rounds.proofs.table.Table.carry.Goals as goal

pub changes_between-requires : goal.changes_between-requires
changes_between-requires c =
    omega (
      arith,
      ap length c.as_slice-2.ensures.items,
      ap length c.as_slice.ensures.items,
      after-long c.args.case.now c.in_ok-after.after c.args.mover.now c.in_ok-after.ensures c.requires.servers,
    )

pub from_vec-requires-2 : goal.from_vec-requires-2
from_vec-requires-2 c =
    let before = c.args.case.now in
    let after = c.in_ok-after.after in
    let changes = c.in_ok-changes.changes in
    let was : c.reserve.new.self.items ≡ region_classes c.args.case.now = cc in
    let held : c.as_slice-3.result.now ≡ region_classes c.args.case.now = cc in
    let fresh : c.into_vec.result.items ≡ c.in_ok-fresh.fresh.list = c.into_vec.ensures.items in
    let ready : IsReady c.args.case.now c.in_ok-after.after c.in_ok-changes.changes.flags.items c.in_ok-changes.changes.joiners.items c.reserve.new.self.items c.as_slice-3.result.now c.into_vec.result.items c.in_ok-loose.loose =
    record {
      flags_are = c.in_ok-changes.ensures.flags ∙ ap (λ ps. changed_flags ps c.as_slice-2.result.now) c.as_slice.ensures.items ∙ ap (changed_flags c.args.case.now.places) c.as_slice-2.ensures.items;
      joiners_are = c.in_ok-changes.ensures.joiners ∙ ap (λ ps. joiners_of ps c.as_slice-2.result.now) c.as_slice.ensures.items ∙ ap (joiners_of c.args.case.now.places) c.as_slice-2.ensures.items;
      kept_is = was;
      old_is = held;
      loose_is = c.in_ok-loose.ensures.flags;
      fresh_is = fresh ∙ c.in_ok-fresh.ensures;
    } in
    let settled = mended-table before after c.args.mover.now changes.flags.items changes.joiners.items c.reserve.new.self.items c.as_slice-3.result.now c.into_vec.result.items c.in_ok-loose.loose c.settle.new.classes.items
    c.in_ok-after.ensures c.requires.servers ready c.settle.ensures.moved c.settle.ensures.sorted in
    omega (arith, ap length settled, region-few after)

pub returns-clause-classes : goal.returns-clause-classes
returns-clause-classes c =
    let before = c.args.case.now in
    let after = c.in_ok-after.after in
    let changes = c.in_ok-changes.changes in
    let was : c.reserve.new.self.items ≡ region_classes c.args.case.now = cc in
    let held : c.as_slice-3.result.now ≡ region_classes c.args.case.now = cc in
    let fresh : c.into_vec.result.items ≡ c.in_ok-fresh.fresh.list = c.into_vec.ensures.items in
    let ready : IsReady c.args.case.now c.in_ok-after.after c.in_ok-changes.changes.flags.items c.in_ok-changes.changes.joiners.items c.reserve.new.self.items c.as_slice-3.result.now c.into_vec.result.items c.in_ok-loose.loose =
    record {
      flags_are = c.in_ok-changes.ensures.flags ∙ ap (λ ps. changed_flags ps c.as_slice-2.result.now) c.as_slice.ensures.items ∙ ap (changed_flags c.args.case.now.places) c.as_slice-2.ensures.items;
      joiners_are = c.in_ok-changes.ensures.joiners ∙ ap (λ ps. joiners_of ps c.as_slice-2.result.now) c.as_slice.ensures.items ∙ ap (joiners_of c.args.case.now.places) c.as_slice-2.ensures.items;
      kept_is = was;
      old_is = held;
      loose_is = c.in_ok-loose.ensures.flags;
      fresh_is = fresh ∙ c.in_ok-fresh.ensures;
    } in
    let settled = mended-table before after c.args.mover.now changes.flags.items changes.joiners.items c.reserve.new.self.items c.as_slice-3.result.now c.into_vec.result.items c.in_ok-loose.loose c.settle.new.classes.items
    c.in_ok-after.ensures c.requires.servers ready c.settle.ensures.moved c.settle.ensures.sorted in
    c.from_vec-2.ensures ∙ settled
