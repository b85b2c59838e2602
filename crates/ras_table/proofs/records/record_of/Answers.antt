use Rattle.std.proofs.Common.{arith, ◌≡◌, ◌∙◌, sym}
use Rattle.ras_table.proofs.RecordsLemmas.{take-found, take-none}
use Rattle.ras_table.proofs.RecordSizes.{field-short}
use Rattle.csv.specs.Records.{fields_of}
use Rattle.ras_table.proofs.records.record_of.Goals as goal
use Rattle.ras_table.proofs.records.record_of.Goals.{in-Some+in_ok-field_of+in_ok-push, in_default}

pub loop-i-preserved : goal.loop-i-preserved
loop-i-preserved c =
    elim c.match-get.branch [
      | in-Some+in_ok-field_of+in_ok-push w ↦
          rw (w.fields-is, w.in_ok-push.ensures.items, w.in_ok-field_of.ensures, c.loop-i.invariant)
          (sym (take-found (fields_of c.args.row.now) c.loop-i.i w.in-Some.field.now w.in-Some.ensures.value))
      | in_default w ↦ rw w.fields-is (c.loop-i.invariant ∙ sym (take-none (fields_of c.args.row.now) c.loop-i.i (rw w.in_default.is at c.get.ensures.value)))
    ]

pub field_of-requires : goal.field_of-requires
field_of-requires c =
    let short = field-short 67108864 (fields_of c.args.row.now) c.loop-i.i c.in-Some.field.now c.requires.short c.in-Some.ensures.value in
    omega (arith, short)
