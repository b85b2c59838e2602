use Rattle.std.proofs.Common.{Bor, List, ℕ, ◌≡◌, ◌∙◌, sym, refl, rules, inl, inr, true, Some, ◌∷◌, ◌++◌, [], ap, arith, length, ◌+◌}
use Rattle.std.specs.Result.{is_ok}
use Rattle.csv.specs.Reading.{Reached, default_config, strip_bom}
use Rattle.csv.specs.Records.{fields_of}
use Rattle.csv.specs.declared.parser.State.TheVariants as st
use Rattle.csv.proofs.ReadFacts.{rows-end, rows-more}
use Rattle.ras_table.proofs.RecordsLemmas.{reached-all}
use Rattle.ras_table.proofs.RecordSizes.{last-sized, reached-sizes, text-short}
use Rattle.ras_table.proofs.records.read_records.Goals as goal

pub loop-row-init : goal.loop-row-init
unfolding Reached
loop-row-init c =
    let fr = c.from_reader-reader.ensures in
    let start = c.into_iter-row-iterator.ensures.into_iter_gives ∙ refl in
    let rdr = c.into_byte_records-row-items.ensures.rdr in
    let left = c.into_byte_records-row-items.ensures.left in
    rw (start, rdr, c.new-records.ensures.items) (
      rw (c.flexible.ensures, c.has_headers.ensures) at fr.trim ∙ c.new.ensures.trim,
      inr (inr (rw (c.flexible.ensures, c.has_headers.ensures) at fr.has_headers, fr.headers)),
      left,
      rw (c.flexible.ensures, c.has_headers.ensures) at fr.config ∙ c.new.ensures.config,
      strip_bom (strip_bom c.args.bytes.now),
      rw c.without_mark-text.ensures at fr.source,
      (sym fr.state, refl),
    )

pub loop-row-preserved : goal.loop-row-preserved
loop-row-preserved c =
    let inv = c.loop-row.invariant in
    let s = rw (c.in-Some.is, c.in-Ok.is) at ((c.next.ensures.steps inv.2 inv.0).0 inv.1) in
    let items = c.in_ok-push.ensures.items in
    let m = rows-more (λ (s : Bor (List ℕ)). Some s.now) c.loop-row.row-iterator.rdr c.next.new.self.rdr (fields_of c.in-Ok.row) default_config st.StartRecord (strip_bom (strip_bom c.args.bytes.now)) inv.4 c.loop-row.records.items inv.3 inv.5 inv.6 s.0 in
    (s.0.3 ∙ inv.0, inl s.1, s.2, s.0.2 ∙ inv.3, m.0, m.1, rw (items, c.in_ok-record_of.ensures) m.2)

pub returns : goal.returns
returns c =
    let inv = c.loop-row.invariant in
    let s = rw c.in-None.is at ((c.next.ensures.steps inv.2 inv.0).0 inv.1) in
    let text = strip_bom (strip_bom c.args.bytes.now) in
    c.from_vec.ensures ∙ reached-all c.loop-row.records.items (length text + 1) st.StartRecord c.loop-row.row-iterator.rdr.state text inv.4 refl (omega arith) inv.6
    (rows-end (λ (s : Bor (List ℕ)). Some s.now) c.loop-row.row-iterator.rdr c.next.new.self.rdr [] default_config inv.4 inv.3 inv.5 s)

pub record_of-requires-clause-few : goal.record_of-requires-clause-few
record_of-requires-clause-few c =
    let inv = c.loop-row.invariant in
    let s = rw (c.in-Some.is, c.in-Ok.is) at ((c.next.ensures.steps inv.2 inv.0).0 inv.1) in
    let text = strip_bom (strip_bom c.args.bytes.now) in
    let m = rows-more (λ (s : Bor (List ℕ)). Some s.now) c.loop-row.row-iterator.rdr c.next.new.self.rdr (fields_of c.in-Ok.row) default_config st.StartRecord text inv.4 c.loop-row.records.items inv.3 inv.5 inv.6 s.0 in
    let sized = reached-sizes 67108864 (c.loop-row.records.items ++ fields_of c.in-Ok.row ∷ []) st.StartRecord c.next.new.self.rdr.state text m.0 refl (text-short c.args.bytes.now 67108864 c.requires) m.2 in
    let last = last-sized 67108864 c.loop-row.records.items (fields_of c.in-Ok.row) sized.each in
    omega (arith, last.few)

pub record_of-requires-clause-short : goal.record_of-requires-clause-short
record_of-requires-clause-short c =
    let inv = c.loop-row.invariant in
    let s = rw (c.in-Some.is, c.in-Ok.is) at ((c.next.ensures.steps inv.2 inv.0).0 inv.1) in
    let text = strip_bom (strip_bom c.args.bytes.now) in
    let m = rows-more (λ (s : Bor (List ℕ)). Some s.now) c.loop-row.row-iterator.rdr c.next.new.self.rdr (fields_of c.in-Ok.row) default_config st.StartRecord text inv.4 c.loop-row.records.items inv.3 inv.5 inv.6 s.0 in
    let sized = reached-sizes 67108864 (c.loop-row.records.items ++ fields_of c.in-Ok.row ∷ []) st.StartRecord c.next.new.self.rdr.state text m.0 refl (text-short c.args.bytes.now 67108864 c.requires) m.2 in
    let last = last-sized 67108864 c.loop-row.records.items (fields_of c.in-Ok.row) sized.each in
    last.short

pub from_vec-requires : goal.from_vec-requires
from_vec-requires c =
    let inv = c.loop-row.invariant in
    let text = strip_bom (strip_bom c.args.bytes.now) in
    let few = text-short c.args.bytes.now 67108864 c.requires in
    let sized = reached-sizes 67108864 c.loop-row.records.items st.StartRecord c.loop-row.row-iterator.rdr.state text inv.4 refl few inv.6 in
    omega (arith, sized.count, few)
