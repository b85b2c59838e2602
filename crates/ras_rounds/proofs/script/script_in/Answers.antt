use Rattle.std.proofs.Common.{◌∙◌, ◌+◌, ◌∷◌, [], List, ℕ, sym, ap, ap₂, arith, length, drop, length-append}
use Rattle.ras_inventory.specs.RegionRule.{server_names}
use Rattle.ras_rounds.specs.Scripts.{script_from, entry_at}
use Rattle.ras_rounds.specs.declared.entries.Entry.{Entry}
use Rattle.online_mover.proofs.EventFileFacts.{on-ok}
use Rattle.ras_rounds.proofs.ScriptFacts.{script-go}
use Rattle.ras_rounds.proofs.script.script_in.Goals as goal

pub loop-i-preserved : goal.loop-i-preserved
loop-i-preserved c =
    let names : List (List ℕ) = server_names c.args.region.now.servers in
    let i = c.loop-i.i in
    let entries = c.loop-i.entries in
    let entry = c.in_ok-entry.entry in
    let records = c.args.records.now in
    let push = on-ok c.push.result c.if-is_err.ensures.value c.push.ensures.ok in
    let read = sym (ap₂ (entry_at names (i + 1)) c.as_slice.ensures.items c.index-records-i.is) ∙ c.in_ok-entry.ensures in
    let longer = ap length push ∙ length-append entries (entry ∷ []) in (
      ap (λ (l : List Entry). script_from names (i + 1 + 1) l (drop (i + 1) records)) push
          ∙ script-go names i entries records c.index-records-i.result entry _ (omega arith) c.loop-i.invariant.0 read,
      omega (arith, longer, c.loop-i.invariant.1),
    )
