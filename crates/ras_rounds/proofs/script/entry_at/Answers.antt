use Rattle.std.proofs.Common.{ap, sym, ◌∙◌}
use Rattle.ras_table.specs.Rows.{row_of}
use Rattle.ras_rounds.proofs.ScriptWithin.{round-range}
use Rattle.ras_rounds.proofs.script.entry_at.Goals as goal

pub entry_of-requires : goal.entry_of-requires
entry_of-requires c = round-range c.args.fields.now c.in-Ok.row (ap (λ ks. row_of ks c.args.fields.now) (sym c.script_schema.ensures.kinds) ∙ c.in-Ok.ensures)
