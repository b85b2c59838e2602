use Rattle.std.proofs.Common.{◌∙◌, ap, sym, List}
use Rattle.ras_table.specs.Rows.{row_of}
use Rattle.ras_table.specs.declared.rows.Kind.{Kind}
use Rattle.ras_table.proofs.RowsLemmas.{row-of-kinds}
use Rattle.ras_inventory.specs.Bounds.{kinds}
use Rattle.ras_inventory.proofs.bound.bound_at.Goals as goal

pub bound_of-requires : goal.bound_of-requires
bound_of-requires c =
    row-of-kinds kinds c.args.fields.now c.in-Ok.row (ap (λ (k : List Kind). row_of k c.args.fields.now) (sym c.bindings_schema.ensures.kinds) ∙ c.in-Ok.ensures)
