use Rattle.std.proofs.Common.{subst, sym}
use Rattle.std.specs.Str.{IsUtf8}
use Rattle.ras_table.proofs.NameTexts.{name-utf8}
use Rattle.ras_table.proofs.name.Name.text.Goals as goal

pub unreachable-requires : goal.unreachable-requires
unreachable-requires c =
    c.in-Err.ensures.cases.0 (subst IsUtf8 (sym c.bytes.ensures.bytes) (name-utf8 c.args.self.now c.bytes.ensures.name))
