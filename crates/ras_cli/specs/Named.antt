-- Files by their names.
use Rattle.std.specs.Prelude.{ℕ, Bool, List, nat_le, ◌&&◌}
use Rattle.ras_cli.specs.declared.files.Named.{Named}

-- a file's name, and the most bytes that it may have
abbrev pub limited : Named → List ℕ × ℕ
limited file = (file.name.now, file.most)

-- 16 MiB or more, and 64 MiB or less
abbrev pub has_limit : Named → Bool
has_limit file = nat_le 16777216 file.most && nat_le file.most 67108864
