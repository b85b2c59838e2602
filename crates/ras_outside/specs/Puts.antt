-- What one put makes of a sink.
use Rattle.std.specs.Prelude.{ℕ, ◌-◌, ◌≡◌, ⊤, List, ◌++◌, length, take, Option, Result, Ok, Err}
use Rattle.std.specs.Io.KnownBytes.{Appends}
use Rattle.ras_outside.specs.declared.sink.SinkFailed.{SinkFailed}
use Rattle.ras_outside.specs.Causes.{AppendsSome, raised}
use Rattle.ras_outside.specs.Memory.{Sunk}

-- a writer got the piece, and at a fault a front of it; only a fault is counted
abbrev pub WriterPuts : Option (List ℕ) → ℕ → List ℕ → Result ⊤ SinkFailed → Option (List ℕ) → ℕ → Type 0
WriterPuts old faults piece (Ok _) new faults' = Appends old new piece × (faults' ≡ faults)
WriterPuts old faults piece (Err _) new faults' = AppendsSome old new piece × (faults' ≡ raised 1 faults)

-- a sink in memory after a put of which it took these bytes, so that its room is less by their number
abbrev pub after_put : Sunk → List ℕ → Sunk
after_put s bytes = record s { written = s.written ++ bytes; puts = raised 1 s.puts; room = s.room - length bytes }

-- a sink in memory took the piece, and at a fault a front of it; only a fault is counted
abbrev pub MemoryPuts : Sunk → List ℕ → Result ⊤ SinkFailed → Sunk → Type 0
MemoryPuts s piece (Ok _) t = t ≡ after_put s piece
MemoryPuts s piece (Err _) t = (n : ℕ) × (t ≡ record (after_put s (take n piece)) { failed = raised 1 s.failed })
