-- What reading to the end makes of a reader's bytes and of the count of bytes taken.
use Rattle.std.specs.Prelude.{ℕ, ◌+◌, ◌≤◌, ◌≡◌, List, length, Option, Result, Ok, Err, Vec}
use Rattle.std.specs.Io.KnownBytes.{Consumes, IsAtEnd}
use Rattle.std.specs.declared.alloc.Global.{Global}
use Rattle.ras_outside.specs.declared.shelf.ShelfFault.{ShelfFault}
use Rattle.ras_outside.specs.declared.shelf.ShelfFault.TheVariants as fault
use Rattle.ras_outside.specs.Causes.{raised}
use Rattle.ras_outside.specs.Counts.{Filed}

-- these bytes were taken, and counted
abbrev pub Took : Option (List ℕ) → Option (List ℕ) → ℕ → ℕ → List ℕ → Type 0
Took left left' taken taken' bytes = Consumes left left' bytes × (taken' ≡ raised (length bytes) taken)

-- some bytes, up to so many, were taken, and counted
abbrev pub TookUpTo : Option (List ℕ) → Option (List ℕ) → ℕ → ℕ → ℕ → Type 0
TookUpTo left left' taken taken' most = (bytes : List ℕ) × Took left left' taken taken' bytes × (length bytes ≤ most)

-- Ok: all that was left, up to the most. Long: the most and one more byte. Else: some bytes, up to the most.
abbrev pub ReadsWhole : ℕ → Option (List ℕ) → Option (List ℕ) → ℕ → ℕ → Result (Vec ℕ Global) ShelfFault → Type 0
ReadsWhole most left left' taken taken' (Ok found) = Took left left' taken taken' found.items × IsAtEnd left' × (length found.items ≤ most)
ReadsWhole most left left' taken taken' (Err fault.Long) = (bytes : List ℕ) × Took left left' taken taken' bytes × (length bytes ≡ most + 1)
ReadsWhole most left left' taken taken' (Err fault.Failed) = TookUpTo left left' taken taken' most
ReadsWhole most left left' taken taken' (Err fault.Memory) = TookUpTo left left' taken taken' most

-- what a read with this answer makes of the counts of a shelf of real files
abbrev pub FileReads : ℕ → Filed → Result (Vec ℕ Global) ShelfFault → Filed → Type 0
FileReads most s (Ok found) t = t ≡ record s { taken = raised (length found.items) s.taken }
FileReads most s (Err fault.Long) t = t ≡ record s { over = raised 1 s.over; taken = raised (most + 1) s.taken }
FileReads most s (Err fault.Failed) t = (t ≡ record s { failed = raised 1 s.failed; taken = t.taken }) × (s.taken ≤ t.taken) × (t.taken ≤ s.taken + most)
FileReads most s (Err fault.Memory) t = (t ≡ record s { taken = t.taken }) × (s.taken ≤ t.taken) × (t.taken ≤ s.taken + most)
