-- What shelves and sinks in memory tell: their contents, their counts, and what one call makes of them.
use Rattle.std.specs.Prelude.{ℕ, ◌≡◌, ◌+◌, ◌^◌, ◌==◌, min, Bool, List, [], ◌∷◌, length, map, Option, None, Some, is_some, Result, Ok, Err, Vec, if◌then◌else◌}
use Rattle.std.specs.List.{list_any}
use Rattle.std.specs.declared.alloc.Global.{Global}
use Rattle.ras_outside.specs.declared.memory.Stop.{Stop}
use Rattle.ras_outside.specs.declared.memory.File.{File}
use Rattle.ras_outside.specs.declared.shelf.ShelfFault.{ShelfFault}
use Rattle.ras_outside.specs.declared.shelf.ShelfFault.TheVariants as fault
use Rattle.ras_outside.specs.Causes.{raised}
use Rattle.ras_outside.specs.Held.{Files, file_at}

-- a shelf in memory: its files, the numbers of the reads that fail, and its counts
pub record Shelved : Type 0 where
  pub files : Files
  pub failing : List ℕ
  pub reads : ℕ
  pub failed : ℕ
  pub broke : ℕ
  pub taken : ℕ
  pub over : ℕ

-- a sink in memory: what was written, the puts that stop, its counts, and the room that is left
pub record Sunk : Type 0 where
  pub written : List ℕ
  pub stops : List Stop
  pub puts : ℕ
  pub failed : ℕ
  pub room : ℕ

-- the files as a map
abbrev pub files_of : List File → Files
files_of files = map (λ f. (f.name, f.bytes)) files

-- the names of the files differ
abbrev pub NamesDiffer : List File → Type 0
NamesDiffer [] = Unit {0}
NamesDiffer (f ∷ files) = (file_at (files_of files) f.name ≡ None) × NamesDiffer files

-- a new shelf
abbrev pub new_shelf : List File → List ℕ → Shelved
new_shelf files failing = record { files = files_of files; failing = failing; reads = 0; failed = 0; broke = 0; taken = 0; over = 0 }

-- whether a read is one of those that fail
abbrev pub is_planned : List ℕ → ℕ → Bool
is_planned failing read = list_any (λ n. n == read) failing

-- the shelf after a read with this answer
abbrev pub after_read : Shelved → List ℕ → ℕ → Result (Vec ℕ Global) ShelfFault → Shelved
after_read s name most (Ok bytes) = record s { reads = raised 1 s.reads; taken = raised (length bytes.items) s.taken }
after_read s name most (Err fault.Memory) = record s { reads = raised 1 s.reads }
after_read s name most (Err fault.Failed) = record s {
  reads = raised 1 s.reads;
  failed = raised 1 s.failed;
  broke = if is_some (file_at s.files name) then raised 1 s.broke else s.broke;
}
after_read s name most (Err fault.Long) = record s { reads = raised 1 s.reads; taken = raised (most + 1) s.taken; over = raised 1 s.over }

-- where a put stops, by the first stop of its number
abbrev pub stop_of : List Stop → ℕ → Option ℕ
stop_of [] put = None
stop_of (s ∷ stops) put = if s.call == put then Some s.taken else stop_of stops put
