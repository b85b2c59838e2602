-- What a run of `solve`, and of `check` over what it prints, tells.
use Rattle.std.specs.Prelude.{ℕ, ◌≡◌, ◌≢◌, ◌⊎◌, ◌++◌, ⊤, Bool, false, List, [], codes, decimal, string_bytes, Result, Ok, Err}
use Rattle.memory_runs.specs.Files.{are_short_with, check_words, files_in, files_with}
use Rattle.memory_runs.specs.Runs.{Ended, HasNoText, IsRun, IsTold}
use Rattle.memory_runs.specs.declared.fault.RunFault.{RunFault}
use Rattle.memory_runs.specs.declared.fault.RunFault.TheVariants as fault
use Rattle.memory_runs.specs.declared.files.Texts.{Texts}
use Rattle.memory_runs.specs.declared.solves.Solved.{Solved}

-- the status and the note, and then what is told of `check`, with a bar between two
abbrev pub solve_text : Ended → List ℕ → List ℕ
solve_text e checked = decimal e.status ++ (codes "|" ++ (e.noted ++ (codes "|" ++ checked)))

-- the document is what a run prints, and the text tells that run and what `check` says where the document is the plan
abbrev pub IsSolved : Texts → List (List ℕ) → List ℕ → List ℕ → Type 0
IsSolved texts words document text =
    (e : Ended) × IsRun (files_in texts []) words e × (document ≡ e.printed)
    × ((checked : List ℕ) × IsTold (files_with texts document []) check_words checked × (text ≡ solve_text e checked))

-- a file is too long where the document is what a run prints
abbrev pub PrintsLong : Texts → List (List ℕ) → Type 0
PrintsLong texts words = (e : Ended) × IsRun (files_in texts []) words e × (are_short_with texts e.printed [] ≡ false)

-- two runs that differ
abbrev pub Differs : Texts → List (List ℕ) → Type 0
Differs texts words = (a : Ended) × (b : Ended) × IsRun (files_in texts []) words a × IsRun (files_in texts []) words b × (a ≢ b)

-- what is told of a run of `solve`, or why nothing is
abbrev pub SolvesTo : Texts → List (List ℕ) → Bool → Result Solved RunFault → Type 0
SolvesTo texts words short (Ok s) = IsSolved texts words (string_bytes s.document) (string_bytes s.told)
SolvesTo texts words short (Err fault.Long) = (short ≡ false) ⊎ PrintsLong texts words
SolvesTo texts words short (Err fault.NoText) = HasNoText (files_in texts []) words ⊎ ((document : List ℕ) × HasNoText (files_with texts document []) check_words)
SolvesTo texts words short (Err fault.Differ) = Differs texts words
SolvesTo texts words short (Err fault.Memory) = ⊤
