-- What a run tells and prints.
use Rattle.std.specs.Prelude.{ℕ, ◌==◌, ◌||◌, Bool, List, [], codes, Option, Some, None}
use Rattle.std.specs.Io.KnownBytes.{Appends}
use Rattle.ras_outside.specs.Causes.{Rose}
use Rattle.ras_outside.specs.Held.{Files}
use Rattle.ras_outside.specs.declared.shelf.ShelfFault.{ShelfFault}
use Rattle.ras_outside.specs.declared.shelf.ShelfFault.TheVariants as fault
use Rattle.ras_words.specs.declared.command.Command.{Command}
use Rattle.ras_answers.specs.Answered.{Answered, Printed, Invalid, code_of}
use Rattle.ras_cli.specs.Asked.{Answers, HasTexts, files_of}

-- The words are taken, and P is true of an answer of the command to the bytes of the named files. Where the shelf tells
-- what it holds, it holds these files within their limits, and the bytes are theirs.
abbrev pub AtAnswer : Option Files → Option Command → (Answered → Type 0) → Type 0
AtAnswer held None P = ⊥
AtAnswer held (Some c) P = (texts : List (List ℕ)) × HasTexts held (files_of c) texts × ((a : Answered) × Answers c texts a × P a)

-- the status of an answer that is delivered whole
abbrev pub status_of : Answered → ℕ
status_of (Printed e text) = code_of e
status_of (Invalid note) = 3

-- the text that is printed
abbrev pub text_of : Answered → List ℕ
text_of (Printed e text) = text
text_of (Invalid note) = []

-- the note on what is not valid
abbrev pub note_of : Answered → List ℕ
note_of (Printed e text) = []
note_of (Invalid note) = note

-- a message was put whole, where the sink's faults did not rise
abbrev pub Tells : ℕ → ℕ → Option (List ℕ) → Option (List ℕ) → List ℕ → Type 0
Tells faults faults' written written' text = (Rose faults faults' → ⊥) → Appends written written' text

-- the statuses at which a text is printed
abbrev pub is_printed : ℕ → Bool
is_printed status = status == 0 || status == 1 || status == 4 || status == 5

-- the status of a read that gave nothing, and its message
abbrev pub fault_status : ShelfFault → ℕ
fault_status fault.Failed = 6
fault_status fault.Long = 8
fault_status fault.Memory = 9

abbrev pub fault_text : ShelfFault → List ℕ
fault_text fault.Failed = codes "ras: read failed\n"
fault_text fault.Long = codes "ras: file too long\n"
fault_text fault.Memory = codes "ras: no memory\n"
