-- What `rounds` answers: the texts of rounds, one after the other, and how the run ends.
use Rattle.std.specs.Prelude.{ℕ, ◌≡◌, ◌<◌, Bool, true, false, if◌then◌else◌, List, [], ◌∷◌, ◌++◌, length, map, string_bytes, Option, Some, None, IfSome, Result, Ok, Err}
use Rattle.std.specs.List.{list_any}
use Rattle.ras_inventory.specs.RegionRule.{server_names}
use Rattle.ras_requests.specs.RequestsRule.{reservation_names}
use Rattle.plan_model.specs.declared.cases.Case.{Case}
use Rattle.plan_model.specs.Joined.{IsJoined}
use Rattle.program_rows.specs.declared.fault.SizeFault.{SizeFault}
use Rattle.plan_document.specs.declared.document.Answer.{Answer}
use Rattle.plan_document.specs.declared.document.Answer.TheVariants as answer
use Rattle.ras_rounds.specs.Scripts.{script_of}
use Rattle.ras_rounds.specs.declared.entries.Entry.{Entry}
use Rattle.rounds_text.specs.declared.options.RoundOptions.{RoundOptions}
use Rattle.rounds_text.specs.Scripts.{rounds_of}
use Rattle.rounds_text.specs.Rounds.{Agenda, DoneRound}
use Rattle.rounds_text.specs.Runs.{AreFirstRounds, IsOver}
use Rattle.ras_answers.specs.declared.all.CaseFiles.{CaseFiles}
use Rattle.ras_answers.specs.declared.answer.Ending.{Ending}
use Rattle.ras_answers.specs.declared.answer.Ending.TheVariants as ending
use Rattle.ras_answers.specs.declared.inputs.InputFault.{InputFault}
use Rattle.ras_answers.specs.declared.rounds.RoundsFiles.{RoundsFiles}
use Rattle.ras_answers.specs.declared.rounds.RoundsRun.{RoundsRun}
use Rattle.ras_answers.specs.declared.rounds.RoundAnswer.{RoundAnswer}
use Rattle.ras_answers.specs.declared.rounds.RoundAnswer.TheVariants as given
use Rattle.ras_answers.specs.declared.rounds.RoundsStart.{RoundsStart}
use Rattle.ras_answers.specs.declared.rounds.RoundsStart.TheVariants as start
use Rattle.ras_answers.specs.Answered.{Invalid}
use Rattle.ras_answers.specs.Inputs.{AreCaseFiles, case_read, note_in, or_note, script_read, told}
use Rattle.ras_answers.specs.Solve.{region_size, size_answer}

-- the note on the first file that is not valid, and none where all are: the files of a case, and the script of rounds over it
abbrev pub rounds_note : List ℕ → List ℕ → List ℕ → List ℕ → Option (List ℕ)
rounds_note inventory requests bindings script =
    note_in (or_note (case_read inventory requests bindings) (λ files. script_read (server_names files.region.servers) script))

-- what the files of rounds say, or the note on the first that is not valid
pub record AreScriptFiles (inventory requests bindings script : List ℕ) (given : RoundsFiles) : Type 0 where
  pub files : AreCaseFiles inventory requests bindings given.files
  pub script_is : script_of (server_names given.files.region.servers) script ≡ Ok given.entries

abbrev pub GivesRoundsFiles : List ℕ → List ℕ → List ℕ → List ℕ → Result RoundsFiles InputFault → Type 0
GivesRoundsFiles inventory requests bindings script (Ok given) = AreScriptFiles inventory requests bindings script given
GivesRoundsFiles inventory requests bindings script (Err f) = IfSome (told f) (λ note. rounds_note inventory requests bindings script ≡ Some note)

-- what rounds are over, by what the files say
abbrev pub agenda_of : CaseFiles → RoundOptions → List Entry → Agenda
agenda_of files options entries =
    record { servers = server_names files.region.servers; reservations = reservation_names files.requests.list; options = options; entries = entries }

-- the files of a case and the script are what their bytes say, and the case is theirs
pub record AreRoundsFiles (inventory requests bindings script : List ℕ) (options : RoundOptions) (agenda : Agenda) (first : Case) : Type 0 where
  pub files : CaseFiles
  pub read : AreCaseFiles inventory requests bindings files
  pub entries : List Entry
  pub script_is : script_of (server_names files.region.servers) script ≡ Ok entries
  pub over : agenda ≡ agenda_of files options entries
  pub joined : IsJoined files.region files.requests files.bindings first

-- whether the budget of a document was spent
abbrev pub is_limit : Answer → Bool
is_limit answer.Plan = false
is_limit answer.Infeasible = false
is_limit answer.Limit = true

abbrev pub some_spent : List DoneRound → Bool
some_spent rounds = list_any (λ round. is_limit round.document.answer) rounds

-- the answer of the last document
abbrev pub last_answer : List DoneRound → Answer
last_answer [] = answer.Plan
last_answer (round ∷ []) = round.document.answer
last_answer (round ∷ (next ∷ rounds)) = last_answer (next ∷ rounds)

-- How a run ends whose last document has such an answer: where no assignment is allowed, with that; else with a spent budget, where that of some document was.
abbrev pub ending_with : Bool → Answer → Ending
ending_with spent answer.Infeasible = ending.Infeasible
ending_with spent answer.Limit = ending.Limit
ending_with spent answer.Plan = if spent then ending.Limit else ending.Done

-- and none where the run goes on
abbrev pub end_with : Bool → Bool → Answer → Option Ending
end_with true spent a = None
end_with false spent a = Some (ending_with spent a)

abbrev pub rounds_ending : List DoneRound → Ending
rounds_ending rounds = ending_with (some_spent rounds) (last_answer rounds)

abbrev pub texts_of : List DoneRound → List (List ℕ)
texts_of rounds = map (λ round. round.text) rounds

-- how a run of rounds ends: as its documents say, or with a note, where a file is not valid or the program of a round is too large
pub data RoundsEnd : Type 0 where
  Ended : Ending → RoundsEnd
  Noted : List ℕ → RoundsEnd

-- the note on the program of the region of a round's case
abbrev pub IsTooLarge : Case → List ℕ → Type 0
IsTooLarge case note = (fault : SizeFault) × ((region_size case ≡ Some fault) × (size_answer fault ≡ Some (Invalid note)))

-- after these rounds the run ends: there is no further one, or the program of the next one is too large
abbrev pub EndsAfter : Agenda → List DoneRound → Option Case → RoundsEnd → Type 0
EndsAfter agenda rounds left (Ended e) = IsOver agenda (length rounds) left × (e ≡ rounds_ending rounds)
EndsAfter agenda rounds None (Noted note) = ⊥
EndsAfter agenda rounds (Some case) (Noted note) = (length rounds < rounds_of agenda.entries) × IsTooLarge case note

-- the texts are those of the first rounds of the script, from the case of the files
pub record AreFirstTexts (inventory requests bindings script : List ℕ) (options : RoundOptions) (texts : List (List ℕ)) : Type 0 where
  pub agenda : Agenda
  pub first : Case
  pub read : AreRoundsFiles inventory requests bindings script options agenda first
  pub rounds : List DoneRound
  pub left : Option Case
  pub are : AreFirstRounds agenda first rounds left
  pub texts_are : texts ≡ texts_of rounds

-- and the run ends after them
pub record AreTexts (inventory requests bindings script : List ℕ) (options : RoundOptions) (texts : List (List ℕ)) (end : RoundsEnd) : Type 0 where
  pub firsts : AreFirstTexts inventory requests bindings script options texts
  pub ends : EndsAfter firsts.agenda firsts.rounds firsts.left end

-- the note on the first file that is not valid, and no round; where all are valid, the texts of the rounds
abbrev pub ByRoundsNote : List ℕ → List ℕ → List ℕ → List ℕ → RoundOptions → Option (List ℕ) → List (List ℕ) → RoundsEnd → Type 0
ByRoundsNote inventory requests bindings script options (Some note) texts end = (texts ≡ []) × (end ≡ Noted note)
ByRoundsNote inventory requests bindings script options None texts end = AreTexts inventory requests bindings script options texts end

-- what `rounds` answers to the bytes of an inventory, requests, bindings and a script: texts, one after the other, and an end
unfoldable pub RoundsAnswers : List ℕ → List ℕ → List ℕ → List ℕ → RoundOptions → List (List ℕ) → RoundsEnd → Type 0
RoundsAnswers inventory requests bindings script options texts end =
    ByRoundsNote inventory requests bindings script options (rounds_note inventory requests bindings script) texts end

-- A run stands after these rounds, from the case of the files, and a further one follows.
pub record StandsAfter (inventory requests bindings script : List ℕ) (options : RoundOptions) (texts : List (List ℕ)) (run : RoundsRun) : Type 0 where
  pub first : Case
  pub read : AreRoundsFiles inventory requests bindings script options run.rounds.agenda first
  pub rounds : List DoneRound
  pub are : AreFirstRounds run.rounds.agenda first rounds (Some run.rounds.case)
  pub texts_are : texts ≡ texts_of rounds
  pub done : run.rounds.done ≡ length rounds
  pub more : run.rounds.done < rounds_of run.rounds.agenda.entries
  pub spent : run.spent ≡ some_spent rounds

-- What the next round of a run gives: its text, and the run stands after it, or has ended with it; or the note on its program, and the run ends before it.
abbrev pub GivesRound : List ℕ → List ℕ → List ℕ → List ℕ → RoundOptions → List (List ℕ) → RoundsRun → RoundAnswer → Type 0
GivesRound inventory requests bindings script options texts run (given.Printed text None) =
    StandsAfter inventory requests bindings script options (texts ++ text.items ∷ []) run
GivesRound inventory requests bindings script options texts run (given.Printed text (Some end)) =
    RoundsAnswers inventory requests bindings script options (texts ++ text.items ∷ []) (Ended end)
GivesRound inventory requests bindings script options texts run (given.TooLarge note) =
    RoundsAnswers inventory requests bindings script options texts (Noted (string_bytes note))

-- a run over what files and a script say, of which no round was run
pub record IsBegun (files : CaseFiles) (entries : List Entry) (options : RoundOptions) (run : RoundsRun) : Type 0 where
  pub over : run.rounds.agenda ≡ agenda_of files options entries
  pub joined : IsJoined files.region files.requests files.bindings run.rounds.case
  pub done : run.rounds.done ≡ 0
  pub spent : run.spent ≡ false

-- what comes of the bytes of files: a run that stands before its first round, or the note on the first file that is not valid
abbrev pub BeginsRounds : List ℕ → List ℕ → List ℕ → List ℕ → RoundOptions → RoundsStart → Type 0
BeginsRounds inventory requests bindings script options (start.Begun run) = StandsAfter inventory requests bindings script options [] run
BeginsRounds inventory requests bindings script options (start.Invalid note) = RoundsAnswers inventory requests bindings script options [] (Noted (string_bytes note))
