-- What the files of a command say, or the note on the first that is not valid.
use Rattle.std.specs.Prelude.{ℕ, ◌≡◌, List, [], ◌++◌, codes, Option, Some, None, IfSome, Result, Ok, Err, string_bytes}
use Rattle.ras_inventory.specs.declared.fault.RegionFault.{RegionFault}
use Rattle.ras_inventory.specs.declared.fault.RegionFault.TheVariants as region
use Rattle.ras_inventory.specs.Regions.{Regional, region_of, seen as seen_region}
use Rattle.ras_inventory.specs.declared.bindings.Binding.{Binding}
use Rattle.ras_inventory.specs.declared.fault.BindingsFault.{BindingsFault}
use Rattle.ras_inventory.specs.declared.fault.BindingsFault.TheVariants as bindings
use Rattle.ras_inventory.specs.Bounds.{bindings_of}
use Rattle.ras_requests.specs.declared.fault.RequestsFault.{RequestsFault}
use Rattle.ras_requests.specs.declared.fault.RequestsFault.TheVariants as requests
use Rattle.ras_requests.specs.Requested.{Requested, requests_of, seen as seen_requests}
use Rattle.plan_document.specs.declared.fault.DocFault.{DocFault}
use Rattle.plan_document.specs.declared.fault.DocFault.TheVariants as document
use Rattle.plan_document.specs.Documents.{SeenDocument, document_of}
use Rattle.online_mover.specs.declared.timed.Timed.{Timed}
use Rattle.online_mover.specs.declared.fault.EventsFault.{EventsFault}
use Rattle.online_mover.specs.declared.fault.EventsFault.TheVariants as events
use Rattle.online_mover.specs.EventFiles.{events_of}
use Rattle.ras_rounds.specs.declared.entries.Entry.{Entry}
use Rattle.ras_rounds.specs.declared.fault.ScriptFault.{ScriptFault}
use Rattle.ras_rounds.specs.declared.fault.ScriptFault.TheVariants as script
use Rattle.ras_rounds.specs.Scripts.{script_of}
use Rattle.spare_pool.specs.declared.failure.Failure.{Failure}
use Rattle.spare_pool.specs.declared.fault.FailuresFault.{FailuresFault}
use Rattle.spare_pool.specs.declared.fault.FailuresFault.TheVariants as failures
use Rattle.spare_pool.specs.FailureFiles.{failures_of}
use Rattle.ras_inventory.specs.RegionRule.{server_names}
use Rattle.ras_requests.specs.RequestsRule.{reservation_names}
use Rattle.ras_texts.specs.Notes.{region_note, bindings_note, requests_note, document_note, events_note, failures_note, script_note}
use Rattle.ras_answers.specs.declared.all.CaseFiles.{CaseFiles}
use Rattle.ras_answers.specs.declared.inputs.InputFault.{InputFault}
use Rattle.ras_answers.specs.declared.inputs.InputFault.TheVariants as fault

-- the note that is told, and none for want of memory
abbrev pub told : InputFault → Option (List ℕ)
told (fault.Invalid note) = Some (string_bytes note)
told fault.Memory = None

-- a value, or the note on its fault
abbrev pub with_note : {Y E : Type 0} → (E → List ℕ) → Result Y E → Result Y (List ℕ)
with_note note (Ok y) = Ok y
with_note note (Err e) = Err (note e)

-- the notes as lines; want of memory is no fault of a file, and its text is never told
abbrev pub region_line : RegionFault → List ℕ
region_line (region.At line why) = region_note line why ++ codes "\n"
region_line region.Memory = []

abbrev pub bindings_line : BindingsFault → List ℕ
bindings_line (bindings.At line why) = bindings_note line why ++ codes "\n"
bindings_line bindings.Memory = []

abbrev pub requests_line : RequestsFault → List ℕ
requests_line (requests.At place why) = requests_note place why ++ codes "\n"
requests_line requests.Memory = []

abbrev pub document_line : DocFault → List ℕ
document_line (document.At place why) = document_note place why ++ codes "\n"
document_line document.Memory = []

abbrev pub events_line : EventsFault → List ℕ
events_line (events.At line why) = events_note line why ++ codes "\n"
events_line events.Memory = []

abbrev pub script_line : ScriptFault → List ℕ
script_line (script.At line why) = script_note line why ++ codes "\n"
script_line script.Memory = []

abbrev pub failures_line : FailuresFault → List ℕ
failures_line (failures.At line why) = failures_note line why ++ codes "\n"
failures_line failures.Memory = []

-- the region of an inventory, the requests of a file, the bindings of a file over names of servers, the document of a
-- file over names of servers and reservations, and the events, the script and
-- the failures of a file over names of servers
abbrev pub inventory_read : List ℕ → Result Regional (List ℕ)
inventory_read bytes = with_note region_line (region_of bytes)

abbrev pub requests_read : List ℕ → Result Requested (List ℕ)
requests_read bytes = with_note requests_line (requests_of bytes)

abbrev pub bindings_read : List (List ℕ) → List ℕ → Result (List Binding) (List ℕ)
bindings_read servers bytes = with_note bindings_line (bindings_of servers bytes)

abbrev pub document_read : List (List ℕ) → List (List ℕ) → List ℕ → Result SeenDocument (List ℕ)
document_read servers reservations bytes = with_note document_line (document_of servers reservations bytes)

abbrev pub events_read : List (List ℕ) → List ℕ → Result (List Timed) (List ℕ)
events_read servers bytes = with_note events_line (events_of servers bytes)

abbrev pub script_read : List (List ℕ) → List ℕ → Result (List Entry) (List ℕ)
script_read servers bytes = with_note script_line (script_of servers bytes)

abbrev pub failures_read : List (List ℕ) → List ℕ → Result (List Failure) (List ℕ)
failures_read servers bytes = with_note failures_line (failures_of servers bytes)

-- what comes after a value, or the note on its fault
abbrev pub or_note : {Y Z : Type 0} → Result Y (List ℕ) → (Y → Result Z (List ℕ)) → Result Z (List ℕ)
or_note (Err note) next = Err note
or_note (Ok y) next = next y

-- what the files of a case say
pub record SeenCase : Type 0 where
  pub region : Regional
  pub wanted : Requested
  pub bound : List Binding

-- the files of a case, or the note on the first that is not valid: the inventory, the requests, the bindings
abbrev pub case_read : List ℕ → List ℕ → List ℕ → Result SeenCase (List ℕ)
case_read inventory requests bindings =
    or_note (inventory_read inventory) (λ region.
    or_note (requests_read requests) (λ wanted.
    or_note (bindings_read (server_names region.servers) bindings) (λ bound.
    Ok (record { region = region; wanted = wanted; bound = bound }))))

-- the files of a case are what their bytes say
pub record AreCaseFiles (inventory requests bindings : List ℕ) (files : CaseFiles) : Type 0 where
  pub region_is : region_of inventory ≡ Ok (seen_region files.region)
  pub requests_are : requests_of requests ≡ Ok (seen_requests files.requests)
  pub bindings_are : bindings_of (server_names files.region.servers) bindings ≡ Ok files.bindings.of

-- the files of a case, or the note on the first that is not valid
abbrev pub GivesCaseFiles : List ℕ → List ℕ → List ℕ → Result CaseFiles InputFault → Type 0
GivesCaseFiles inventory requests bindings (Ok files) = AreCaseFiles inventory requests bindings files
GivesCaseFiles inventory requests bindings (Err f) = IfSome (told f) (λ note. case_read inventory requests bindings ≡ Err note)

-- the note, where there is one
abbrev pub note_in : {Y : Type 0} → Result Y (List ℕ) → Option (List ℕ)
note_in (Err note) = Some note
note_in (Ok y) = None

-- the note on the first file that is not valid, and none where all are: the files of a case, and the document of a plan over it
abbrev pub invalid_note : List ℕ → List ℕ → List ℕ → List ℕ → Option (List ℕ)
invalid_note inventory requests bindings plan =
    note_in (or_note (case_read inventory requests bindings) (λ files. document_read (server_names files.region.servers) (reservation_names files.wanted.list) plan))
