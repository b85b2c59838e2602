-- The notes on files that are not valid, and on programs that are too large.
use Rattle.std.specs.Prelude.{ℕ, List, ◌++◌, codes, decimal}
use Rattle.ras_table.specs.declared.rows.RowFault.{RowFault}
use Rattle.ras_table.specs.declared.rows.RowFault.TheVariants as row
use Rattle.ras_inventory.specs.declared.fault.RegionWhy.{RegionWhy}
use Rattle.ras_inventory.specs.declared.fault.RegionWhy.TheVariants as region
use Rattle.ras_inventory.specs.declared.fault.BindingsWhy.{BindingsWhy}
use Rattle.ras_inventory.specs.declared.fault.BindingsWhy.TheVariants as bindings
use Rattle.ras_requests.specs.declared.fault.RequestsWhy.{RequestsWhy}
use Rattle.ras_requests.specs.declared.fault.RequestsWhy.TheVariants as requests
use Rattle.online_mover.specs.declared.fault.EventsWhy.{EventsWhy}
use Rattle.online_mover.specs.declared.fault.EventsWhy.TheVariants as events
use Rattle.spare_pool.specs.declared.fault.FailuresWhy.{FailuresWhy}
use Rattle.spare_pool.specs.declared.fault.FailuresWhy.TheVariants as failures
use Rattle.plan_document.specs.declared.fault.DocPlace.{DocPlace}
use Rattle.plan_document.specs.declared.fault.DocPlace.TheVariants as place
use Rattle.plan_document.specs.declared.fault.DocWhy.{DocWhy}
use Rattle.plan_document.specs.declared.fault.DocWhy.TheVariants as document

-- want of memory is no fault of a record; it has a text so that each variant has one
abbrev pub row_text : RowFault → List ℕ
row_text (row.Columns found) = codes "columns " ++ decimal found
row_text (row.Bad column) = codes "column " ++ decimal column
row_text row.Memory = codes "memory"

abbrev pub region_why : RegionWhy → List ℕ
region_why region.Head = codes "head"
region_why (region.Row fault) = row_text fault
region_why region.Twice = codes "twice"
region_why region.RackMoved = codes "rack moved"
region_why region.BoardMoved = codes "switchboard moved"
region_why region.Many = codes "many"

abbrev pub region_note : ℕ → RegionWhy → List ℕ
region_note line why = codes "ras: inventory: line " ++ (decimal line ++ (codes ": " ++ region_why why))

abbrev pub bindings_why : BindingsWhy → List ℕ
bindings_why bindings.Head = codes "head"
bindings_why (bindings.Row fault) = row_text fault
bindings_why bindings.Unknown = codes "unknown"
bindings_why bindings.Twice = codes "twice"

abbrev pub bindings_note : ℕ → BindingsWhy → List ℕ
bindings_note line why = codes "ras: bindings: line " ++ (decimal line ++ (codes ": " ++ bindings_why why))

abbrev pub requests_why : RequestsWhy → List ℕ
requests_why requests.NotJson = codes "not json"
requests_why requests.Shape = codes "shape"
requests_why requests.Format = codes "format"
requests_why requests.Range = codes "range"
requests_why requests.Twice = codes "twice"
requests_why requests.Many = codes "many"

abbrev pub requests_note : ℕ → RequestsWhy → List ℕ
requests_note n why = codes "ras: requests: place " ++ (decimal n ++ (codes ": " ++ requests_why why))

abbrev pub events_why : EventsWhy → List ℕ
events_why events.Head = codes "head"
events_why (events.Row fault) = row_text fault
events_why events.Word = codes "word"
events_why events.Unknown = codes "unknown"
events_why events.Order = codes "order"
events_why events.Many = codes "many"

abbrev pub events_note : ℕ → EventsWhy → List ℕ
events_note line why = codes "ras: events: line " ++ (decimal line ++ (codes ": " ++ events_why why))

-- a script of rounds is refused in the words of events
abbrev pub script_note : ℕ → EventsWhy → List ℕ
script_note line why = codes "ras: script: line " ++ (decimal line ++ (codes ": " ++ events_why why))

abbrev pub failures_why : FailuresWhy → List ℕ
failures_why failures.Head = codes "head"
failures_why (failures.Row fault) = row_text fault
failures_why failures.Word = codes "word"
failures_why failures.Unknown = codes "unknown"
failures_why failures.Order = codes "order"
failures_why failures.Many = codes "many"

abbrev pub failures_note : ℕ → FailuresWhy → List ℕ
failures_note line why = codes "ras: failures: line " ++ (decimal line ++ (codes ": " ++ failures_why why))

abbrev pub place_text : DocPlace → List ℕ
place_text place.Top = codes "top"
place_text place.Region = codes "region"
place_text (place.RegionNode node) = codes "region node " ++ decimal node
place_text place.Rack = codes "rack"
place_text (place.RackNode node) = codes "rack node " ++ decimal node

abbrev pub document_why : DocWhy → List ℕ
document_why document.NotJson = codes "not json"
document_why document.Shape = codes "shape"
document_why document.Format = codes "format"
document_why document.Range = codes "range"
document_why document.Name = codes "name"

abbrev pub document_note : DocPlace → DocWhy → List ℕ
document_note p why = codes "ras: plan: " ++ (place_text p ++ (codes ": " ++ document_why why))

-- a program with more columns, or more rows, than a program may have
abbrev pub columns_note : ℕ → List ℕ
columns_note columns = codes "ras: program: columns " ++ decimal columns

abbrev pub rows_note : ℕ → List ℕ
rows_note rows = codes "ras: program: rows " ++ decimal rows
