-- The files of each sample are valid, and the program of its region fits.
use Rattle.std.specs.Prelude.{ℕ, ◌≡◌, ◌≤◌, ◌*◌, length, None, Ok}
use Rattle.ras_inventory.specs.Regions.{region_of, seen as seen_region}
use Rattle.ras_inventory.specs.RegionRule.{server_names}
use Rattle.ras_inventory.specs.Bounds.{bindings_of}
use Rattle.ras_inventory.specs.declared.region.Region.{Region}
use Rattle.ras_inventory.specs.declared.bindings.Bindings.{Bindings}
use Rattle.ras_requests.specs.declared.all.Requests.{Requests}
use Rattle.ras_requests.specs.Requested.{requests_of, seen as seen_requests}
use Rattle.plan_model.specs.declared.cases.Case.{Case}
use Rattle.plan_model.specs.declared.cases.Grouping.TheVariants.{Class}
use Rattle.plan_model.specs.Joined.{IsJoined}
use Rattle.program_rows.specs.Settings.{region_setting, phase_classes}
use Rattle.program_rows.specs.Sizes.{size_fault_of}
use Rattle.region_gen.specs.Files.{inventory_text, bindings_text, requests_text}
use Rattle.sample_case.specs.Samples.{sample_region, sample_bindings, sample_requests}

-- the inventory is the region of the servers that the sample has
abbrev pub InventoryIsValid : Type 0
InventoryIsValid = (number size : ℕ) → size ≤ 40 → region_of (inventory_text number size) ≡ Ok (sample_region number size)

-- that region has four servers on each of as many switchboards as the sample's size
abbrev pub SizeIsKept : Type 0
SizeIsKept = (number size : ℕ) → size ≤ 40 → (length (sample_region number size).servers ≡ 4 * size) × (length (sample_region number size).boards ≡ size)

-- the bindings are of that region's servers
abbrev pub BindingsAreValid : Type 0
BindingsAreValid =
    (number size : ℕ) → size ≤ 40 → bindings_of (server_names (sample_region number size).servers) (bindings_text number size) ≡ Ok (sample_bindings number size)

-- the requests are the two reservations
abbrev pub RequestsAreValid : Type 0
RequestsAreValid = (size : ℕ) → size ≤ 40 → requests_of (requests_text size) ≡ Ok (sample_requests size)

-- the region, the requests and the bindings that the files of a sample say, and the case that they join to
pub record IsSampleCase (number size : ℕ) (region : Region) (requests : Requests) (bindings : Bindings) (case : Case) : Type 0 where
  pub region_is : region_of (inventory_text number size) ≡ Ok (seen_region region)
  pub requests_are : requests_of (requests_text size) ≡ Ok (seen_requests requests)
  pub bindings_are : bindings_of (server_names region.servers) (bindings_text number size) ≡ Ok bindings.of
  pub joined : IsJoined region requests bindings case

-- the program of the region over classes has neither too many columns nor too many rows
abbrev pub SampleFits : Type 0
SampleFits =
    (number size : ℕ) (region : Region) (requests : Requests) (bindings : Bindings) (case : Case) → size ≤ 40 → IsSampleCase number size region requests bindings case
    → size_fault_of case (region_setting case) (phase_classes case (region_setting case) Class) ≡ None
