-- What a run of rounds always keeps.
use Rattle.std.specs.Prelude.{ℕ, ◌≡◌, ◌≤◌, true, List, length}
use Rattle.std.specs.List.{list_all}
use Rattle.ras_inventory.specs.declared.region.Region.{Region}
use Rattle.ras_requests.specs.declared.all.Requests.{Requests}
use Rattle.plan_model.specs.declared.cases.Case.{Case}
use Rattle.symmetry_classes.specs.declared.groups.Class.{Class as Group}
use Rattle.online_mover.specs.Events.{event_within}
use Rattle.ras_rounds.specs.Rounds.{region_classes}
use Rattle.ras_rounds.specs.declared.entries.Entry.{Entry}
use Rattle.rounds_text.specs.declared.options.RoundOptions.{RoundOptions}
use Rattle.rounds_text.specs.Scripts.{rounds_of}

-- what is asked is within the limits
pub record AreWithin (options : RoundOptions) : Type 0 where
  pub gap : options.gap ≤ 1000000000000
  pub some : 1 ≤ options.nodes
  pub few : options.nodes ≤ 20000
  pub racks : options.racks ≤ 64
  pub some_at_once : 1 ≤ options.at_once
  pub few_at_once : options.at_once ≤ 64

-- each event is of a server that is there
abbrev pub AreThere : ℕ → List Entry → Type 0
AreThere servers entries = list_all (λ entry. event_within servers entry.event) entries ≡ true

-- the case is one of the region and the requests, the table has its classes, and no more rounds were run than there are
pub record IsReady (region : Region) (requests : Requests) (options : RoundOptions) (entries : List Entry) (case : Case) (table : List Group) (done : ℕ) : Type 0 where
  pub servers : length case.places ≡ length region.servers
  pub reservations : length case.wants ≡ length requests.list
  pub there : AreThere (length region.servers) entries
  pub within : AreWithin options
  pub classes : table ≡ region_classes case
  pub few : done ≤ rounds_of entries
