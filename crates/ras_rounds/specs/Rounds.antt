-- The case after a round: who holds each server, whether it is busy, and whether it is up.
use Rattle.std.specs.Prelude.{◌≡◌, ℕ, Bool, not, ◌&&◌, List, map, zip}
use Rattle.std.specs.Bool.{beq}
use Rattle.plan_model.specs.Units.{place_of}
use Rattle.plan_model.specs.declared.cases.Holder.{Holder}
use Rattle.plan_model.specs.declared.cases.Holder.TheVariants.{Free as Nobody}
use Rattle.plan_model.specs.declared.cases.Place.{Place}
use Rattle.plan_model.specs.declared.cases.Case.{Case}
use Rattle.plan_model.specs.declared.cases.Grouping.TheVariants as how
use Rattle.symmetry_classes.specs.Groups.{same_holder}
use Rattle.symmetry_classes.specs.declared.groups.Class.{Class as Group}
use Rattle.program_rows.specs.Settings.{region_setting, phase_classes}
use Rattle.online_mover.specs.declared.stands.Stand.{Stand}
use Rattle.online_mover.specs.declared.stands.Stand.TheVariants.{Free, Joining, Bound, Draining}
use Rattle.online_mover.specs.declared.stands.Server.{Server}
use Rattle.online_mover.specs.States.{State}

-- a join that is not done counts as failed, and a drain that is not done as refused
abbrev pub holder_after : Stand → Holder
holder_after Free = Nobody
holder_after (Joining r) = Nobody
holder_after (Bound q) = q
holder_after (Draining q) = q

-- a server is busy where it was and its holder is the same
abbrev pub place_after : Place → Stand → Bool → Place
place_after place stand up =
    record place { holder = holder_after stand; busy = place.busy && same_holder place.holder (holder_after stand); up = up }

abbrev pub placed_after : Place × Server → Place
placed_after e = place_after e.0 e.1.stand e.1.up

abbrev pub places_after : List Place → List Server → List Place
places_after places servers = map placed_after (zip places servers)

-- a case is the one after a round, from the case before it and the state in which the round left the mover
pub record IsAfter (before : Case) (state : State) (after : Case) : Type 0 where
  pub places : after.places ≡ places_after before.places state.servers
  pub kinds : after.kinds ≡ before.kinds
  pub racks : after.racks ≡ before.racks
  pub boards : after.boards ≡ before.boards
  pub centers : after.centers ≡ before.centers
  pub moves : after.moves ≡ before.moves
  pub wants : after.wants ≡ before.wants

-- the classes of the region phase, where servers that are alike share one
abbrev pub region_classes : Case → List Group
region_classes case = phase_classes case (region_setting case) how.Class

-- whether a server has another holder, busy flag or up flag
abbrev pub differs : Place → Place → Bool
differs s t = not (same_holder s.holder t.holder && beq s.busy t.busy && beq s.up t.up)

abbrev pub is_changed : Case → Case → ℕ → Bool
is_changed before after s = differs (place_of before s) (place_of after s)
