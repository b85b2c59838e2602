-- What the servers of one class have in common, and the classes that are found one server after the other.
use Rattle.std.specs.Prelude.{◌≡◌, ℕ, Bool, if◌then◌else◌, Some, None, List, map}
use Rattle.plan_model.specs.declared.cases.Place.{Place}
use Rattle.plan_model.specs.declared.cases.Case.{Case}
use Rattle.plan_model.specs.declared.cases.Grouping.{Grouping}
use Rattle.plan_model.specs.declared.cases.Grouping.TheVariants as how
use Rattle.plan_model.specs.Units.{place_of}
use Rattle.symmetry_classes.specs.declared.keys.Key.{Key}
use Rattle.symmetry_classes.specs.declared.keys.Key.TheVariants.{Single, Alike}
use Rattle.symmetry_classes.specs.declared.groups.Class.{Class as Group}
use Rattle.symmetry_classes.specs.Groups.{first_of_each, same_class, classes_of}

-- the number of the server, or all that servers of one class agree in
abbrev pub key_of : Grouping → Bool → ℕ → Place → Key
key_of how.Single racks server s = Single server
key_of how.Class racks server s = Alike s.kind (if racks then Some s.rack else None) s.board s.holder s.busy

-- the keys of the classes of some servers, in their order
abbrev pub keys_of : Grouping → Bool → Case → List ℕ → List Key
keys_of how racks case servers = map (λ s. key_of how racks s (place_of case s)) (first_of_each (same_class how racks case) servers)

-- the keys and the classes that are found are those of these servers
pub record IsFound (how : Grouping) (racks : Bool) (case : Case) (servers : List ℕ) (keys : List Key) (classes : List Group) : Type 0 where
  pub keys_found : keys ≡ keys_of how racks case servers
  pub classes_found : classes ≡ classes_of how racks case servers
