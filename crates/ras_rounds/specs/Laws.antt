-- What holds of every case after a round, and of every class table.
use Rattle.std.specs.Prelude.{◌≡◌, ℕ, Bool, false, List, length, map}
use Rattle.std.specs.List.{AllByRecursion}
use Rattle.std.specs.List.Sorted.{IsPermutation, IsNonDecreasingBy}
use Rattle.plan_model.specs.declared.cases.Case.{Case}
use Rattle.plan_model.specs.declared.cases.Grouping.{Grouping}
use Rattle.plan_model.specs.declared.cases.Grouping.TheVariants.{Class as Alike}
use Rattle.symmetry_classes.specs.declared.groups.Class.{Class as Group}
use Rattle.symmetry_classes.specs.Groups.{classes_of}
use Rattle.online_mover.specs.States.{State}
use Rattle.ras_rounds.specs.Rounds.{IsAfter, region_classes}
use Rattle.ras_rounds.specs.Mends.{Has, Rises, IsClassOf, HasMember, first_member, AreUnchanged, AreLoose, IsMended, mended_classes}

-- there is at most one
abbrev pub CaseAfterIsOne : Type 0
CaseAfterIsOne = (before : Case) (state : State) (one other : Case) → IsAfter before state one → IsAfter before state other → one ≡ other

-- a table is right whatever way it was made: its classes are those of their first members, these rise, and each server is a
-- member of one
abbrev pub TableIsOne : Type 0
TableIsOne =
    (how : Grouping) (racks : Bool) (case : Case) (servers : List ℕ) (classes : List Group)
    → Rises servers → AllByRecursion (IsClassOf how racks case servers) classes → Rises (map first_member classes)
    → ((s : ℕ) → Has s servers → HasMember s classes) → classes ≡ classes_of how racks case servers

-- a mended table is the one that grouping afresh gives: some servers are changed, and each other one has the class that it had;
-- the loose ones, of which no class has only a part, are grouped by themselves; the classes that no changed server left or
-- joined are kept; and all are in the order of their first members
abbrev pub MendIsGrouped : Type 0
MendIsGrouped =
    (before after : Case) (old new : List ℕ) (changed : ℕ → Bool) (loose : List ℕ) (classes : List Group) → AreUnchanged before after old new changed
    → Rises old → Rises new
    → AreLoose after new loose
    → AllByRecursion (IsMended before after old new changed loose) classes → Rises (map first_member classes)
    → ((s : ℕ) → Has s new → HasMember s classes) → classes ≡ classes_of Alike false after new

-- the mended classes of a round, sorted by first member, are the classes of the case after it
abbrev pub MendIsRight : Type 0
MendIsRight =
    (before after : Case) (state : State) (classes : List Group) → IsAfter before state after → length state.servers ≡ length before.places
    → IsPermutation (mended_classes before after) classes → IsNonDecreasingBy first_member classes → classes ≡ region_classes after
