-- What makes a class table right, whatever way it was made.
use Rattle.std.specs.Prelude.{◌≡◌, ℕ, ◌<◌, Bool, true, false, not, ◌&&◌, ◌||◌, ◌==◌, if◌then◌else◌, List, [], ◌∷◌, ◌++◌, map, filter, zip, slice_index, slice_index_or, slice_set, ◌⊎◌}
use Rattle.std.specs.Bool.{beq}
use Rattle.std.specs.List.{AllByRecursion, list_any}
use Rattle.plan_model.specs.declared.cases.Case.{Case}
use Rattle.plan_model.specs.declared.cases.Place.{Place}
use Rattle.plan_model.specs.Units.{place_of}
use Rattle.plan_model.specs.declared.cases.Grouping.{Grouping}
use Rattle.plan_model.specs.declared.cases.Grouping.TheVariants.{Class as Alike}
use Rattle.symmetry_classes.specs.declared.groups.Class.{Class as Group}
use Rattle.symmetry_classes.specs.Groups.{class_of, classes_of, flagged_servers, same_class, same_holder}
use Rattle.program_rows.specs.Settings.{region_setting, movable_flags}
use Rattle.ras_rounds.specs.Rounds.{differs, region_classes}

-- a number that is in a list
abbrev pub Has : ℕ → List ℕ → Type 0
Has x [] = ⊥
Has x (y ∷ ys) = (x ≡ y) ⊎ Has x ys

-- numbers that rise
abbrev pub Rises : List ℕ → Type 0
Rises [] = Unit {0}
Rises (x ∷ xs) = AllByRecursion (λ y. x < y) xs × Rises xs

abbrev pub first_member : Group → ℕ
first_member class = slice_index class.members 0

-- a class is that of its first member, which is one of the servers
pub record IsClassOf (how : Grouping) (racks : Bool) (case : Case) (servers : List ℕ) (class : Group) : Type 0 where
  pub own : class ≡ class_of how racks case servers (first_member class)
  pub there : Has (first_member class) servers

-- a server that is a member of a class
abbrev pub HasMember : ℕ → List Group → Type 0
HasMember s [] = ⊥
HasMember s (class ∷ classes) = Has s class.members ⊎ HasMember s classes

-- servers whose places agree in what makes a class of the region phase
pub record HaveOneKey (s t : Place) : Type 0 where
  pub kind : s.kind ≡ t.kind
  pub board : s.board ≡ t.board
  pub holder : s.holder ≡ t.holder
  pub busy : s.busy ≡ t.busy

-- a change of the case and of the movable servers, in which only the servers that pass a test change their class or whether
-- they have one
pub record AreUnchanged (before after : Case) (old new : List ℕ) (changed : ℕ → Bool) : Type 0 where
  pub stays : (s : ℕ) → changed s ≡ false → Has s old → Has s new
  pub was : (s : ℕ) → changed s ≡ false → Has s new → Has s old
  pub key : (s : ℕ) → changed s ≡ false → HaveOneKey (place_of before s) (place_of after s)

-- a class that no server left and that none joined
pub record IsKept (before after : Case) (old new : List ℕ) (changed : ℕ → Bool) (class : Group) : Type 0 where
  pub is : IsClassOf Alike false before old class
  pub quiet : (s : ℕ) → Has s old → same_class Alike false before (first_member class) s ≡ true → changed s ≡ false
  pub calm : (s : ℕ) → Has s new → same_class Alike false after (first_member class) s ≡ true → changed s ≡ false

-- a class that a mend gives: one that is kept, or one of the loose servers, grouped by themselves
abbrev pub IsMended : Case → Case → List ℕ → List ℕ → (ℕ → Bool) → List ℕ → Group → Type 0
IsMended before after old new changed loose class = IsKept before after old new changed class ⊎ IsClassOf Alike false after loose class

-- servers among all, of which no class has only a part
pub record AreLoose (case : Case) (servers loose : List ℕ) : Type 0 where
  pub rise : Rises loose
  pub among : (s : ℕ) → Has s loose → Has s servers
  pub whole : (s t : ℕ) → Has s loose → Has t servers → same_class Alike false case s t ≡ true → Has t loose

-- whether a server stands as those of a class do
abbrev pub joins : Group → Place → Bool
joins class place =
    class.kind == place.kind && class.board == place.board && same_holder class.holder place.holder && beq class.busy place.busy

abbrev pub has_flag : List Bool → ℕ → Bool
has_flag flags s = slice_index_or flags s false

-- whether a changed server left a class, or joins it
abbrev pub is_touched : List Bool → List Place → Group → Bool
is_touched flags joiners class = list_any (has_flag flags) class.members || list_any (joins class) joiners

-- which servers differ, and as what
abbrev pub changed_flags : List Place → List Place → List Bool
changed_flags places others = map (λ e. differs e.0 e.1) (zip places others)

abbrev pub joiners_of : List Place → List Place → List Place
joiners_of places others = map (λ e. e.1) (filter (λ e. differs e.0 e.1) (zip places others))

-- flags without those of some servers
abbrev pub clear : List ℕ → List Bool → List Bool
clear [] flags = flags
clear (m ∷ members) flags = clear members (slice_set flags m false)

-- flags without those of the members of the classes that are kept
abbrev pub cleared : (Group → Bool) → List Group → List Bool → List Bool
cleared touched [] flags = flags
cleared touched (class ∷ classes) flags = cleared touched classes (if touched class then flags else clear class.members flags)

-- the classes that are kept
abbrev pub kept_classes : (Group → Bool) → List Group → List Group
kept_classes touched classes = filter (λ class. not (touched class)) classes

-- the classes that a changed server left or joins, and what a mend makes: the other classes, and the servers that are in none of
-- them grouped by themselves
abbrev pub touched_after : Case → Case → Group → Bool
touched_after before after = is_touched (changed_flags before.places after.places) (joiners_of before.places after.places)

abbrev pub mended_classes : Case → Case → List Group
mended_classes before after =
    kept_classes (touched_after before after) (region_classes before)
    ++ classes_of Alike false after (flagged_servers (cleared (touched_after before after) (region_classes before) (movable_flags after (region_setting after))))
