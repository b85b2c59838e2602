-- The classes of the movable servers.
use Rattle.std.specs.Prelude.{ℕ, Bool, true, false, not, ◌&&◌, ◌||◌, ◌==◌, if◌then◌else◌, List, [], ◌∷◌, map, filter, Some, None}
use Rattle.std.specs.Bool.{beq}
use Rattle.std.specs.List.{enumerate_from}
use Rattle.plan_model.specs.declared.cases.Holder.{Holder}
use Rattle.plan_model.specs.declared.cases.Holder.TheVariants.{Free, Held, Gone}
use Rattle.plan_model.specs.declared.cases.Place.{Place}
use Rattle.plan_model.specs.declared.cases.Case.{Case}
use Rattle.plan_model.specs.Units.{place_of}
use Rattle.plan_model.specs.declared.cases.Grouping.{Grouping}
use Rattle.plan_model.specs.declared.cases.Grouping.TheVariants.{Single, Class}
use Rattle.symmetry_classes.specs.declared.groups.Class.{Class as Group}

abbrev pub same_holder : Holder → Holder → Bool
same_holder Free Free = true
same_holder (Held q) (Held r) = q == r
same_holder Gone Gone = true
same_holder _ _ = false

-- whether two servers agree in type, switchboard, holder and busy flag, and, where racks count, in the rack
abbrev pub have_one_class : Bool → Place → Place → Bool
have_one_class racks s t =
    s.kind == t.kind && s.board == t.board && same_holder s.holder t.holder && beq s.busy t.busy && (not racks || s.rack == t.rack)

-- whether the servers of two numbers are in one class
abbrev pub same_class : Grouping → Bool → Case → ℕ → ℕ → Bool
same_class Single racks case s t = s == t
same_class Class racks case s t = have_one_class racks (place_of case s) (place_of case t)

-- the numbers of the servers whose flag is set
abbrev pub flagged_servers : List Bool → List ℕ
flagged_servers flags = map (λ e. e.0) (filter (λ e. e.1) (enumerate_from 0 flags))

-- the elements that are the same as none before them
abbrev pub first_of_each : {X : Type 0} → (X → X → Bool) → List X → List X
first_of_each same [] = []
first_of_each same (x ∷ xs) = x ∷ filter (λ y. not (same x y)) (first_of_each same xs)

-- the class of a server: all the servers that are in one class with it
abbrev pub class_of : Grouping → Bool → Case → List ℕ → ℕ → Group
class_of how racks case servers s = record {
  kind = (place_of case s).kind;
  rack = if racks then Some (place_of case s).rack else None;
  board = (place_of case s).board;
  holder = (place_of case s).holder;
  busy = (place_of case s).busy;
  members = filter (same_class how racks case s) servers;
}

-- the classes, in the order of their first members
abbrev pub classes_of : Grouping → Bool → Case → List ℕ → List Group
classes_of how racks case servers = map (class_of how racks case servers) (first_of_each (same_class how racks case) servers)
