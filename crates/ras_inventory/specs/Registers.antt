-- What a register of servers holds.
use Rattle.std.specs.Prelude.{ℕ, ◌≡◌, ◌≤◌, true, List, [], ◌∷◌, map, length, Option, Some, ⊤}
use Rattle.ras_table.specs.Names.{names_differ}
use Rattle.ras_inventory.specs.HomeWords.{home_of}
use Rattle.ras_inventory.specs.Lines.{distinct}
use Rattle.ras_inventory.specs.declared.line.Line.{Line}
use Rattle.ras_inventory.specs.declared.register.Register.{Register}

-- each server's rack with its switchboard, and switchboard with its datacenter
abbrev pub racks_on_boards : List Line → List (List ℕ × List ℕ)
racks_on_boards lines = map (λ l. (l.rack, l.board)) lines

abbrev pub boards_in_centers : List Line → List (List ℕ × List ℕ)
boards_in_centers lines = map (λ l. (l.board, l.center)) lines

-- each of these names has its home
abbrev pub AreHomed : (List ℕ → Option (List ℕ)) → List (List ℕ × List ℕ) → Type 0
AreHomed home [] = ⊤
AreHomed home (p ∷ ps) = (home p.0 ≡ Some p.1) × AreHomed home ps

-- servers no two of which have one name, with each rack on one switchboard and each switchboard in one datacenter
pub record AreRegular (lines : List Line) : Type 0 where
  pub few : length lines ≤ 20000
  pub boards : length (distinct (map (λ l. l.board) lines)) ≤ 64
  pub names : names_differ (map (λ l. l.name) lines) ≡ true
  pub racks : AreHomed (home_of (racks_on_boards lines)) (racks_on_boards lines)
  pub centers : AreHomed (home_of (boards_in_centers lines)) (boards_in_centers lines)

-- a register of these servers
pub record IsRegisterOf (lines : List Line) (register : Register) : Type 0 where
  pub names : register.names ≡ map (λ l. l.name) lines
  pub boards : register.boards ≡ distinct (map (λ l. l.board) lines)
  pub rack_boards : (name : List ℕ) → home_of register.rack_boards name ≡ home_of (racks_on_boards lines) name
  pub board_centers : (name : List ℕ) → home_of register.board_centers name ≡ home_of (boards_in_centers lines) name
  pub regular : AreRegular lines
