-- What the loops over the lines of an inventory keep.
use Rattle.std.proofs.Common.{ℕ, ◌+◌, ◌<◌, ◌≤◌, ◌≡◌, ◌∙◌, sym, ap, refl, Bool, true, false, cond, not, ◌&&◌, ◌||◌, List, [], ◌∷◌, ◌++◌, length, map, drop, take, get_or, Option, Some, None, is_some, Result, Ok, Err, arith, drop-cons, add-one, length-append, if◌then◌else◌, OnOk}
use Rattle.std.proofs.Common.{subst, nat_le, slice_get, IfSome}
use Rattle.std.specs.Result.{is_err}
use Rattle.std.proofs.lemmas.Bool.Decides.{nat_tests}
use Rattle.std.specs.List.{list_any}
use Rattle.std.specs.Option.{option_map_or}
use Rattle.std.specs.Str.{bytes_eq}
use Rattle.std.proofs.lemmas.List.{map-append, take_more, length-map, length-take}
use Rattle.ras_table.specs.Numbered.{after_number}
use Rattle.ras_table.specs.Names.{number_of, names_differ}
use Rattle.ras_inventory.specs.Lines.{kinds, told, broken_rule, distinct, distinct_from, lines_from, line_at, and_then, stands_twice, has_moved_rack, has_moved_board, is_one_too_many}
use Rattle.ras_inventory.specs.Cells.{is_name_cell}
use Rattle.ras_inventory.specs.HomeWords.{home_of, has_left, after_home}
use Rattle.ras_inventory.specs.Registers.{IsRegisterOf, AreRegular, AreHomed, racks_on_boards, boards_in_centers}
use Rattle.ras_inventory.specs.declared.line.Line.{Line}
use Rattle.ras_inventory.specs.declared.register.Register.{Register}
use Rattle.ras_inventory.specs.declared.fault.RegionFault.{RegionFault}
use Rattle.ras_inventory.specs.declared.fault.RegionFault.TheVariants.{At, Memory}
use Rattle.ras_inventory.specs.declared.fault.RegionWhy.TheVariants as why
use Rattle.ras_table.specs.Rows.{are_of_kinds, is_of_kind}
use Rattle.ras_table.specs.declared.rows.Kind.TheVariants as kind
use Rattle.ras_table.specs.declared.rows.Cell.{Cell}
use Rattle.ras_table.specs.declared.rows.Cell.TheVariants as cell
use Rattle.ras_table.proofs.RowsLemmas.{first-of-kind}
use Rattle.ras_table.proofs.NamesLemmas.{number-there, any-name, names_differ-push}
use Rattle.ras_inventory.proofs.HomesLemmas.{moved, moved-is, home-after, homed-push}

distinct_from-push : (found xs : List (List ℕ)) (y : List ℕ) → distinct_from found (xs ++ y ∷ []) ≡ after_number (distinct_from found xs) y
distinct_from-push found [] y = refl
distinct_from-push found (x ∷ xs) y = distinct_from-push (after_number found x) xs y

-- the names of one more line
pub named_pushed : (f : Line → List ℕ) (before : List Line) (line : Line) → distinct (map f (before ++ line ∷ [])) ≡ after_number (distinct (map f before)) (f line)
named_pushed f before line = ap distinct (map-append f before (line ∷ [])) ∙ distinct_from-push [] (map f before) (f line)

pub boards_pushed : (before : List Line) (line : Line) → distinct (map (λ l. l.board) (before ++ line ∷ [])) ≡ after_number (distinct (map (λ l. l.board) before)) line.board
boards_pushed before line = named_pushed (λ l. l.board) before line

pub list_any-mapped : {X Y : Type 0} (p : Y → Bool) (f : X → Y) (xs : List X) → list_any p (map f xs) ≡ list_any (λ x. p (f x)) xs
list_any-mapped p f [] = refl
list_any-mapped p f (x ∷ xs) = ap (λ b. p (f x) || b) (list_any-mapped p f xs)

-- a rack, or a switchboard, has moved exactly where its home is another
pub left-is-moved : (f g : Line → List ℕ) (homes : List (List ℕ × List ℕ)) (before : List Line) (q v : List ℕ)
    → home_of homes q ≡ home_of (map (λ l. (f l, g l)) before) q → moved q v (map (λ l. (f l, g l)) before) ≡ has_left (map (λ l. (f l, g l)) before) q v
    → has_left homes q v ≡ list_any (λ l. bytes_eq (f l) q && not (bytes_eq (g l) v)) before
left-is-moved f g homes before q v same is =
    ap (λ (o : Option (List ℕ)). option_map_or (λ h. not (bytes_eq h v)) o false) same ∙ sym is
    ∙ list_any-mapped (λ (p : List ℕ × List ℕ). bytes_eq p.0 q && not (bytes_eq p.1 v)) (λ (l : Line). (f l, g l)) before

pub rack_left : (before : List Line) (register : Register) (line : Line) → IsRegisterOf before register → has_left register.rack_boards line.rack line.board ≡ has_moved_rack before line
rack_left before register line r =
    left-is-moved (λ l. l.rack) (λ l. l.board) register.rack_boards before line.rack line.board (r.rack_boards line.rack) (moved-is line.rack line.board (racks_on_boards before) r.regular.racks)

pub board_left : (before : List Line) (register : Register) (line : Line) → IsRegisterOf before register → has_left register.board_centers line.board line.center ≡ has_moved_board before line
board_left before register line r =
    left-is-moved (λ l. l.board) (λ l. l.center) register.board_centers before line.board line.center (r.board_centers line.board) (moved-is line.board line.center (boards_in_centers before) r.regular.centers)

-- a server stands twice exactly where its name has a number
pub stands_found : (before : List Line) (register : Register) (line : Line) → IsRegisterOf before register → is_some (number_of register.names line.name) ≡ stands_twice before line
stands_found before register line r =
    ap (λ (names : List (List ℕ)). is_some (number_of names line.name)) r.names ∙ number-there line.name (map (λ (l : Line). l.name) before) ∙ any-name (λ (l : Line). l.name) line.name before

pub length-after : (names : List (List ℕ)) (n : List ℕ) → length (after_number names n) ≤ length names + 1
length-after names n = by (is_some (number_of names n))
  where
    by : (b : Bool) → length (cond b names (names ++ n ∷ [])) ≤ length names + 1
    by true = omega arith
    by false = omega (arith, length-append names (n ∷ []))

length-distinct_from : (found xs : List (List ℕ)) → length (distinct_from found xs) ≤ length found + length xs
length-distinct_from found [] = omega arith
length-distinct_from found (x ∷ xs) = omega (arith, length-distinct_from (after_number found x) xs, length-after found x)

-- there are no more names than lines
pub few-named : (f : Line → List ℕ) (i : ℕ) (lines : List Line) → length (distinct (map f (take i lines))) ≤ i
few-named f i lines = omega (arith, length-distinct_from [] (map f (take i lines)), length-map (take i lines) f, length-take i lines)

-- the names of the lines up to the next
pub named-next : (f : Line → List ℕ) (i : ℕ) (lines : List Line) (d : Line) (names : List (List ℕ)) (name : List ℕ) → i < length lines → names ≡ distinct (map f (take i lines)) → name ≡ f (get_or lines i d)
    → after_number names name ≡ distinct (map f (take (i + 1) lines))
named-next f i lines d names name within so is =
    rw (so, is) (sym (ap (λ l. distinct (map f l)) (take_more lines i d within) ∙ named_pushed f (take i lines) (get_or lines i d)))

-- the loop over the records goes on by one line
pub lines-go : (i : ℕ) (lines : List Line) (records : List (List (List ℕ))) (r : List (List ℕ)) (line : Line) (all : Result (List Line) RegionFault)
    → i < length records → lines_from (i + 1) lines (drop i records) ≡ all → line_at (i + 1) lines (get_or records i r) ≡ Ok line
    → lines_from (i + 1 + 1) (lines ++ line ∷ []) (drop (i + 1) records) ≡ all
lines-go i lines records r line all within so is =
    let split : drop i records ≡ get_or records i r ∷ drop (i + 1) records = drop-cons records i r within ∙ rw add-one refl in
    let one = ap (lines_from (i + 1) lines) split in
    let two = ap (λ o. and_then o (λ l. lines_from (i + 1 + 1) (lines ++ l ∷ []) (drop (i + 1) records))) is in
    sym two ∙ sym one ∙ so

-- and stops at its first fault
pub lines-stop : (i : ℕ) (lines : List Line) (records : List (List (List ℕ))) (r : List (List ℕ)) (e : RegionFault) (all : Result (List Line) RegionFault)
    → i < length records → lines_from (i + 1) lines (drop i records) ≡ all → IfSome (told e) (λ f. line_at (i + 1) lines (get_or records i r) ≡ Err f) → IfSome (told e) (λ f. all ≡ Err f)
lines-stop i lines records r Memory all within so is = tt
lines-stop i lines records r (At n w) all within so is =
    let split : drop i records ≡ get_or records i r ∷ drop (i + 1) records = drop-cons records i r within ∙ rw add-one refl in
    sym so ∙ ap (lines_from (i + 1) lines) split ∙ ap (λ o. and_then o (λ l. lines_from (i + 1 + 1) (lines ++ l ∷ []) (drop (i + 1) records))) is

-- what holds on Ok, by a test
pub on-ok : {T E : Type 0} {P : Type 0} (r : Result T E) → false ≡ is_err r → OnOk r P → P
on-ok (Ok x) e p = p
on-ok (Err x) e p = absurd cc

-- a server breaks no rule
record BreaksNone (before : List Line) (line : Line) : Type 0 where
  twice : stands_twice before line ≡ false
  rack : has_moved_rack before line ≡ false
  board : has_moved_board before line ≡ false
  many : is_one_too_many before line ≡ false

breaks-none : (before : List Line) (line : Line) → broken_rule before line ≡ None → BreaksNone before line
breaks-none before line none = by (stands_twice before line) refl (has_moved_rack before line) refl (has_moved_board before line) refl (is_one_too_many before line) refl none
  where
    by : (a : Bool) → stands_twice before line ≡ a → (b : Bool) → has_moved_rack before line ≡ b → (c : Bool) → has_moved_board before line ≡ c → (d : Bool) → is_one_too_many before line ≡ d
        → (if a then Some why.Twice else if b then Some why.RackMoved else if c then Some why.BoardMoved else if d then Some why.Many else None) ≡ None → BreaksNone before line
    by false w false x false y false z e = record { twice = w; rack = x; board = y; many = z }
    by true w b x c y d z e = absurd cc
    by false w true x c y d z e = absurd cc
    by false w false x true y d z e = absurd cc
    by false w false x false y true z e = absurd cc

-- a name that has not moved among lines has not moved among their pairs
stays : (f g : Line → List ℕ) (before : List Line) (q v : List ℕ) → list_any (λ l. bytes_eq (f l) q && not (bytes_eq (g l) v)) before ≡ false → moved q v (map (λ l. (f l, g l)) before) ≡ false
stays f g before q v e = list_any-mapped (λ (p : List ℕ × List ℕ). bytes_eq p.0 q && not (bytes_eq p.1 v)) (λ (l : Line). (f l, g l)) before ∙ e

too-few : (m n : ℕ) → nat_le m n ≡ false → n + 1 ≤ m
too-few m n e = grind (arith, nat_tests)

limits : (a b : ℕ) → (nat_le 20000 a || nat_le 65 b) ≡ false → (a + 1 ≤ 20000) × (b ≤ 64)
limits a b e = by (nat_le 20000 a) refl (nat_le 65 b) refl e
  where
    by : (x : Bool) → nat_le 20000 a ≡ x → (y : Bool) → nat_le 65 b ≡ y → (x || y) ≡ false → (a + 1 ≤ 20000) × (b ≤ 64)
    by false p false q e = (too-few 20000 a p, omega (arith, too-few 65 b q))
    by false p true q e = absurd cc
    by true p y q e = absurd cc

-- servers with one more that breaks no rule
regular-push : (before : List Line) (line : Line) → AreRegular before → broken_rule before line ≡ None → AreRegular (before ++ line ∷ [])
regular-push before line regular none =
    let broken = breaks-none before line none in
    let within = limits (length before) (length (distinct (map (λ (l : Line). l.board) (before ++ line ∷ [])))) broken.many in
    let fresh : list_any (bytes_eq line.name) (map (λ (l : Line). l.name) before) ≡ false = any-name (λ (l : Line). l.name) line.name before ∙ broken.twice in
    record {
      few = omega (arith, within.0, length-append before (line ∷ []));
      boards = within.1;
      names = ap names_differ (map-append (λ (l : Line). l.name) before (line ∷ [])) ∙ names_differ-push (map (λ (l : Line). l.name) before) line.name regular.names fresh;
      racks = subst (λ ps. AreHomed (home_of ps) ps) (sym (map-append (λ (l : Line). (l.rack, l.board)) before (line ∷ [])))
          (homed-push (racks_on_boards before) line.rack line.board regular.racks (stays (λ l. l.rack) (λ l. l.board) before line.rack line.board broken.rack));
      centers = subst (λ ps. AreHomed (home_of ps) ps) (sym (map-append (λ (l : Line). (l.board, l.center)) before (line ∷ [])))
          (homed-push (boards_in_centers before) line.board line.center regular.centers (stays (λ l. l.board) (λ l. l.center) before line.board line.center broken.board));
    }

-- the register with one more server
pub register-goes : (before : List Line) (line : Line) (old new : Register) → IsRegisterOf before old → broken_rule before line ≡ None
    → new.names ≡ after_number old.names line.name → new.boards ≡ after_number old.boards line.board
    → new.rack_boards ≡ after_home old.rack_boards line.rack line.board → new.board_centers ≡ after_home old.board_centers line.board line.center
    → IsRegisterOf (before ++ line ∷ []) new
register-goes before line old new r none names boards racks centers =
    let broken = breaks-none before line none in
    let fresh : is_some (number_of old.names line.name) ≡ false = stands_found before old line r ∙ broken.twice in
    record {
      names = names ∙ ap (λ b. cond b old.names (old.names ++ line.name ∷ [])) fresh ∙ ap (λ (n : List (List ℕ)). n ++ line.name ∷ []) r.names ∙ sym (map-append (λ (l : Line). l.name) before (line ∷ []));
      boards = boards ∙ ap (λ (n : List (List ℕ)). after_number n line.board) r.boards ∙ sym (boards_pushed before line);
      rack_boards = λ q. ap (λ ps. home_of ps q) racks ∙ home-after old.rack_boards (racks_on_boards before) line.rack line.board r.rack_boards q
          ∙ ap (λ ps. home_of ps q) (sym (map-append (λ (l : Line). (l.rack, l.board)) before (line ∷ [])));
      board_centers = λ q. ap (λ ps. home_of ps q) centers ∙ home-after old.board_centers (boards_in_centers before) line.board line.center r.board_centers q
          ∙ ap (λ ps. home_of ps q) (sym (map-append (λ (l : Line). (l.board, l.center)) before (line ∷ [])));
      regular = regular-push before line r.regular none;
    }

-- a register of no servers
pub register-empty : (new : Register) → new.names ≡ [] → new.boards ≡ [] → new.rack_boards ≡ [] → new.board_centers ≡ [] → IsRegisterOf [] new
register-empty new names boards racks centers = record {
  names = names;
  boards = boards;
  rack_boards = λ q. ap (λ ps. home_of ps q) racks;
  board_centers = λ q. ap (λ ps. home_of ps q) centers;
  regular = record { few = omega arith; boards = omega arith; names = refl; racks = tt; centers = tt };
}

pub is-name : (x : Cell) → is_of_kind kind.Name x ≡ true → is_name_cell (Some x) ≡ true
is-name (cell.Name n) h = refl
is-name (cell.Whole n) h = absurd cc
is-name (cell.Flag b) h = absurd cc
is-name cell.Nothing h = absurd cc

-- the five cells of an inventory's row are names
pub row-names : (cells : List Cell) → are_of_kinds kinds cells ≡ true
    → (is_name_cell (slice_get cells 0) ≡ true) × (is_name_cell (slice_get cells 1) ≡ true) × (is_name_cell (slice_get cells 2) ≡ true) × (is_name_cell (slice_get cells 3) ≡ true) × (is_name_cell (slice_get cells 4) ≡ true)
row-names cells h =
    let a = first-of-kind kind.Name (kind.Name ∷ kind.Name ∷ kind.Name ∷ kind.Name ∷ []) cells h in
    let b = first-of-kind kind.Name (kind.Name ∷ kind.Name ∷ kind.Name ∷ []) a.1 a.4 in
    let c = first-of-kind kind.Name (kind.Name ∷ kind.Name ∷ []) b.1 b.4 in
    let d = first-of-kind kind.Name (kind.Name ∷ []) c.1 c.4 in
    let e = first-of-kind kind.Name ([]) d.1 d.4 in
    let all : cells ≡ a.0 ∷ b.0 ∷ c.0 ∷ d.0 ∷ e.0 ∷ e.1 =
    a.2 ∙ ap (λ l. a.0 ∷ l) (b.2 ∙ ap (λ l. b.0 ∷ l) (c.2 ∙ ap (λ l. c.0 ∷ l) (d.2 ∙ ap (λ l. d.0 ∷ l) e.2))) in
    rw all (is-name a.0 a.3, is-name b.0 b.3, is-name c.0 c.3, is-name d.0 d.3, is-name e.0 e.3)

-- a list made item by item
pub mapped-next : {X Y : Type 0} (f : X → Y) (xs : List X) (i : ℕ) (d x : X) (ys : List Y) (y : Y) → i < length xs → ys ≡ map f (take i xs) → x ≡ get_or xs i d → y ≡ f x
    → ys ++ y ∷ [] ≡ map f (take (i + 1) xs)
mapped-next f xs i d x ys y within so at is =
    ap (λ l. l ++ y ∷ []) so ∙ ap (λ v. map f (take i xs) ++ v ∷ []) (is ∙ ap f at)
    ∙ sym (ap (map f) (take_more xs i d within) ∙ map-append f (take i xs) (get_or xs i d ∷ []))
