-- The inventory of a sample is the region of its servers.
use Rattle.std.proofs.Common.{◌≡◌, ◌≤◌, ◌<◌, refl, sym, ap, ap₂, ◌∙◌, ℕ, zero, suc, ◌+◌, ◌*◌, ◌%◌, Bool, true, false, cond, ◌&&◌, ◌||◌, ◌==◌, List, [], ◌∷◌, ◌++◌, length, None, arith}
use Rattle.std.specs.Prelude.{not, map, flat_map, nat_le, codes, Ok}
use Rattle.std.specs.List.{range_with_len, list_all, list_any}
use Rattle.std.proofs.lemmas.Bool.{eqb-true}
use Rattle.std.proofs.lemmas.List.{length-map}
use Rattle.std.proofs.lemmas.List.FromFn.{map-range_with_len_more, length-map-range_with_len}
use Rattle.std.proofs.lemmas.Bool.Decides.{nat_tests}
use Rattle.csv.specs.Reading.{strip_bom, default_config, records}
use Rattle.ras_table.specs.Names.{is_name}
use Rattle.ras_table.specs.Rows.{row_of}
use Rattle.ras_table.specs.Records.{records_of}
use Rattle.ras_table.specs.declared.rows.Cell.{Cell}
use Rattle.ras_table.specs.declared.rows.Cell.TheVariants as cell
use Rattle.ras_inventory.specs.declared.line.Line.{Line}
use Rattle.ras_inventory.specs.Lines.{heads, kinds, distinct, broken_rule, stands_twice, has_moved_rack, has_moved_board, is_one_too_many, checked, line_in, line_at, lines_from, lines_of, and_then}
use Rattle.ras_inventory.specs.Regions.{regional, region_of, server_of}
use Rattle.region_gen.specs.Files.{inventory_line, inventory_text, region_lines, server_type}
use Rattle.plan_model.proofs.CaseFacts.{and-left, and-right}
use Rattle.sample_case.specs.Lines.{line_text, are_names}
use Rattle.sample_case.specs.Samples.{draw_at, name_of, rack_of, board_of, center_of, sample_line, sample_lines, sample_region}
use Rattle.sample_case.proofs.PlainRows.{lines-back}
use Rattle.sample_case.proofs.Names.{each, has_names, is_again, moves_rack, moves_board, stands_well, has_few_boards, has_boards, all-names, all-well, all-few, all-boards}
use Rattle.sample_case.proofs.Texts.{inventory_fields, inventory-line-fields, lines-by-server}
use Rattle.sample_case.proofs.Texts as texts

-- ---- the records

inventory-rows : (number : ℕ) (xs : List ℕ) → flat_map (texts.line_at inventory_line number) xs ≡ flat_map line_text (map (inventory_fields number) xs)
inventory-rows number [] = refl
inventory-rows number (x ∷ xs) = ap₂ (λ ps qs. ps ++ qs) (inventory-line-fields number x) (inventory-rows number xs)

type-named : (draw : ℕ) → is_name (server_type draw) ≡ true
type-named draw = by (draw % 2 == 0)
  where
    by : (b : Bool) → is_name (cond b (codes "t0") (codes "t1")) ≡ true
    by true = refl
    by false = refl

pub named : (k : ℕ) → k < 160 → has_names k ≡ true
named k few = each has_names 160 k few all-names

pub name-named : (k : ℕ) → k < 160 → is_name (name_of k) ≡ true
name-named k few = and-left _ _ (and-left _ _ (and-left _ _ (named k few)))

rack-named : (k : ℕ) → k < 160 → is_name (rack_of k) ≡ true
rack-named k few = and-right _ _ (and-left _ _ (and-left _ _ (named k few)))

board-named : (k : ℕ) → k < 160 → is_name (board_of k) ≡ true
board-named k few = and-right _ _ (and-left _ _ (named k few))

center-named : (k : ℕ) → k < 160 → is_name (center_of k) ≡ true
center-named k few = and-right _ _ (named k few)

fields-named : (number k : ℕ) → k < 160 → are_names (inventory_fields number k) ≡ true
fields-named number k few = rw (name-named k few, type-named (draw_at number k), rack-named k few, board-named k few, center-named k few) refl

rows-named : (number a n : ℕ) → a + n ≤ 160 → list_all are_names (map (inventory_fields number) (range_with_len a n)) ≡ true
rows-named number a zero few = refl
rows-named number a (suc n) few =
    ap₂ (λ b c. b && c) (fields-named number a (omega (arith, few))) (rows-named number (a + 1) n (omega (arith, few)))

no-mark : (xs : List ℕ) → strip_bom (codes "ser" ++ xs) ≡ codes "ser" ++ xs
unfolding strip_bom
no-mark xs = refl

-- a text that begins with a head, and then has lines of names
pub records-read : (text : List ℕ) (rows : List (List (List ℕ))) (xs : List ℕ) → text ≡ codes "ser" ++ xs → text ≡ flat_map line_text rows → list_all are_names rows ≡ true
    → records_of text ≡ rows
records-read text rows xs begins is all =
    let unmarked : strip_bom text ≡ text = ap strip_bom begins ∙ no-mark xs ∙ sym begins in
    ap (records default_config) (ap strip_bom unmarked ∙ unmarked ∙ is) ∙ lines-back rows all

inventory-records : (number size : ℕ) → size ≤ 40 → records_of (inventory_text number size) ≡ heads ∷ map (inventory_fields number) (range_with_len 0 (4 * size))
inventory-records number size few =
    records-read (inventory_text number size) (heads ∷ map (inventory_fields number) (range_with_len 0 (4 * size))) (codes "ver,type,rack,switchboard,datacenter\n" ++ region_lines inventory_line number size)
    refl
    (ap (λ xs. codes "server,type,rack,switchboard,datacenter\n" ++ xs) (lines-by-server inventory_line number size ∙ inventory-rows number (range_with_len 0 (4 * size))))
    (rows-named number 0 (4 * size) (omega (arith, few)))

-- ---- the rules

pub any-map : {X : Type 0} (test : X → Bool) (f : ℕ → X) (xs : List ℕ) → list_any test (map f xs) ≡ list_any (λ k. test (f k)) xs
any-map test f [] = refl
any-map test f (x ∷ xs) = ap (λ b. test (f x) || b) (any-map test f xs)

pub not-so : (b : Bool) → not b ≡ true → b ≡ false
not-so true e = cc
not-so false e = refl

well : (k : ℕ) → k < 160 → stands_well k ≡ true
well k few = each stands_well 160 k few all-well

pub is-new : (k : ℕ) → k < 160 → list_any (is_again k) (range_with_len 0 k) ≡ false
is-new k few = not-so _ (and-left _ _ (and-left _ _ (well k few)))

keeps-rack : (k : ℕ) → k < 160 → list_any (moves_rack k) (range_with_len 0 k) ≡ false
keeps-rack k few = not-so _ (and-right _ _ (and-left _ _ (well k few)))

keeps-board : (k : ℕ) → k < 160 → list_any (moves_board k) (range_with_len 0 k) ≡ false
keeps-board k few = not-so _ (and-right _ _ (well k few))

few-boards : (k : ℕ) → k < 160 → nat_le 65 (length (distinct (map board_of (range_with_len 0 (k + 1))))) ≡ false
few-boards k few = not-so _ (each has_few_boards 160 k few all-few)

boards-of : (number : ℕ) (xs : List ℕ) → map (λ (l : Line). l.board) (map (sample_line number) xs) ≡ map board_of xs
boards-of number [] = refl
boards-of number (x ∷ xs) = ap (λ rest. board_of x ∷ rest) (boards-of number xs)

is-below : (n : ℕ) → n < 160 → nat_le 20000 n ≡ false
is-below n few = grind (arith, nat_tests, few)

module _ (number k : ℕ) (few : k < 160) where
  before : List Line
  before = map (sample_line number) (range_with_len 0 k)

  after : before ++ sample_line number k ∷ [] ≡ map (sample_line number) (range_with_len 0 (k + 1))
  unfolding before
  after = sym (map-range_with_len_more (sample_line number) 0 k k (omega arith))

  has-room : is_one_too_many (map (sample_line number) (range_with_len 0 k)) (sample_line number k) ≡ false
  unfolding before
  has-room =
      ap₂ (λ b c. b || c) (ap (nat_le 20000) (length-map-range_with_len (sample_line number) 0 k) ∙ is-below k few)
      (ap (λ (ls : List Line). nat_le 65 (length (distinct (map (λ (l : Line). l.board) ls)))) after
      ∙ ap (λ names. nat_le 65 (length (distinct names))) (boards-of number (range_with_len 0 (k + 1)))
      ∙ few-boards k few)

  pub breaks-none : broken_rule (map (sample_line number) (range_with_len 0 k)) (sample_line number k) ≡ None
  breaks-none =
      let line = sample_line number k in
      let ks = range_with_len 0 k in
      let twice : stands_twice (map (sample_line number) ks) line ≡ false = any-map _ (sample_line number) ks ∙ is-new k few in
      let rack : has_moved_rack (map (sample_line number) ks) line ≡ false = any-map _ (sample_line number) ks ∙ keeps-rack k few in
      let board : has_moved_board (map (sample_line number) ks) line ≡ false = any-map _ (sample_line number) ks ∙ keeps-board k few in
      rw (twice, rack, board, has-room) refl

-- ---- the servers

cells_of : ℕ → ℕ → List Cell
cells_of number k =
    cell.Name (name_of k) ∷ cell.Name (server_type (draw_at number k)) ∷ cell.Name (rack_of k) ∷ cell.Name (board_of k) ∷ cell.Name (center_of k) ∷ []

row-of : (number k : ℕ) → k < 160 → row_of kinds (inventory_fields number k) ≡ Ok (cells_of number k)
unfolding cells_of
row-of number k few = rw (name-named k few, type-named (draw_at number k), rack-named k few, board-named k few, center-named k few) refl

server-at : (number k m : ℕ) → k < 160
    → line_at m (map (sample_line number) (range_with_len 0 k)) (inventory_fields number k) ≡ Ok (sample_line number k)
unfolding cells_of
server-at number k m few =
    ap (line_in m (map (sample_line number) (range_with_len 0 k))) (row-of number k few)
    ∙ ap (checked m (sample_line number k)) (breaks-none number k few)

servers-from : (number a n m : ℕ) → a + n ≤ 160
    → lines_from m (map (sample_line number) (range_with_len 0 a)) (map (inventory_fields number) (range_with_len a n)) ≡ Ok (map (sample_line number) (range_with_len 0 (a + n)))
servers-from number a zero m few = let all : a ≡ a + 0 = omega arith in ap (λ k. Ok (map (sample_line number) (range_with_len 0 k))) all
servers-from number a (suc n) m few =
    let records = map (inventory_fields number) (range_with_len (a + 1) n) in
    let ends : a + 1 + n ≡ a + suc n = omega arith in
    ap (λ r. and_then r (λ line. lines_from (m + 1) (map (sample_line number) (range_with_len 0 a) ++ line ∷ []) records)) (server-at number a m (omega (arith, few)))
    ∙ ap (λ (ls : List Line). lines_from (m + 1) ls records) (sym (map-range_with_len_more (sample_line number) 0 a a (omega arith)))
    ∙ servers-from number (a + 1) n (m + 1) (omega (arith, few))
    ∙ ap (λ k. Ok (map (sample_line number) (range_with_len 0 k))) ends

pub inventory-valid : (number size : ℕ) → size ≤ 40 → region_of (inventory_text number size) ≡ Ok (sample_region number size)
inventory-valid number size few =
    ap (λ rs. and_then (lines_of rs) (λ lines. Ok (regional lines))) (inventory-records number size few)
    ∙ ap (λ r. and_then r (λ lines. Ok (regional lines)))
    (servers-from number 0 (4 * size) 2 (omega (arith, few)) ∙ (let all : 0 + 4 * size ≡ 4 * size = omega arith in ap (λ n. Ok (map (sample_line number) (range_with_len 0 n))) all))

pub servers-counted : (number size : ℕ) → length (sample_region number size).servers ≡ 4 * size
servers-counted number size = length-map (sample_lines number size) (server_of (sample_lines number size)) ∙ length-map-range_with_len (sample_line number) 0 (4 * size)

pub boards-counted : (number size : ℕ) → size ≤ 40 → length (sample_region number size).boards ≡ size
boards-counted number size few =
    ap (λ names. length (distinct names)) (boards-of number (range_with_len 0 (4 * size))) ∙ eqb-true _ size (each has_boards 41 size (omega (arith, few)) all-boards)
