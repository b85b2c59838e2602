-- The lines of the files, server by server.
use Rattle.std.proofs.Common.{◌≡◌, ℕ, zero, suc, ◌+◌, ◌*◌, ◌/◌, ◌%◌, List, [], ◌∷◌, ◌++◌, append_assoc, sym, ap, ap₂, ◌∙◌, refl, arith}
use Rattle.std.specs.Prelude.{flat_map, decimal}
use Rattle.std.specs.List.{range_with_len}
use Rattle.region_gen.specs.Draws.{drawn_after, draw_of}
use Rattle.region_gen.specs.Files.{board_lines, region_lines, inventory_line, server_type}
use Rattle.sample_case.specs.Samples.{draw_at, name_of, rack_of, board_of, center_of}
use Rattle.sample_case.specs.Lines.{line_text}

-- the line of a server by its number
abbrev pub line_at : (ℕ → ℕ → ℕ → List ℕ) → ℕ → ℕ → List ℕ
line_at line number k = line (draw_at number k) (k / 4) (k % 4)

four-joined : (x y z w rest : List ℕ) → (x ++ (y ++ (z ++ (w ++ [])))) ++ rest ≡ x ++ (y ++ (z ++ (w ++ rest)))
four-joined x y z w rest =
    append_assoc x (y ++ (z ++ (w ++ []))) rest
    ∙ ap (λ l. x ++ l) (append_assoc y (z ++ (w ++ [])) rest
    ∙ ap (λ l. y ++ l) (append_assoc z (w ++ []) rest
    ∙ ap (λ l. z ++ l) (append_assoc w [] rest)))

-- a server's number gives its switchboard and its place there
place-of : (line : ℕ → ℕ → ℕ → List ℕ) (number i j k : ℕ) → i ≡ k / 4 → j ≡ k % 4 → 4 * i + j + 1 ≡ k + 1
    → line (draw_of number i j) i j ≡ line_at line number k
place-of line number i j k e f g = ap (λ n. line (drawn_after number n) i j) g ∙ ap₂ (λ a b. line (draw_at number k) a b) e f

boards-by-server : (line : ℕ → ℕ → ℕ → List ℕ) (number a n : ℕ)
    → flat_map (board_lines line number) (range_with_len a n) ≡ flat_map (line_at line number) (range_with_len (4 * a) (4 * n))
boards-by-server line number a zero = refl
boards-by-server line number a (suc n) =
    let count : 4 * suc n ≡ suc (suc (suc (suc (4 * n)))) = omega arith in
    let next : 4 * (a + 1) ≡ 4 * a + 1 + 1 + 1 + 1 = omega arith in
    let one = place-of line number a 0 (4 * a) (omega arith) (omega arith) (omega arith) in
    let two = place-of line number a 1 (4 * a + 1) (omega arith) (omega arith) (omega arith) in
    let three = place-of line number a 2 (4 * a + 1 + 1) (omega arith) (omega arith) (omega arith) in
    let four = place-of line number a 3 (4 * a + 1 + 1 + 1) (omega arith) (omega arith) (omega arith) in
    four-joined (line (draw_of number a 0) a 0) (line (draw_of number a 1) a 1) (line (draw_of number a 2) a 2) (line (draw_of number a 3) a 3) (flat_map (board_lines line number) (range_with_len (a + 1) n))
    ∙ ap₂ (λ xs ys. xs ++ ys) one (ap₂ (λ xs ys. xs ++ ys) two (ap₂ (λ xs ys. xs ++ ys) three (ap₂ (λ xs ys. xs ++ ys) four
    (boards-by-server line number (a + 1) n ∙ ap (λ m. flat_map (line_at line number) (range_with_len m (4 * n))) next))))
    ∙ sym (ap (λ m. flat_map (line_at line number) (range_with_len (4 * a) m)) count)

pub lines-by-server : (line : ℕ → ℕ → ℕ → List ℕ) (number size : ℕ)
    → region_lines line number size ≡ flat_map (line_at line number) (range_with_len 0 (4 * size))
lines-by-server line number size = boards-by-server line number 0 size

-- where the fields of a home end
home-parts : (a b c d e : List ℕ)
    → (107 ∷ (a ++ (120 ∷ (b ++ (44 ∷ 109 ∷ (c ++ (44 ∷ 100 ∷ d))))))) ++ e ≡ (107 ∷ (a ++ (120 ∷ b))) ++ (44 ∷ 109 ∷ (c ++ (44 ∷ 100 ∷ (d ++ e))))
home-parts a b c d e =
    let end : List ℕ = 44 ∷ 100 ∷ d in
    let board : List ℕ = 44 ∷ 109 ∷ (c ++ end) in
    let tail : List ℕ = 44 ∷ 109 ∷ (c ++ (44 ∷ 100 ∷ (d ++ e))) in
    ap (λ l. 107 ∷ l)
    (append_assoc a (120 ∷ (b ++ board)) e
    ∙ ap (λ l. a ++ (120 ∷ l)) (append_assoc b board e ∙ ap (λ l. b ++ (44 ∷ 109 ∷ l)) (append_assoc c end e))
    ∙ sym (append_assoc a (120 ∷ b) tail))

-- the fields of a server
abbrev pub inventory_fields : ℕ → ℕ → List (List ℕ)
inventory_fields number k = name_of k ∷ server_type (draw_at number k) ∷ rack_of k ∷ board_of k ∷ center_of k ∷ []

pub inventory-line-fields : (number k : ℕ) → line_at inventory_line number k ≡ line_text (inventory_fields number k)
inventory-line-fields number k =
    ap (λ l. name_of k ++ (44 ∷ (server_type (draw_at number k) ++ (44 ∷ l))))
    (home-parts (decimal (k / 4)) (decimal (k % 4 / 2)) (decimal (k / 4)) (decimal (k / 4 % 2)) (10 ∷ []))
