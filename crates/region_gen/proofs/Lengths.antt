-- How long the files of a sample get.
use Rattle.std.proofs.Common.{ℕ, zero, suc, ◌+◌, ◌*◌, ◌/◌, ◌%◌, ◌<◌, ◌≤◌, Bool, true, false, cond, List, [], ◌++◌, length, arith, length-append, lit<, lit≤}
use Rattle.std.specs.Prelude.{flat_map, decimal, codes, ◌==◌}
use Rattle.std.specs.List.{range_with_len}
use Rattle.std.proofs.lemmas.Fmt.{length-decimal-le}
use Rattle.region_gen.specs.Draws.{draw_of}
use Rattle.region_gen.specs.Files.{server_name, server_type, server_home, inventory_line, bindings_line, board_lines, region_lines, inventory_text, bindings_text, requests_text, web_need, web_rack_weight}

-- a number of one or two digits, or of three
two_digits : (n : ℕ) → n < 100 → length (decimal n) ≤ 2
two_digits n h = length-decimal-le 2 n (omega arith) (omega arith) (omega arith)

three_digits : (n : ℕ) → n < 1000 → length (decimal n) ≤ 3
three_digits n h = length-decimal-le 3 n (omega arith) (omega arith) (omega arith)

-- two and three texts in a row
two_length : (a b : List ℕ) (m n : ℕ) → length a ≤ m → length b ≤ n → length (a ++ b) ≤ m + n
two_length a b m n h k = omega (arith, length-append a b)

three_length : (a b c : List ℕ) (m n k : ℕ) → length a ≤ m → length b ≤ n → length c ≤ k → length (a ++ (b ++ c)) ≤ m + (n + k)
three_length a b c m n k p q r = two_length a (b ++ c) m (n + k) p (two_length b c n k q r)

-- pieces of at most so many bytes each
pieces_length : (f : ℕ → List ℕ) (most a n : ℕ) → ((i : ℕ) → i < a + n → length (f i) ≤ most) → length (flat_map f (range_with_len a n)) ≤ most * n
pieces_length f most a zero each = omega arith
pieces_length f most a (suc n) each =
    let here : length (f a) ≤ most = each a (omega arith) in
    let rest : length (flat_map f (range_with_len (a + 1) n)) ≤ most * n = pieces_length f most (a + 1) n (λ i h. each i (omega arith)) in
    omega (arith, length-append (f a) (flat_map f (range_with_len (a + 1) n)))

name_length : (i j : ℕ) → i < 100 → j < 100 → length (server_name i j) ≤ 6
name_length i j h k =
    three_length (codes "s") (decimal i) (codes "x" ++ decimal j) 1 2 3 (lit≤ tt) (two_digits i h) (two_length (codes "x") (decimal j) 1 2 (lit≤ tt) (two_digits j k))

type_length : (draw : ℕ) → length (server_type draw) ≤ 2
type_length draw = at (draw % 2 == 0)
  where
    at : (b : Bool) → length (cond b (codes "t0") (codes "t1")) ≤ 2
    at true = lit≤ tt
    at false = lit≤ tt

home_length : (i j : ℕ) → i < 100 → j < 100 → length (server_home i j) ≤ 14
home_length i j h k =
    three_length (codes "k") (decimal i) (codes "x" ++ (decimal (j / 2) ++ (codes ",m" ++ (decimal i ++ (codes ",d" ++ decimal (i % 2)))))) 1 2 11
    (lit≤ tt) (two_digits i h)
    (three_length (codes "x") (decimal (j / 2)) (codes ",m" ++ (decimal i ++ (codes ",d" ++ decimal (i % 2)))) 1 2 8
    (lit≤ tt) (two_digits (j / 2) (omega arith))
    (three_length (codes ",m") (decimal i) (codes ",d" ++ decimal (i % 2)) 2 2 4
    (lit≤ tt) (two_digits i h) (two_length (codes ",d") (decimal (i % 2)) 2 2 (lit≤ tt) (two_digits (i % 2) (omega arith)))))

inventory_length : (draw i j : ℕ) → i < 100 → j < 100 → length (inventory_line draw i j) ≤ 25
inventory_length draw i j h k =
    three_length (server_name i j) (codes ",") (server_type draw ++ (codes "," ++ (server_home i j ++ codes "\n"))) 6 1 18
    (name_length i j h k) (lit≤ tt)
    (three_length (server_type draw) (codes ",") (server_home i j ++ codes "\n") 2 1 15
    (type_length draw) (lit≤ tt) (two_length (server_home i j) (codes "\n") 14 1 (home_length i j h k) (lit≤ tt)))

bindings_length : (draw i j : ℕ) → i < 100 → j < 100 → length (bindings_line draw i j) ≤ 25
bindings_length draw i j h k = at (draw % 3 == 0) (server_name i j ++ codes ",web,0,1\n") (two_length (server_name i j) (codes ",web,0,1\n") 6 9 (name_length i j h k) (lit≤ tt))
  where
    at : (b : Bool) (xs : List ℕ) → length xs ≤ 6 + 9 → length (cond b xs []) ≤ 25
    at true xs h = omega (arith, h)
    at false xs h = lit≤ tt

region_length : (line : ℕ → ℕ → ℕ → List ℕ) (number size : ℕ) → size ≤ 100 → ((draw i j : ℕ) → i < 100 → j < 100 → length (line draw i j) ≤ 25)
    → length (region_lines line number size) ≤ 100 * size
region_length line number size few each =
    pieces_length (board_lines line number) 100 0 size
    (λ i h. pieces_length (λ place. line (draw_of number i place) i place) 25 0 4 (λ j k. each (draw_of number i j) i j (omega arith) (omega arith)))

-- a head and the lines of up to 40 switchboards
text_small : (head lines : List ℕ) (size : ℕ) → length head ≤ 50 → size ≤ 40 → length lines ≤ 100 * size → length (head ++ lines) ≤ 8192
text_small head lines size h few k = omega (arith, h, few, k, length-append head lines)

pub inventory-small : (number size : ℕ) → size ≤ 40 → length (inventory_text number size) ≤ 8192
inventory-small number size few =
    text_small (codes "server,type,rack,switchboard,datacenter\n") (region_lines inventory_line number size) size (lit≤ tt) few
    (region_length inventory_line number size (omega (arith, few)) inventory_length)

pub bindings-small : (number size : ℕ) → size ≤ 40 → length (bindings_text number size) ≤ 8192
bindings-small number size few =
    text_small (codes "server,reservation,busy,up\n") (region_lines bindings_line number size) size (lit≤ tt) few
    (region_length bindings_line number size (omega (arith, few)) bindings_length)

weight_length : (size : ℕ) → length (decimal (web_rack_weight size)) ≤ 3
weight_length size = at (size % 2 == 0)
  where
    at : (b : Bool) → length (decimal (cond b 1 0)) ≤ 3
    at true = three_digits 1 (lit< tt)
    at false = three_digits 0 (lit< tt)

parts_small : (a b c d e : List ℕ) → length a ≤ 120 → length b ≤ 3 → length c ≤ 50 → length d ≤ 3 → length e ≤ 100 → length (a ++ (b ++ (c ++ (d ++ e)))) ≤ 8192
parts_small a b c d e p q r s t =
    let all : length (a ++ (b ++ (c ++ (d ++ e)))) ≤ 120 + (3 + (50 + (3 + 100))) =
    three_length a b (c ++ (d ++ e)) 120 3 (50 + (3 + 100)) p q (three_length c d e 50 3 100 r s t) in
    omega (arith, all)

pub requests-small : (size : ℕ) → size ≤ 40 → length (requests_text size) ≤ 8192
requests-small size few =
    parts_small (codes "{\"format\":1,\"moves\":{\"busy\":20,\"idle\":3,\"take\":1},\"reservations\":[{\"name\":\"web\",\"need\":") (decimal (web_need size))
    (codes ",\"rack_limit\":10,\"rack_weight\":") (decimal (web_rack_weight size))
    (codes ",\"values\":{\"t0\":10,\"t1\":6}},{\"name\":\"db\",\"need\":8,\"values\":{\"t1\":8}}]}")
    (lit≤ tt) (three_digits (web_need size) (omega (arith, few))) (lit≤ tt) (weight_length size) (lit≤ tt)
