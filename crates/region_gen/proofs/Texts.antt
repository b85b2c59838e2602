-- Lines after lines, and draws after draws.
use Rattle.std.proofs.Common.{◌≡◌, ℕ, zero, suc, ◌+◌, ◌*◌, List, [], ◌∷◌, ◌++◌, sym, ap, ap₂, ◌∙◌, refl, arith}
use Rattle.std.specs.Prelude.{flat_map, map}
use Rattle.std.specs.List.{range_with_len}
use Rattle.std.proofs.lemmas.List.{flat_map_more}
use Rattle.std.proofs.lemmas.List.Folds.{flat_map-map}
use Rattle.std.proofs.lemmas.List.FromFn.{map-range_with_len_more}
use Rattle.region_gen.specs.Draws.{drawn, drawn_after}
use Rattle.region_gen.specs.Files.{board_lines, lines_after}

-- one piece more after those of the numbers below n
pub pieces_more : (f : ℕ → List ℕ) (n : ℕ) (before text grown : List ℕ) → text ≡ before ++ flat_map f (range_with_len 0 n) → grown ≡ text ++ f n
    → grown ≡ before ++ flat_map f (range_with_len 0 (n + 1))
pieces_more f n before text grown so is =
    let joined = λ (k : ℕ). flat_map-map (λ (xs : List ℕ). xs) f (range_with_len 0 k) in
    is ∙ ap (λ xs. xs ++ f n) (so ∙ ap (λ xs. before ++ xs) (sym (joined n)))
    ∙ flat_map_more (λ (xs : List ℕ). xs) before (map f (range_with_len 0 n)) (f n)
    ∙ ap (λ xss. before ++ flat_map (λ (xs : List ℕ). xs) xss) (sym (map-range_with_len_more f 0 n n (omega arith)))
    ∙ ap (λ xs. before ++ xs) (joined (n + 1))

-- ---- draws

pub one_more : (number n : ℕ) → drawn (drawn_after number n) ≡ drawn_after number (n + 1)
one_more number n = let one : suc n ≡ n + 1 = omega arith in ap (drawn_after number) one

draws_join : (number m n : ℕ) → drawn_after (drawn_after number m) n ≡ drawn_after number (m + n)
draws_join number m zero = let same : m ≡ m + 0 = omega arith in ap (drawn_after number) same
draws_join number m (suc n) = let one : suc (m + n) ≡ m + suc n = omega arith in ap drawn (draws_join number m n) ∙ ap (drawn_after number) one

pub draws_more : (number last i : ℕ) → last ≡ drawn_after number (4 * i) → drawn_after last 4 ≡ drawn_after number (4 * (i + 1))
draws_more number last i from =
    let next : 4 * i + 4 ≡ 4 * (i + 1) = omega arith in
    ap (λ x. drawn_after x 4) from ∙ draws_join number (4 * i) 4 ∙ ap (drawn_after number) next

pieces_same : (f g : ℕ → List ℕ) → ((n : ℕ) → f n ≡ g n) → (xs : List ℕ) → flat_map f xs ≡ flat_map g xs
pieces_same f g same [] = refl
pieces_same f g same (x ∷ xs) = ap₂ (λ ps qs. ps ++ qs) (same x) (pieces_same f g same xs)

pub board_after : (line : ℕ → ℕ → ℕ → List ℕ) (number last i : ℕ) → last ≡ drawn_after number (4 * i) → lines_after line last i ≡ board_lines line number i
board_after line number last i from =
    pieces_same (λ place. line (drawn_after last (place + 1)) i place) (λ place. line (drawn_after number (4 * i + place + 1)) i place)
    (λ place. let next : 4 * i + (place + 1) ≡ 4 * i + place + 1 = omega arith in
    ap (λ draw. line draw i place) (ap (λ x. drawn_after x (place + 1)) from ∙ draws_join number (4 * i) (place + 1) ∙ ap (drawn_after number) next))
    (range_with_len 0 4)
