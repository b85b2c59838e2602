-- The names of up to 160 servers.
use Rattle.std.proofs.Common.{◌≡◌, ◌≤◌, ◌<◌, refl, ℕ, zero, suc, ◌+◌, ◌*◌, Bool, true, ◌&&◌, ◌==◌, arith, subst}
use Rattle.std.specs.Prelude.{not, map, length, nat_le}
use Rattle.std.specs.List.{range_with_len, list_all, list_any}
use Rattle.std.specs.Str.{bytes_eq}
use Rattle.std.specs.Fmt.{digits}
use Rattle.ras_table.specs.Names.{is_name}
use Rattle.ras_inventory.specs.Lines.{distinct}
use Rattle.plan_model.proofs.CaseFacts.{and-left, and-right}
use Rattle.sample_case.specs.Samples.{name_of, rack_of, board_of, center_of}
use native.Mathlib.Decide.{dec_lt}

-- what is so of all numbers below n
from : (p : ℕ → Bool) (a n k : ℕ) → a ≤ k → k < a + n → list_all p (range_with_len a n) ≡ true → p k ≡ true
from p a zero k least below all = absurd (omega (arith, least, below))
from p a (suc n) k least below all =
    elim (dec_lt a k) [
      | yes above ↦ from p (a + 1) n k (omega (arith, above)) (omega (arith, below)) (and-right _ _ all)
      | no first ↦ let same : a ≡ k = omega (arith, least, first) in subst (λ j. p j ≡ true) same (and-left _ _ all)
    ]

pub each : (p : ℕ → Bool) (n k : ℕ) → k < n → list_all p (range_with_len 0 n) ≡ true → p k ≡ true
each p n k below all = from p 0 n k (omega arith) (omega (arith, below)) all

abbrev pub has_names : ℕ → Bool
has_names k = is_name (name_of k) && is_name (rack_of k) && is_name (board_of k) && is_name (center_of k)

abbrev pub is_again : ℕ → ℕ → Bool
is_again k i = bytes_eq (name_of i) (name_of k)

abbrev pub moves_rack : ℕ → ℕ → Bool
moves_rack k i = bytes_eq (rack_of i) (rack_of k) && not (bytes_eq (board_of i) (board_of k))

abbrev pub moves_board : ℕ → ℕ → Bool
moves_board k i = bytes_eq (board_of i) (board_of k) && not (bytes_eq (center_of i) (center_of k))

abbrev pub stands_well : ℕ → Bool
stands_well k =
    not (list_any (is_again k) (range_with_len 0 k)) && not (list_any (moves_rack k) (range_with_len 0 k)) && not (list_any (moves_board k) (range_with_len 0 k))

abbrev pub has_few_boards : ℕ → Bool
has_few_boards k = not (nat_le 65 (length (distinct (map board_of (range_with_len 0 (k + 1))))))

pub all-names : list_all has_names (range_with_len 0 160) ≡ true
unfolding digits
all-names = refl

pub all-well : list_all stands_well (range_with_len 0 160) ≡ true
unfolding digits
all-well = refl

pub all-few : list_all has_few_boards (range_with_len 0 160) ≡ true
unfolding digits
all-few = refl

abbrev pub has_boards : ℕ → Bool
has_boards size = length (distinct (map board_of (range_with_len 0 (4 * size)))) == size

pub all-boards : list_all has_boards (range_with_len 0 41) ≡ true
unfolding digits
all-boards = refl
