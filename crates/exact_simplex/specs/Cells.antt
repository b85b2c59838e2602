-- The cells of a tableau of fractions, row by row, and when they show the numbers of a tableau over one denominator.
use Rattle.std.specs.Prelude.{ℕ, ◌≡◌, ◌<◌, ◌≤◌, zero, suc, List, [], length, slice_index, slice_index_or, ℤ, pos}
use Rattle.std.proofs.Common.{refl, lit≤}
use Rattle.std.proofs.Math.Nat.{one-dvd}
use Rattle.std.proofs.lemmas.Nat.Gcd.{dvd_refl}
use Rattle.exact_fraction.specs.declared.fraction.Fraction.{Fraction}
use Rattle.exact_fraction.specs.Exact.{IsRatio}
use Rattle.exact_simplex.specs.Tableaus.{Scaled}

-- the fraction 0
abbrev pub no_fraction : Fraction
no_fraction = record {
  num = pos 0;
  den = pos 1;
  lowest = record {
    num_small = record { most = lit≤ tt };
    den_small = record { most = lit≤ tt };
    den_is = refl;
    den_above_none = lit≤ tt;
    lowest = (one-dvd 0, dvd_refl 1, λ d in_zero in_one. in_one);
  };
}

abbrev pub cell_of : List Fraction → ℕ → Fraction
cell_of row c = slice_index_or row c no_fraction

abbrev pub row_of : List (List Fraction) → ℕ → List Fraction
row_of cells i = slice_index_or cells i []

-- the number of row i in column c: column 0 has the values, and column k + 1 the factors of unit k
abbrev pub number_at : Scaled → ℕ → ℕ → ℤ
number_at t i zero = t.value i
number_at t i (suc k) = t.factor i k

-- the row has these numbers over the scale
pub record ShowsRow (n : ℕ) (row : List Fraction) (t : Scaled) (i : ℕ) : Type 0 where
  pub size : length row ≡ suc n
  pub numbers : (c : ℕ) → c ≤ n → IsRatio (cell_of row c).num (cell_of row c).den (number_at t i c) (pos t.scale)

pub record Shows (n : ℕ) (cells : List (List Fraction)) (units : List ℕ) (t : Scaled) : Type 0 where
  pub rows : (i : ℕ) → i < length cells → ShowsRow n (row_of cells i) t i
  pub units_size : length units ≡ n
  pub units_are : (k : ℕ) → k < n → slice_index units k ≡ t.unit k
