-- What a row lacks, as the code computes it.
use Rattle.std.proofs.Common.{◌≡◌, ◌≤◌, ◌<◌, ◌^◌, ℕ, ℤ, ◌-ℤ◌, refl, arith, unsigned_abs, FitsSigned, List, length, All}
use Rattle.std.proofs.lemmas.Int.{fits_signed_from_abs}
use Rattle.std.specs.Int.{w32, w128}
use Rattle.ip_model.specs.declared.parts.Column.{Column}
use Rattle.ip_model.specs.declared.parts.Term.{Term}
use Rattle.ip_model.specs.Limits.{TermInRange}
use Rattle.bound_certificate.proofs.Wide.{unsigned_abs-sub}

pub difference_fits : (a b : ℤ) → unsigned_abs a ≤ 2 ^ 64 → unsigned_abs b ≤ 2 ^ 96 → FitsSigned w128 (a -ℤ b)
difference_fits a b h k = fits_signed_from_abs w128 (a -ℤ b) (omega (arith, unsigned_abs-sub a b))

pub least_fits : (a : ℤ) → unsigned_abs a ≤ 20000000 → FitsSigned w32 a
least_fits a h = fits_signed_from_abs w32 a (omega arith)

pub difference_is : (a b c d : ℤ) → a ≡ c → b ≡ d → a -ℤ b ≡ c -ℤ d
difference_is a b c d h k = rw (h, k) refl

-- the columns of a row that the code reads as `items` have numbers
pub columns_in : (columns : List Column) (terms items : List Term) (n : ℕ) → items ≡ terms → n ≡ length columns → All (TermInRange columns) terms → All (λ t. t.column < n) items
columns_in columns terms items n same size in_range = rw (same, size) (λ k d p. (in_range k d p).column)
