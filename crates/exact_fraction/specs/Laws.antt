-- Laws of sums, products and the order of fractions in lowest terms.
use Rattle.std.specs.Prelude.{◌≡◌, ℤ, pos, ◌+ℤ◌, ◌-ℤ◌, ◌*ℤ◌, ◌↔◌}
use Rattle.std.specs.Ordering.{int_cmp, ordering_reverse}
use Rattle.std.specs.declared.cmp.Ordering.{Ordering}
use Rattle.std.specs.declared.cmp.Ordering.TheVariants.{Less, Equal}
use Rattle.exact_fraction.specs.Sizes.{IsSmall, IsLowest}
use Rattle.exact_fraction.specs.Exact.{IsRatio, SumFits, ProductFits}

-- n over m is the sum a / b + c / d, in lowest terms
pub record IsSum (n m a b c d : ℤ) : Type 0 where
  pub lowest : IsLowest n m
  pub value : IsRatio n m (a *ℤ d +ℤ c *ℤ b) (b *ℤ d)

-- n over m is the product a / b * c / d, in lowest terms
pub record IsProduct (n m a b c d : ℤ) : Type 0 where
  pub lowest : IsLowest n m
  pub value : IsRatio n m (a *ℤ c) (b *ℤ d)

-- sums of whole numbers are those of the integers, and fit exactly where those are small
abbrev pub SumsAgree : Type 0
SumsAgree = (a c : ℤ) → IsSmall a → IsSmall c → (SumFits a (pos 1) c (pos 1) ↔ IsSmall (a +ℤ c)) × ((n m : ℤ) → IsSum n m a (pos 1) c (pos 1) → (n ≡ a +ℤ c) × (m ≡ pos 1))

-- products of whole numbers are those of the integers, and fit exactly where those are small
abbrev pub ProductsAgree : Type 0
ProductsAgree = (a c : ℤ) → IsSmall a → IsSmall c → (ProductFits a (pos 1) c (pos 1) ↔ IsSmall (a *ℤ c)) × ((n m : ℤ) → IsProduct n m a (pos 1) c (pos 1) → (n ≡ a *ℤ c) × (m ≡ pos 1))

-- both sums of two fractions fit or neither does, and they are the same fraction
abbrev pub SumsCommute : Type 0
SumsCommute = (a b c d : ℤ) → IsLowest a b → IsLowest c d → (SumFits a b c d ↔ SumFits c d a b) × ((n m p q : ℤ) → IsSum n m a b c d → IsSum p q c d a b → (n ≡ p) × (m ≡ q))

-- the order of a / b and c / d
abbrev pub order_of : ℤ → ℤ → ℤ → ℤ → Ordering
order_of a b c d = int_cmp (a *ℤ d) (c *ℤ b)

-- the order of fractions is total: each pair has one answer, equal numbers are the same fraction, and less goes on
pub record IsTotal : Type 0 where
  pub turned : (a b c d : ℤ) → order_of c d a b ≡ ordering_reverse (order_of a b c d)
  pub same : (a b c d : ℤ) → IsLowest a b → IsLowest c d → order_of a b c d ≡ Equal → (a ≡ c) × (b ≡ d)
  pub chain : (a b c d e f : ℤ) → IsLowest a b → IsLowest c d → IsLowest e f → order_of a b c d ≡ Less → order_of c d e f ≡ Less → order_of a b e f ≡ Less

-- the order is that of the difference and 0
abbrev pub GoesBySign : Type 0
GoesBySign = (a b c d n m : ℤ) → IsLowest a b → IsLowest c d → IsLowest n m → IsRatio n m (a *ℤ d -ℤ c *ℤ b) (b *ℤ d) → order_of a b c d ≡ int_cmp n (pos 0)
