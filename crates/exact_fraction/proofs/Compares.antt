-- The order of quotients.
use Rattle.std.proofs.Common.{◌≡◌, ℕ, suc, ◌+◌, ◌*◌, ◌/◌, ◌%◌, ◌<◌, ◌≤◌, sym, ap, ◌∙◌, arith, mul-le-mul}
use Rattle.std.specs.Ordering.{nat_cmp}
use Rattle.std.proofs.Common.{Less, Equal, Greater}

is_less : (m n : ℕ) → m < n → Less ≡ nat_cmp m n
is_less m n h = grind arith

is_greater : (m n : ℕ) → n < m → Greater ≡ nat_cmp m n
is_greater m n h = grind arith

is_equal : (m n : ℕ) → m ≡ n → Equal ≡ nat_cmp m n
is_equal m n h = grind arith

same_added : (k m n : ℕ) → nat_cmp (k + m) (k + n) ≡ nat_cmp m n
same_added k m n = grind arith

left_parts : (a b d : ℕ) → 1 ≤ b → a * d ≡ (a / b) * (b * d) + (a % b) * d
left_parts a b d h = let e : (a / b) * b + a % b ≡ a = omega arith in omega (arith, ap (λ n. n * d) e)

same_le : (n : ℕ) → n ≤ n
same_le n = omega arith

rest_below : (p b d : ℕ) → p < b → 1 ≤ d → p * d < b * d
rest_below p b d h k = let m : suc p * d ≤ b * d = mul-le-mul h (same_le d) in omega arith

whole_below : (x y t : ℕ) → x < y → x * t + t ≤ y * t
whole_below x y t h = let m : suc x * t ≤ y * t = mul-le-mul h (same_le t) in omega arith

pub whole_less : (a b c d : ℕ) → 1 ≤ b → 1 ≤ d → a / b < c / d → a * d < c * b
whole_less a b c d p q h =
    let left = left_parts a b d p in
    let right = left_parts c d b q in
    let rest = rest_below (a % b) b d (omega arith) q in
    let whole = whole_below (a / b) (c / d) (b * d) h in
    omega arith

pub when_less : (a b c d : ℕ) → 1 ≤ b → 1 ≤ d → a / b < c / d → Less ≡ nat_cmp (a * d) (c * b)
when_less a b c d p q h = is_less _ _ (whole_less a b c d p q h)

pub when_greater : (a b c d : ℕ) → 1 ≤ b → 1 ≤ d → c / d < a / b → Greater ≡ nat_cmp (a * d) (c * b)
when_greater a b c d p q h = is_greater _ _ (whole_less c d a b q p h)

pub by_rests : (a b c d : ℕ) → 1 ≤ b → 1 ≤ d → c / d ≤ a / b → a / b ≤ c / d → nat_cmp (a * d) (c * b) ≡ nat_cmp ((a % b) * d) ((c % d) * b)
by_rests a b c d p q h k =
    let same : a / b ≡ c / d = omega arith in
    let left = left_parts a b d p in
    let right : c * b ≡ (a / b) * (b * d) + (c % d) * b = left_parts c d b q ∙ ap (λ n. n * (d * b) + (c % d) * b) (sym same) ∙ omega arith in
    ap (λ m. nat_cmp m (c * b)) left ∙ ap (λ m. nat_cmp ((a / b) * (b * d) + (a % b) * d) m) right ∙ same_added ((a / b) * (b * d)) ((a % b) * d) ((c % d) * b)

above : (r b : ℕ) → (r ≡ 0 → ⊥) → 1 ≤ b → 0 < r * b
above r b h k = let one : 1 ≤ r = omega arith in let m : 1 * 1 ≤ r * b = mul-le-mul one k in omega arith

pub when_equal : (a b c d : ℕ) → 1 ≤ b → 1 ≤ d → c / d ≤ a / b → a / b ≤ c / d → a % b ≡ 0 → c % d ≡ 0 → Equal ≡ nat_cmp (a * d) (c * b)
when_equal a b c d p q h k e f = is_equal ((a % b) * d) ((c % d) * b) (omega (arith, ap (λ n. n * d) e, ap (λ n. n * b) f)) ∙ sym (by_rests a b c d p q h k)

pub when_whole : (a b c d : ℕ) → 1 ≤ b → 1 ≤ d → c / d ≤ a / b → a / b ≤ c / d → a % b ≡ 0 → (c % d ≡ 0 → ⊥) → Less ≡ nat_cmp (a * d) (c * b)
when_whole a b c d p q h k e f = is_less ((a % b) * d) ((c % d) * b) (let m = above (c % d) b f p in omega (arith, ap (λ n. n * d) e)) ∙ sym (by_rests a b c d p q h k)

pub when_other_whole : (a b c d : ℕ) → 1 ≤ b → 1 ≤ d → c / d ≤ a / b → a / b ≤ c / d → (a % b ≡ 0 → ⊥) → c % d ≡ 0 → Greater ≡ nat_cmp (a * d) (c * b)
when_other_whole a b c d p q h k e f = is_greater ((a % b) * d) ((c % d) * b) (let m = above (a % b) d e q in omega (arith, ap (λ n. n * b) f)) ∙ sym (by_rests a b c d p q h k)

pub when_on : (a b c d : ℕ) → 1 ≤ b → 1 ≤ d → c / d ≤ a / b → a / b ≤ c / d → nat_cmp (d * (a % b)) (b * (c % d)) ≡ nat_cmp (a * d) (c * b)
when_on a b c d p q h k = ap (λ n. nat_cmp n (b * (c % d))) (omega arith) ∙ ap (λ n. nat_cmp ((a % b) * d) n) (omega arith) ∙ sym (by_rests a b c d p q h k)
