-- Identities of integers, by their parts: an integer is `up` less `down`, and a polynomial identity of natural numbers is for `omega`.
use Rattle.std.proofs.Common.{◌≡◌, ℕ, ◌+◌, ◌*◌, ℤ, pos, ◌+ℤ◌, ◌-ℤ◌, ◌*ℤ◌, refl, ap, arith}
use Rattle.std.proofs.lemmas.Int.{ints}
use borrow.Author.Differences.{up, down}

pub difference : ℕ → ℕ → ℤ
difference m n = pos m -ℤ pos n

pub difference_of : (z : ℤ) → z ≡ difference (up z) (down z)
unfolding difference
difference_of z = omega (arith, ints)

pub difference-add : (m n p q : ℕ) → difference m n +ℤ difference p q ≡ difference (m + p) (n + q)
unfolding difference
difference-add m n p q = omega (arith, ints)

pub difference-sub : (m n p q : ℕ) → difference m n -ℤ difference p q ≡ difference (m + q) (n + p)
unfolding difference
difference-sub m n p q = omega (arith, ints)

parts : (m n : ℕ) → up (pos m -ℤ pos n) + n ≡ down (pos m -ℤ pos n) + m
parts m n = omega (arith, ints)

pub difference-same : (m n p q : ℕ) → m + q ≡ p + n → difference m n ≡ difference p q
unfolding difference
difference-same m n p q h = omega (arith, ints)

pub difference-mul : (m n p q : ℕ) → difference m n *ℤ difference p q ≡ difference (m * p + n * q) (m * q + n * p)
unfolding difference
difference-mul m n p q =
    let a = parts m n in
    let b = parts p q in
    omega (arith, ints, ap (λ (z : ℕ). up (pos m -ℤ pos n) * z) b, ap (λ (z : ℕ). down (pos m -ℤ pos n) * z) b, ap (λ (z : ℕ). z * p) a, ap (λ (z : ℕ). z * q) a)

pub nothing : pos 0 ≡ difference 0 0
unfolding difference
nothing = refl

pub spread : (f p q g v : ℤ) → (f *ℤ p -ℤ q *ℤ g) *ℤ v ≡ p *ℤ (f *ℤ v) -ℤ q *ℤ (g *ℤ v)
spread f p q g v = rw (difference_of f, difference_of p, difference_of q, difference_of g, difference_of v) (simp (difference-add, difference-sub, difference-mul) (difference-same _ _ _ _ (omega arith)))

pub sum_out : (a d c b g w : ℤ) → (a *ℤ (d *ℤ g) +ℤ c *ℤ (b *ℤ g)) *ℤ w ≡ (a *ℤ d +ℤ c *ℤ b) *ℤ (g *ℤ w)
sum_out a d c b g w = rw (difference_of a, difference_of d, difference_of c, difference_of b, difference_of g, difference_of w) (simp (nothing, difference-add, difference-sub, difference-mul) (difference-same _ _ _ _ (omega arith)))

pub sum_in : (s t g b u : ℤ) → (s *ℤ t) *ℤ (g *ℤ (b *ℤ u)) ≡ s *ℤ ((b *ℤ g) *ℤ (u *ℤ t))
sum_in s t g b u = rw (difference_of s, difference_of t, difference_of g, difference_of b, difference_of u) (simp (nothing, difference-add, difference-sub, difference-mul) (difference-same _ _ _ _ (omega arith)))

pub product_in : (a g c h b d : ℤ) → (a *ℤ c) *ℤ ((b *ℤ h) *ℤ (d *ℤ g)) ≡ ((a *ℤ g) *ℤ (c *ℤ h)) *ℤ (b *ℤ d)
product_in a g c h b d = rw (difference_of a, difference_of g, difference_of c, difference_of h, difference_of b, difference_of d) (simp (nothing, difference-add, difference-sub, difference-mul) (difference-same _ _ _ _ (omega arith)))
