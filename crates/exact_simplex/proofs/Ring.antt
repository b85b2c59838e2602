-- Identities of integers, by their parts: an integer is `up` less `down`, and a polynomial identity of natural numbers is for `omega`.
use Rattle.std.proofs.Common.{◌≡◌, ℕ, ◌+◌, ◌*◌, ℤ, pos, ◌+ℤ◌, ◌-ℤ◌, ◌*ℤ◌, refl, ap, arith}
use Rattle.std.proofs.lemmas.Int.{ints}
use borrow.Author.Differences.{up, down}

pub difference : ℕ → ℕ → ℤ
difference m n = pos m -ℤ pos n

pub difference_of : (z : ℤ) → z ≡ difference (up z) (down z)
unfolding difference
difference_of z = omega (arith, ints)

pub difference-add : (m n p q : ℕ) → difference m n +ℤ difference p q ≡ difference (m + p) (n + q)
unfolding difference
difference-add m n p q = omega (arith, ints)

pub difference-sub : (m n p q : ℕ) → difference m n -ℤ difference p q ≡ difference (m + q) (n + p)
unfolding difference
difference-sub m n p q = omega (arith, ints)

parts : (m n : ℕ) → up (pos m -ℤ pos n) + n ≡ down (pos m -ℤ pos n) + m
parts m n = omega (arith, ints)

pub difference-same : (m n p q : ℕ) → m + q ≡ p + n → difference m n ≡ difference p q
unfolding difference
difference-same m n p q h = omega (arith, ints)

pub difference-mul : (m n p q : ℕ) → difference m n *ℤ difference p q ≡ difference (m * p + n * q) (m * q + n * p)
unfolding difference
difference-mul m n p q =
    let a = parts m n in
    let b = parts p q in
    omega (arith, ints, ap (λ (z : ℕ). up (pos m -ℤ pos n) * z) b, ap (λ (z : ℕ). down (pos m -ℤ pos n) * z) b, ap (λ (z : ℕ). z * p) a, ap (λ (z : ℕ). z * q) a)

pub nothing : pos 0 ≡ difference 0 0
unfolding difference
nothing = refl

pub spread : (f p q g v : ℤ) → (f *ℤ p -ℤ q *ℤ g) *ℤ v ≡ p *ℤ (f *ℤ v) -ℤ q *ℤ (g *ℤ v)
spread f p q g v = rw (difference_of f, difference_of p, difference_of q, difference_of g, difference_of v) (simp (difference-add, difference-sub, difference-mul) (difference-same _ _ _ _ (omega arith)))

pub taken : (p q v w e s t : ℤ) → p *ℤ (v *ℤ e +ℤ s) ≡ (v *ℤ p -ℤ q *ℤ w) *ℤ e +ℤ ((p *ℤ s -ℤ q *ℤ t) +ℤ q *ℤ (w *ℤ e +ℤ t))
taken p q v w e s t = rw (difference_of p, difference_of q, difference_of v, difference_of w, difference_of e, difference_of s, difference_of t) (simp (difference-add, difference-sub, difference-mul) (difference-same _ _ _ _ (omega arith)))

pub combine : (s z p q y : ℤ) → s *ℤ (z *ℤ p -ℤ q *ℤ y) ≡ p *ℤ (s *ℤ z) -ℤ q *ℤ (s *ℤ y)
combine s z p q y = rw (difference_of s, difference_of z, difference_of p, difference_of q, difference_of y) (simp (difference-add, difference-sub, difference-mul) (difference-same _ _ _ _ (omega arith)))

pub combine_share : (c p d a b q : ℤ) → (p *ℤ a -ℤ q *ℤ b) +ℤ c *ℤ (d *ℤ p) ≡ (a +ℤ c *ℤ d) *ℤ p -ℤ q *ℤ b
combine_share c p d a b q = rw (difference_of c, difference_of p, difference_of d, difference_of a, difference_of b, difference_of q) (simp (difference-add, difference-sub, difference-mul) (difference-same _ _ _ _ (omega arith)))

pub mul_assoc : (a b c : ℤ) → (a *ℤ b) *ℤ c ≡ a *ℤ (b *ℤ c)
mul_assoc a b c = rw (difference_of a, difference_of b, difference_of c) (simp (difference-add, difference-sub, difference-mul) (difference-same _ _ _ _ (omega arith)))

pub mul_comm : (a b : ℤ) → a *ℤ b ≡ b *ℤ a
mul_comm a b = rw (difference_of a, difference_of b) (simp (difference-add, difference-sub, difference-mul) (difference-same _ _ _ _ (omega arith)))

pub mul-sub : (a b c : ℤ) → a *ℤ (b -ℤ c) ≡ a *ℤ b -ℤ a *ℤ c
mul-sub a b c = rw (difference_of a, difference_of b, difference_of c) (simp (difference-add, difference-sub, difference-mul) (difference-same _ _ _ _ (omega arith)))

pub mul_left_comm : (a b c : ℤ) → a *ℤ (b *ℤ c) ≡ b *ℤ (a *ℤ c)
mul_left_comm a b c = rw (difference_of a, difference_of b, difference_of c) (simp (difference-add, difference-sub, difference-mul) (difference-same _ _ _ _ (omega arith)))

pub mul-add : (a b c : ℤ) → a *ℤ (b +ℤ c) ≡ a *ℤ b +ℤ a *ℤ c
mul-add a b c = rw (difference_of a, difference_of b, difference_of c) (simp (difference-add, difference-sub, difference-mul) (difference-same _ _ _ _ (omega arith)))

pub raise : (v p f w d : ℤ) → (v *ℤ p -ℤ f *ℤ w) *ℤ d -ℤ v *ℤ (d *ℤ p) ≡ f *ℤ ((pos 0 -ℤ w) *ℤ d)
raise v p f w d = rw (difference_of v, difference_of p, difference_of f, difference_of w, difference_of d) (simp (nothing, difference-add, difference-sub, difference-mul) (difference-same _ _ _ _ (omega arith)))

pub both_ways : (p g : ℤ) → g *ℤ p -ℤ p *ℤ g ≡ pos 0
both_ways p g = rw (difference_of p, difference_of g) (simp (nothing, difference-add, difference-sub, difference-mul) (difference-same _ _ _ _ (omega arith)))

pub turned : (f p q g : ℤ) → f *ℤ p -ℤ q *ℤ g ≡ f *ℤ p +ℤ q *ℤ (pos 0 -ℤ g)
turned f p q g = rw (difference_of f, difference_of p, difference_of q, difference_of g) (simp (nothing, difference-add, difference-sub, difference-mul) (difference-same _ _ _ _ (omega arith)))

pub less_none : (f p q : ℤ) → f *ℤ p -ℤ q *ℤ pos 0 ≡ f *ℤ p
less_none f p q = rw (difference_of f, difference_of p, difference_of q) (simp (nothing, difference-add, difference-sub, difference-mul) (difference-same _ _ _ _ (omega arith)))

pub none_less : (z p g : ℤ) → z *ℤ p -ℤ pos 0 *ℤ g ≡ z *ℤ p
none_less z p g = rw (difference_of z, difference_of p, difference_of g) (simp (nothing, difference-add, difference-sub, difference-mul) (difference-same _ _ _ _ (omega arith)))

pub none_times : (z : ℤ) → pos 0 *ℤ z ≡ pos 0
none_times z = rw (difference_of z) (simp (nothing, difference-add, difference-sub, difference-mul) (difference-same _ _ _ _ (omega arith)))

pub mix_of_mix : (p q g h f : ℤ) → (f *ℤ p -ℤ q *ℤ g) *ℤ h ≡ f *ℤ p *ℤ h -ℤ q *ℤ g *ℤ h
mix_of_mix p q g h f = rw (difference_of p, difference_of q, difference_of g, difference_of h, difference_of f) (simp (nothing, difference-add, difference-sub, difference-mul) (difference-same _ _ _ _ (omega arith)))

pub corner : (s r l h : ℤ) → s *ℤ l -ℤ r *ℤ h ≡ (s -ℤ r) *ℤ l -ℤ r *ℤ (h -ℤ l)
corner s r l h = rw (difference_of s, difference_of r, difference_of l, difference_of h) (simp (nothing, difference-add, difference-sub, difference-mul) (difference-same _ _ _ _ (omega arith)))

pub other_corner : (s r l h : ℤ) → (s -ℤ r) *ℤ h ≡ (s *ℤ l -ℤ r *ℤ h) +ℤ s *ℤ (h -ℤ l)
other_corner s r l h = rw (difference_of s, difference_of r, difference_of l, difference_of h) (simp (nothing, difference-add, difference-sub, difference-mul) (difference-same _ _ _ _ (omega arith)))

pub low_corner : (s r l h : ℤ) → (s -ℤ r) *ℤ l ≡ (s *ℤ l -ℤ r *ℤ h) +ℤ r *ℤ (h -ℤ l)
low_corner s r l h = rw (difference_of s, difference_of r, difference_of l, difference_of h) (simp (nothing, difference-add, difference-sub, difference-mul) (difference-same _ _ _ _ (omega arith)))

pub split_terms : (c a l : ℤ) → (c -ℤ a) *ℤ l ≡ c *ℤ l -ℤ a *ℤ l
split_terms c a l = rw (difference_of c, difference_of a, difference_of l) (simp (nothing, difference-add, difference-sub, difference-mul) (difference-same _ _ _ _ (omega arith)))

pub neg-mul : (f w : ℤ) → (pos 0 -ℤ f) *ℤ w ≡ pos 0 -ℤ f *ℤ w
neg-mul f w = rw (difference_of f, difference_of w) (simp (nothing, difference-add, difference-sub, difference-mul) (difference-same _ _ _ _ (omega arith)))

pub low_and_step : (f v l d : ℤ) → f *ℤ (d *ℤ l +ℤ v) ≡ f *ℤ v +ℤ (f *ℤ l) *ℤ d
low_and_step f v l d = rw (difference_of f, difference_of v, difference_of l, difference_of d) (simp (nothing, difference-add, difference-sub, difference-mul) (difference-same _ _ _ _ (omega arith)))

pub sub-mul : (a b c : ℤ) → (a -ℤ b) *ℤ c ≡ a *ℤ c -ℤ b *ℤ c
sub-mul a b c = rw (difference_of a, difference_of b, difference_of c) (simp (nothing, difference-add, difference-sub, difference-mul) (difference-same _ _ _ _ (omega arith)))

pub room_ring : (o v l h d : ℤ) → (pos 0 -ℤ o) *ℤ v +ℤ (h -ℤ l) *ℤ d ≡ h *ℤ d -ℤ (l *ℤ d +ℤ o *ℤ v)
room_ring o v l h d = rw (difference_of o, difference_of v, difference_of l, difference_of h, difference_of d) (simp (nothing, difference-add, difference-sub, difference-mul) (difference-same _ _ _ _ (omega arith)))

pub move_scale : (d n f : ℤ) → d *ℤ (n *ℤ f) ≡ (n *ℤ d) *ℤ f
move_scale d n f = rw (difference_of d, difference_of n, difference_of f) (simp (nothing, difference-add, difference-sub, difference-mul) (difference-same _ _ _ _ (omega arith)))

pub scaled_less : (d s k c : ℤ) → d *ℤ (s *ℤ k -ℤ c) ≡ (s *ℤ d) *ℤ k -ℤ d *ℤ c
scaled_less d s k c = rw (difference_of d, difference_of s, difference_of k, difference_of c) (simp (nothing, difference-add, difference-sub, difference-mul) (difference-same _ _ _ _ (omega arith)))

pub scaled_back : (q c k t : ℤ) → (q *ℤ c) *ℤ k -ℤ q *ℤ t ≡ q *ℤ (c *ℤ k -ℤ t)
scaled_back q c k t = rw (difference_of q, difference_of c, difference_of k, difference_of t) (simp (nothing, difference-add, difference-sub, difference-mul) (difference-same _ _ _ _ (omega arith)))

pub chain : (il rk ik rl rm im : ℤ) → (il *ℤ rk -ℤ ik *ℤ rl) *ℤ rm +ℤ (ik *ℤ rm -ℤ im *ℤ rk) *ℤ rl ≡ (il *ℤ rm -ℤ im *ℤ rl) *ℤ rk
chain il rk ik rl rm im = rw (difference_of il, difference_of rk, difference_of ik, difference_of rl, difference_of rm, difference_of im) (simp (nothing, difference-add, difference-sub, difference-mul) (difference-same _ _ _ _ (omega arith)))

pub turn_middle : (a b c : ℤ) → (a *ℤ b) *ℤ c ≡ (a *ℤ c) *ℤ b
turn_middle a b c = rw (difference_of a, difference_of b, difference_of c) (simp (nothing, difference-add, difference-sub, difference-mul) (difference-same _ _ _ _ (omega arith)))

pub pair_up : (a b q t : ℤ) → (a *ℤ b) *ℤ (q *ℤ t) ≡ (a *ℤ q) *ℤ (b *ℤ t)
pair_up a b q t = rw (difference_of a, difference_of b, difference_of q, difference_of t) (simp (nothing, difference-add, difference-sub, difference-mul) (difference-same _ _ _ _ (omega arith)))

pub pair_out : (p a b s : ℤ) → (p *ℤ a) *ℤ b -ℤ (s *ℤ b) *ℤ a ≡ (p -ℤ s) *ℤ (a *ℤ b)
pair_out p a b s = rw (difference_of p, difference_of a, difference_of b, difference_of s) (simp (nothing, difference-add, difference-sub, difference-mul) (difference-same _ _ _ _ (omega arith)))

pub sub_cells : (a b c d q : ℤ) → (a *ℤ b -ℤ c *ℤ d) *ℤ q ≡ (a *ℤ q) *ℤ b -ℤ (c *ℤ q) *ℤ d
sub_cells a b c d q = rw (difference_of a, difference_of b, difference_of c, difference_of d, difference_of q) (simp (nothing, difference-add, difference-sub, difference-mul) (difference-same _ _ _ _ (omega arith)))

pub cell_left : (a b s d : ℤ) → ((a *ℤ b) *ℤ s) *ℤ d ≡ (a *ℤ d) *ℤ (s *ℤ b)
cell_left a b s d = rw (difference_of a, difference_of b, difference_of s, difference_of d) (simp (nothing, difference-add, difference-sub, difference-mul) (difference-same _ _ _ _ (omega arith)))

pub cell_right : (p a b d : ℤ) → (p *ℤ (a *ℤ b)) *ℤ d ≡ (p *ℤ a) *ℤ (b *ℤ d)
cell_right p a b d = rw (difference_of p, difference_of a, difference_of b, difference_of d) (simp (nothing, difference-add, difference-sub, difference-mul) (difference-same _ _ _ _ (omega arith)))
