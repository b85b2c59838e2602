-- Sums of a row's terms at numbers that differ in one column.
use Rattle.std.proofs.Common.{◌≡◌, ◌≢◌, ℕ, zero, suc, ◌*◌, ℤ, pos, ◌+ℤ◌, ◌*ℤ◌, refl, sym, ap, ◌∙◌, arith, List, [], ◌∷◌, All, inl, inr}
use Rattle.std.proofs.lemmas.Int.{ints}
use Rattle.std.proofs.lemmas.Bool.{ne_eqb}
use Rattle.std.proofs.lemmas.Bool.Decides.{eqb_tells}
use lib.IntN.{*ℤ_comm}
use Rattle.ip_model.specs.declared.parts.Term.{Term}
use Rattle.ip_model.specs.Sums.{terms_at, factor_of}
use Rattle.bound_certificate.proofs.Integers.{mul-add, add-mul, mul_assoc}

-- a column that no term has
pub no_factor : (ts : List Term) (j : ℕ) → All (λ t. t.column ≢ j) ts → factor_of ts j ≡ pos 0
no_factor [] j h = refl
no_factor (t ∷ ts) j h =
    let other = ne_eqb t.column j (h 0 t (omega arith)) in
    rw other (omega (arith, ints, no_factor ts j (λ k d p. h (suc k) d (omega arith))))

-- numbers that are the same but in column h
pub moved : (ts : List Term) (h : ℕ) (x y : ℕ → ℕ) → All (λ t. t.column ≢ h → x t.column ≡ y t.column) ts → terms_at ts x +ℤ factor_of ts h *ℤ pos (y h) ≡ terms_at ts y +ℤ factor_of ts h *ℤ pos (x h)
moved [] h x y same = omega (arith, ints)
moved (t ∷ ts) h x y same =
    let rest = moved ts h x y (λ k d p. same (suc k) d (omega arith)) in
    elim (eqb_tells t.column h) [
      | inl w ↦
          let at_x = ap (λ (k : ℕ). t.factor *ℤ pos (x k)) w.1 in
          let at_y = ap (λ (k : ℕ). t.factor *ℤ pos (y k)) w.1 in
          rw w.0 (omega (arith, ints, rest, at_x, at_y, add-mul t.factor (factor_of ts h) (pos (x h)), add-mul t.factor (factor_of ts h) (pos (y h))))
      | inr w ↦
          let here = ap (λ (n : ℕ). t.factor *ℤ pos n) (same 0 t (omega arith) w.1) in
          rw w.0 (omega (arith, ints, rest, here, add-mul (pos 0) (factor_of ts h) (pos (x h)), add-mul (pos 0) (factor_of ts h) (pos (y h))))
    ]

pub same_at : (ts : List Term) (x y : ℕ → ℕ) → All (λ t. x t.column ≡ y t.column) ts → terms_at ts x ≡ terms_at ts y
same_at [] x y h = refl
same_at (t ∷ ts) x y h = rw (h zero t (omega arith), same_at ts x y (λ k d q. h (suc k) d (omega arith))) refl

swapped : (q : ℕ) (e : ℤ) (n : ℕ) → pos q *ℤ (e *ℤ pos n) ≡ e *ℤ pos (q * n)
swapped q e n = sym (mul_assoc (pos q) e (pos n)) ∙ ap (λ z. z *ℤ pos n) (*ℤ_comm (pos q) e) ∙ mul_assoc e (pos q) (pos n)

pub scaled : (ts : List Term) (den : ℕ) (x : ℕ → ℕ) → terms_at ts (λ j. den * x j) ≡ pos den *ℤ terms_at ts x
scaled [] den x = omega (arith, ints)
scaled (t ∷ ts) den x = omega (arith, ints, scaled ts den x, swapped den t.factor (x t.column), mul-add (pos den) (t.factor *ℤ pos (x t.column)) (terms_at ts x))
