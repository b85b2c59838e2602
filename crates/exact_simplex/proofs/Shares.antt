-- The weights of the program's rows, from the cells of a tableau to the sums over its units.
use Rattle.std.proofs.Common.{◌≡◌, ℕ, zero, suc, ◌+◌, ◌-◌, ◌<◌, ℤ, pos, refl, sym, subst, arith, if◌then◌else◌, ◌==◌, inl, inr, ◌⊎◌}
use Rattle.std.proofs.lemmas.Int.{ints}
use Rattle.std.proofs.lemmas.Bool.{ne_eqb}
use Rattle.std.proofs.lemmas.Bool.Decides.{eqb_tells}
use Rattle.exact_simplex.specs.Forms.{place_of}
use Rattle.exact_simplex.proofs.Order.{order}
use Rattle.exact_simplex.proofs.Least.{step_place, surplus_place, room_place}
use Rattle.exact_simplex.proofs.Places.{surplus_share, total_share}

same_choice : (i : ℕ) (z : ℤ) → (if i == i then z else pos 0) ≡ z
same_choice i z =
    elim (eqb_tells i i) [
      | inl x ↦ rw x.0 refl
      | inr x ↦ absurd (x.1 refl)
    ]

-- a surplus gives its own row the whole number
pub share_there : (n m u i : ℕ) (z : ℤ) → i < m → u ≡ suc (n + i) → surplus_share (place_of n m u) z i ≡ z
share_there n m u i z h is = subst (λ (w : ℕ). surplus_share (place_of n m w) z i ≡ z) (sym is) (rw (surplus_place n m i h) (same_choice i z))

at_column : (n m j i : ℕ) (z : ℤ) → j < n → surplus_share (place_of n m (suc j)) z i ≡ pos 0
at_column n m j i z h = rw (step_place n m j h) refl

at_surplus : (n m j i : ℕ) (z : ℤ) → j < m → (i ≡ j → ⊥) → surplus_share (place_of n m (suc (n + j))) z i ≡ pos 0
at_surplus n m j i z h other = rw (surplus_place n m j h, ne_eqb i j other) refl

at_room : (n m j i : ℕ) (z : ℤ) → surplus_share (place_of n m (suc (n + m + j))) z i ≡ pos 0
at_room n m j i z = rw (room_place n m j) refl

-- each other row of the tableau gives it nothing
pub share_other : (n m u i : ℕ) (z : ℤ) → (u ≡ suc (n + i) → ⊥) → surplus_share (place_of n m u) z i ≡ pos 0
share_other n m zero i z other = refl
share_other n m (suc j) i z other =
    elim (order j n) [
      | inl q ↦ at_column n m j i z q
      | inr q ↦ elim (order j (n + m)) [
        | inl w ↦
            let is : n + (j - n) ≡ j = omega arith in
            let apart : i ≡ j - n → ⊥ = λ e. other (omega arith) in
            subst (λ (k : ℕ). surplus_share (place_of n m (suc k)) z i ≡ pos 0) is (at_surplus n m (j - n) i z (omega arith) apart)
        | inr w ↦
            let is : n + m + (j - (n + m)) ≡ j = omega arith in
            subst (λ (k : ℕ). surplus_share (place_of n m (suc k)) z i ≡ pos 0) is (at_room n m (j - (n + m)) i z)
      ]
    ]

-- where no unit is the surplus of row i, its weight is 0
pub total_none : (n m c i : ℕ) (u : ℕ → ℕ) (z : ℕ → ℤ) → ((k : ℕ) → k < c → u k ≡ suc (n + i) → ⊥) → total_share surplus_share c (λ k. place_of n m (u k)) z i ≡ pos 0
total_none n m zero i u z none = refl
total_none n m (suc c) i u z none =
    let before = total_none n m c i u z (λ k h. none k (omega arith)) in
    let last = share_other n m (u c) i (z c) (none c (omega arith)) in
    omega (arith, ints)

-- where unit k alone is that surplus, the weight is its number
pub total_one : (n m c i k : ℕ) (u : ℕ → ℕ) (z : ℕ → ℤ) → i < m → k < c → u k ≡ suc (n + i) → ((l : ℕ) → l < c → u l ≡ suc (n + i) → l ≡ k) → total_share surplus_share c (λ k. place_of n m (u k)) z i ≡ z k
total_one n m zero i k u z there h is alone = absurd (omega arith)
total_one n m (suc c) i k u z there h is alone =
    elim (order k c) [
      | inl q ↦
          let before = total_one n m c i k u z there q is (λ l p e. alone l (omega arith) e) in
          let last = share_other n m (u c) i (z c) (λ e. (let s = alone c (omega arith) e in absurd (omega arith))) in
          omega (arith, ints)
      | inr q ↦
          let same : k ≡ c = omega arith in
          let before = total_none n m c i u z (λ l p e. (let s = alone l (omega arith) e in absurd (omega arith))) in
          let last = share_there n m (u c) i (z c) there (subst (λ (w : ℕ). u w ≡ suc (n + i)) same is) in
          subst (λ (w : ℕ). total_share surplus_share (suc c) (λ k. place_of n m (u k)) z i ≡ z w) (sym same) (omega (arith, ints))
    ]

-- a place below c where f has a number, or none
pub record FoundAt (f : ℕ → ℕ) (c x : ℕ) : Type 0 where
  pub place : ℕ
  pub within : place < c
  pub is : f place ≡ x

pub find : (f : ℕ → ℕ) (c x : ℕ) → FoundAt f c x ⊎ ((k : ℕ) → k < c → f k ≡ x → ⊥)
find f zero x = inr (λ k h. absurd (omega arith))
find f (suc c) x =
    elim (find f c x) [
      | inl before ↦ inl (record { place = before.place; within = (let w = before.within in omega arith); is = before.is })
      | inr none ↦ elim (eqb_tells (f c) x) [
        | inl here ↦ inl (record { place = c; within = omega arith; is = here.1 })
        | inr other ↦ inr (λ k h e. elim (order k c) [
          | inl p ↦ none k p e
          | inr p ↦ (let same : k ≡ c = omega arith in other.1 (subst (λ (w : ℕ). f w ≡ x) same e))
        ])
      ]
    ]
