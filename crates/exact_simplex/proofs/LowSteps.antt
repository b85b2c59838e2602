-- Sums at the low numbers, in numbers of 64 bits, and slopes.
use Rattle.std.proofs.Common.{◌≡◌, ℕ, ◌+◌, ◌<◌, ◌≤◌, ◌^◌, sym, ap, subst, arith, ℤ, pos, ◌+ℤ◌, unsigned_abs, to_z, of_z, to_z-of_z, List, length, get_or, set, inl, inr, if◌then◌else◌, ◌==◌, get_or-set_other, get_or-set_same}
use Rattle.std.proofs.lemmas.Int.{ints, fits_signed_from_abs}
use Rattle.std.proofs.lemmas.Bool.Decides.{eqb_tells}
use Rattle.std.specs.Int.{w64}
use Rattle.ip_model.specs.declared.program.Program.{Program}
use Rattle.ip_model.proofs.RuleFacts.{program_limits}
use Rattle.bound_certificate.proofs.Wide.{unsigned_abs-add}

back : (z : ℤ) → unsigned_abs z < 2 ^ 63 → to_z w64 (of_z w64 z) ≡ z
back z h = to_z-of_z (fits_signed_from_abs w64 z h)

pub added : (a b : ℤ) → unsigned_abs a ≤ 2 ^ 61 → unsigned_abs b ≤ 2 ^ 61 → to_z w64 (of_z w64 (a +ℤ to_z w64 (of_z w64 b))) ≡ a +ℤ b
added a b h k = rw (back b (omega arith)) (back (a +ℤ b) (omega (arith, unsigned_abs-add a b)))

pub few_columns : (program : Program) → length program.columns ≤ 2048
few_columns program = (program_limits program).few_columns

pub few_rows : (program : Program) → length program.rows ≤ 2048
few_rows program = (program_limits program).few_rows

pub factor_kept : (slopes : List ℤ) (c j : ℕ) (f new rest whole : ℤ) → c < length slopes → new ≡ get_or slopes c (pos 0) +ℤ f → get_or slopes j (pos 0) +ℤ ((if c == j then f else pos 0) +ℤ rest) ≡ whole → get_or (set slopes c new) j (pos 0) +ℤ rest ≡ whole
factor_kept slopes c j f new rest whole there is before =
    elim (eqb_tells c j) [
      | inl x ↦
          let here : get_or (set slopes c new) j (pos 0) ≡ new = subst (λ (m : ℕ). get_or (set slopes c new) m (pos 0) ≡ new) x.1 (get_or-set_same slopes c new (pos 0) there) in
          let same : get_or slopes c (pos 0) ≡ get_or slopes j (pos 0) = ap (λ (m : ℕ). get_or slopes m (pos 0)) x.1 in
          let owed = rw x.0 at before in
          omega (arith, ints, here, same, owed, is)
      | inr x ↦
          let here = get_or-set_other slopes c j new (pos 0) (λ e. x.1 (sym e)) in
          let owed = rw x.0 at before in
          omega (arith, ints, here, owed)
    ]

pub factor_small : (slopes : List ℤ) (c j : ℕ) (f new : ℤ) (m : ℕ) → c < length slopes → ((k : ℕ) → unsigned_abs (get_or slopes k (pos 0)) ≤ m) → unsigned_abs f ≤ 1000 → new ≡ get_or slopes c (pos 0) +ℤ f → unsigned_abs (get_or (set slopes c new) j (pos 0)) ≤ m + 1000
factor_small slopes c j f new m there small size is =
    let sum : unsigned_abs new ≤ m + 1000 = subst (λ z. unsigned_abs z ≤ m + 1000) (sym is) (omega (arith, unsigned_abs-add (get_or slopes c (pos 0)) f, small c)) in
    elim (eqb_tells j c) [
      | inl x ↦ subst (λ (k : ℕ). unsigned_abs (get_or (set slopes c new) k (pos 0)) ≤ m + 1000) (sym x.1) (subst (λ z. unsigned_abs z ≤ m + 1000) (sym (get_or-set_same slopes c new (pos 0) there)) sum)
      | inr x ↦ subst (λ z. unsigned_abs z ≤ m + 1000) (sym (get_or-set_other slopes c j new (pos 0) x.1)) (omega (arith, small j))
    ]
