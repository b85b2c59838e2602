use Rattle.std.proofs.Common.{◌≡◌, ℕ, ◌<◌, ◌≤◌, ◌∙◌, ◌↔◌, IsTrue, Bool, false, refl, ap, sym, subst, arith, List, [], ◌∷◌, length, slice_index, slice_set, inl, inr, get_or-set_other, get_or-set_same, length-set}
use Rattle.std.proofs.lemmas.Bool.Decides.{eqb_tells}
use Rattle.ip_model.specs.declared.parts.Bounds.{Bounds}
use Rattle.ip_model.specs.declared.program.Program.{Program}
use Rattle.ip_model.specs.Limits.{top_of}
use Rattle.ip_model.specs.Points.{IsBoxOf}
use Rattle.bound_certificate.proofs.WalkSteps.{full_box_is_box}
use Rattle.exact_simplex.proofs.tests.with_first.Goals as goal

first_changed : (program : Program) (box made : Bounds) (low high : ℕ) → IsBoxOf program box → 0 < length box.low → 0 < length box.high → low ≤ high → high ≤ slice_index box.high 0 → made.low ≡ slice_set box.low 0 low → made.high ≡ slice_set box.high 0 high → IsBoxOf program made
first_changed program box made low high h some_low some_high ordered most is_low is_high =
    subst (λ (xs : List ℕ). IsBoxOf program (record { low = made.low; high = xs })) (sym is_high) (subst (λ (xs : List ℕ). IsBoxOf program (record { low = xs; high = slice_set box.high 0 high })) (sym is_low) (record {
      lows = length-set box.low 0 low ∙ h.lows;
      highs = length-set box.high 0 high ∙ h.highs;
      ordered = λ j. elim (eqb_tells j 0) [
        | inl x ↦ subst (λ (k : ℕ). slice_index (slice_set box.low 0 low) k ≤ slice_index (slice_set box.high 0 high) k) (sym x.1) (let a = get_or-set_same box.low 0 low 0 some_low in let b = get_or-set_same box.high 0 high 0 some_high in omega arith)
        | inr x ↦ (let a = get_or-set_other box.low 0 j low 0 x.1 in let b = get_or-set_other box.high 0 j high 0 x.1 in let o = h.ordered j in omega arith)
      ];
      within = λ j. elim (eqb_tells j 0) [
        | inl x ↦ subst (λ (k : ℕ). slice_index (slice_set box.high 0 high) k ≤ top_of program.columns k) (sym x.1) (let b = get_or-set_same box.high 0 high 0 some_high in let w = h.within 0 in omega arith)
        | inr x ↦ (let b = get_or-set_other box.high 0 j high 0 x.1 in let w = h.within j in omega arith)
      ];
    }))

pub returns-then-is_empty : goal.returns-then-is_empty
returns-then-is_empty c = rw c.in_ok-bounds.ensures (full_box_is_box c.args.program.now)

nonempty : (b : Bool) (xs : List ℕ) → (IsTrue b ↔ (xs ≡ [])) → b ≡ false → 0 < length xs
nonempty b [] h e = absurd (let t = h.1 refl in cc)
nonempty b (x ∷ xs) h e = omega arith

pub returns : goal.returns
returns c =
    let box = c.in_ok-bounds.bounds in
    let is : IsBoxOf c.args.program.now box = rw c.in_ok-bounds.ensures (full_box_is_box c.args.program.now) in
    let at : slice_index c.as_slice.result.now 0 ≡ slice_index box.high 0 = ap (λ (xs : List ℕ). slice_index xs 0) c.as_slice.ensures.items in
    let own = c.min-most.ensures in
    let lower = c.min.ensures in
    let ordered : c.min.result ≤ c.min-most.result = omega arith in
    let most : c.min-most.result ≤ slice_index box.high 0 = omega arith in
    first_changed c.args.program.now box _ c.min.result c.min-most.result is (nonempty c.is_empty.result box.low c.is_empty.ensures c.if-is_empty.false) (nonempty c.is_empty-else-is_empty.result box.high c.is_empty-else-is_empty.ensures c.if-is_empty-2.false) ordered most c.set.ensures c.set-2.ensures
