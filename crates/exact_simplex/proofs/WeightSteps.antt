-- Multipliers that are the weights of a list are the tableau's, and the other way round.
use Rattle.std.proofs.Common.{◌≡◌, ℕ, suc, ◌+◌, ◌<◌, ℤ, pos, ◌*ℤ◌, ◌<ℤ◌, neg_ℤ, sym, ap, subst, ◌∙◌, arith, inl, inr, List, length, slice_index, Option, Some, None, Result, Ok, Err, IfOk, IfSome, IfNone}
use Rattle.std.proofs.lemmas.Bool.Decides.{eqb_tells}
use Rattle.ip_model.specs.declared.program.Program.{Program}
use Rattle.bound_certificate.specs.declared.multipliers.Multipliers.{Multipliers}
use Rattle.exact_fraction.specs.declared.fraction.Fraction.{Fraction}
use Rattle.exact_simplex.specs.declared.table.Tableau.{Tableau}
use Rattle.exact_simplex.specs.Cells.{cell_of, row_of}
use Rattle.exact_simplex.specs.Duals.{num_at, AreMultipliers}
use Rattle.exact_simplex.specs.Relaxing.{IsFirstBelow}
use Rattle.exact_simplex.specs.Certificates.{IsWeight, IsRefutingWeight, AreExactDuals, AreExactRefutation}
use Rattle.exact_simplex.proofs.Ring.{mul_comm, none_times}
use Rattle.exact_simplex.proofs.Cells.{cancelled, carried}
use Rattle.exact_simplex.proofs.CellSteps.{den_above}
use Rattle.exact_simplex.proofs.Choice.{factor_none}
use Rattle.exact_simplex.proofs.Shares.{find}
use Rattle.exact_simplex.proofs.CertificateSteps.{same_row}

-- a number that is 0 over one denominator is 0 over another
none_moved : (a b n d : ℤ) → pos 0 <ℤ b → a *ℤ d ≡ n *ℤ b → a ≡ pos 0 → n ≡ pos 0
none_moved a b n d some is none = factor_none n b some (sym is ∙ ap (λ z. z *ℤ d) none ∙ none_times d)

none_same : (a b n d : ℤ) → a ≡ pos 0 → n ≡ pos 0 → a *ℤ d ≡ n *ℤ b
none_same a b n d p q = ap (λ z. z *ℤ d) p ∙ none_times d ∙ sym (none_times b) ∙ ap (λ z. z *ℤ b) (sym q)

ratio_of_both : (x y a b n d : ℤ) → pos 0 <ℤ y → x *ℤ b ≡ a *ℤ y → x *ℤ d ≡ n *ℤ y → a *ℤ d ≡ n *ℤ b
ratio_of_both x y a b n d some first second = carried a b x y n d some (sym first) second

weight_moved : (units : List ℕ) (row : List Fraction) (count i : ℕ) (a b n d : ℤ) → pos 0 <ℤ b → a *ℤ d ≡ n *ℤ b → IsWeight units row count i a b → IsWeight units row count i n d
weight_moved units row count i a b n d some is w = record {
  unit = λ k q e. carried (cell_of row (suc k)).num (cell_of row (suc k)).den a b n d some (w.unit k q e) is;
  other = λ none. none_moved a b n d some is (w.other none);
}

weights_agree : (units : List ℕ) (row : List Fraction) (count i : ℕ) (a b n d : ℤ) → IsWeight units row count i a b → IsWeight units row count i n d → a *ℤ d ≡ n *ℤ b
weights_agree units row count i a b n d w v =
    elim (find (slice_index units) count (suc (length units + i))) [
      | inl found ↦
          let k = found.place in
          let cell = cell_of row (suc k) in
          ratio_of_both cell.num cell.den a b n d (den_above cell.num cell.den cell.lowest) (w.unit k found.within found.is) (v.unit k found.within found.is)
      | inr none ↦ none_same a b n d (w.other none) (v.other none)
    ]

one_moved : (a b n d : ℤ) → pos 0 <ℤ b → a *ℤ d ≡ n *ℤ b → a ≡ b → n ≡ d
one_moved a b n d some is one = cancelled n d b some (sym is ∙ ap (λ z. z *ℤ d) one ∙ mul_comm b d)

refuting_moved : (units : List ℕ) (row : List Fraction) (r i : ℕ) (a b n d : ℤ) → pos 0 <ℤ b → a *ℤ d ≡ n *ℤ b → IsRefutingWeight units row r i a b → IsRefutingWeight units row r i n d
refuting_moved units row r i a b n d some is w = record {
  unit = λ k q e. carried (neg_ℤ (cell_of row (suc k)).num) (cell_of row (suc k)).den a b n d some (w.unit k q e) is;
  own = λ e. one_moved a b n d some is (w.own e);
  other = λ e none. none_moved a b n d some is (w.other e none);
}

refuting_agree : (units : List ℕ) (row : List Fraction) (r i : ℕ) (a b n d : ℤ) → IsRefutingWeight units row r i a b → IsRefutingWeight units row r i n d → a *ℤ d ≡ n *ℤ b
refuting_agree units row r i a b n d w v =
    elim (eqb_tells r (suc (length units + i))) [
      | inl x ↦ ap (λ z. z *ℤ d) (w.own x.1) ∙ mul_comm b d ∙ ap (λ z. z *ℤ b) (sym (v.own x.1))
      | inr x ↦ elim (find (slice_index units) (length units) (suc (length units + i))) [
        | inl found ↦
            let k = found.place in
            let cell = cell_of row (suc k) in
            ratio_of_both (neg_ℤ cell.num) cell.den a b n d (den_above cell.num cell.den cell.lowest) (w.unit k found.within found.is) (v.unit k found.within found.is)
        | inr none ↦ none_same a b n d (w.other x.1 none) (v.other x.1 none)
      ]
    ]

pub duals_from : (program : Program) (at : Tableau) (weights : List Fraction) (y : Multipliers) → length weights ≡ length program.rows → ((i : ℕ) → i < length program.rows → IsWeight at.units (row_of at.cells 0) (length at.units) i (cell_of weights i).num (cell_of weights i).den) → AreMultipliers weights y → AreExactDuals program at y
duals_from program at weights y size are h = record {
  there = λ k d p. (let b = h.there k d p in omega arith);
  weights = λ i q.
      let w = cell_of weights i in
      weight_moved at.units (row_of at.cells 0) (length at.units) i w.num w.den (pos (num_at y.tops i)) (pos y.den) (den_above w.num w.den w.lowest) (h.nums i (omega arith)) (are i q);
}

pub duals_back : (program : Program) (at : Tableau) (weights : List Fraction) (y : Multipliers) → length weights ≡ length program.rows → ((i : ℕ) → i < length program.rows → IsWeight at.units (row_of at.cells 0) (length at.units) i (cell_of weights i).num (cell_of weights i).den) → AreExactDuals program at y → AreMultipliers weights y
duals_back program at weights y size are h = record {
  there = λ k d p. (let b = h.there k d p in omega arith);
  nums = λ i q.
      let w = cell_of weights i in
      weights_agree at.units (row_of at.cells 0) (length at.units) i w.num w.den (pos (num_at y.tops i)) (pos y.den) (are i (omega arith)) (h.weights i (omega arith));
}

pub refutation_from : (program : Program) (at : Tableau) (row : ℕ) (weights : List Fraction) (y : Multipliers) → IsFirstBelow at.cells row → length weights ≡ length program.rows → ((i : ℕ) → i < length program.rows → IsRefutingWeight at.units (row_of at.cells row) row i (cell_of weights i).num (cell_of weights i).den) → AreMultipliers weights y → AreExactRefutation program at y
refutation_from program at row weights y below size are h = record {
  row = row;
  below = below;
  there = λ k d p. (let b = h.there k d p in omega arith);
  weights = λ i q.
      let w = cell_of weights i in
      refuting_moved at.units (row_of at.cells row) row i w.num w.den (pos (num_at y.tops i)) (pos y.den) (den_above w.num w.den w.lowest) (h.nums i (omega arith)) (are i q);
}

pub refutation_back : (program : Program) (at : Tableau) (row : ℕ) (weights : List Fraction) (y : Multipliers) → IsFirstBelow at.cells row → length weights ≡ length program.rows → ((i : ℕ) → i < length program.rows → IsRefutingWeight at.units (row_of at.cells row) row i (cell_of weights i).num (cell_of weights i).den) → AreExactRefutation program at y → AreMultipliers weights y
refutation_back program at row weights y below size are h =
    let same = same_row at h.row row h.below below in
    record {
      there = λ k d p. (let b = h.there k d p in omega arith);
      nums = λ i q.
          let w = cell_of weights i in
          refuting_agree at.units (row_of at.cells row) row i w.num w.den (pos (num_at y.tops i)) (pos y.den) (are i (omega arith)) (subst (λ (s : ℕ). IsRefutingWeight at.units (row_of at.cells s) s i (pos (num_at y.tops i)) (pos y.den)) same (h.weights i (omega arith)));
    }

-- what is said of an answer of two sides, once it is known of each
pub some_of : {E : Type 0} (A B : Multipliers → Type 0) (found : Result (Option Multipliers) E) → ((y : Multipliers) → A y → B y) → IfOk found (λ f. IfSome f (λ y. A y)) → IfOk found (λ f. IfSome f (λ y. B y))
some_of A B (Ok (Some y)) to h = to y h
some_of A B (Ok None) to h = h
some_of A B (Err e) to h = h

pub none_of : {E : Type 0} (A B : Type 0) (found : Result (Option Multipliers) E) → (A → B) → IfOk found (λ f. IfNone f A) → IfOk found (λ f. IfNone f B)
none_of A B (Ok (Some y)) to h = h
none_of A B (Ok None) to h = to h
none_of A B (Err e) to h = h
