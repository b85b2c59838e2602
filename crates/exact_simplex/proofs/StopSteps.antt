-- The duals of a stop: exact where they fit, and else rounded down.
use Rattle.std.proofs.Common.{◌≡◌, ℕ, ◌<◌, arith, inl, inr, List, length, Result, Ok, Err, IfOk}
use Rattle.ip_model.specs.declared.program.Program.{Program}
use Rattle.bound_certificate.specs.declared.multipliers.Multipliers.{Multipliers}
use Rattle.exact_fraction.specs.declared.fraction.Fraction.{Fraction}
use Rattle.exact_simplex.specs.declared.table.Tableau.{Tableau}
use Rattle.exact_simplex.specs.Cells.{cell_of, row_of}
use Rattle.exact_simplex.specs.Duals.{AreExactOrRounded, AreRounded}
use Rattle.exact_simplex.specs.Certificates.{IsWeight, AreDualsOfStop, AreRoundedDuals}
use Rattle.exact_simplex.proofs.CellSteps.{den_above}
use Rattle.exact_simplex.proofs.WeightSteps.{duals_from, duals_back}

rounded_duals : (program : Program) (at : Tableau) (weights : List Fraction) (y : Multipliers) → length weights ≡ length program.rows → ((i : ℕ) → i < length program.rows → IsWeight at.units (row_of at.cells 0) (length at.units) i (cell_of weights i).num (cell_of weights i).den) → AreRounded weights y → AreRoundedDuals program at y
rounded_duals program at weights y size are h = record {
  there = λ k d p. (let b = h.there k d p in omega arith);
  den = h.den;
  weights = λ i q. (let w = cell_of weights i in record {
    top = w.num;
    bottom = w.den;
    above = den_above w.num w.den w.lowest;
    weight = are i q;
    rounded = h.nums i (omega arith);
  });
}

stop_duals : (program : Program) (at : Tableau) (weights : List Fraction) (y : Multipliers) → length weights ≡ length program.rows → ((i : ℕ) → i < length program.rows → IsWeight at.units (row_of at.cells 0) (length at.units) i (cell_of weights i).num (cell_of weights i).den) → AreExactOrRounded weights y → AreDualsOfStop program at y
stop_duals program at weights y size are h =
    elim h [
      | inl exact ↦ inl (duals_from program at weights y size are exact)
      | inr none ↦ inr (λ z duals. none.0 z (duals_back program at weights z size are duals), rounded_duals program at weights y size are none.1)
    ]

pub stop_duals_found : {E : Type 0} (program : Program) (at : Tableau) (weights : List Fraction) (found : Result Multipliers E) → length weights ≡ length program.rows → ((i : ℕ) → i < length program.rows → IsWeight at.units (row_of at.cells 0) (length at.units) i (cell_of weights i).num (cell_of weights i).den) → IfOk found (λ y. AreExactOrRounded weights y) → IfOk found (λ y. AreDualsOfStop program at y)
stop_duals_found program at weights (Ok y) size are h = stop_duals program at weights y size are h
stop_duals_found program at weights (Err e) size are h = h
