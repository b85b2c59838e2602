-- The tableau of another box stands for the program there.
use Rattle.std.proofs.Common.{◌≡◌, ℕ, suc, ◌+◌, ◌<◌, ◌≤◌, sym, ap, subst, ◌∙◌, arith, List, length, slice_index, All}
use Rattle.ip_model.specs.declared.parts.Bounds.{Bounds}
use Rattle.ip_model.specs.declared.program.Program.{Program}
use Rattle.exact_fraction.specs.declared.fraction.Fraction.{Fraction}
use Rattle.exact_simplex.specs.declared.shifts.Shift.{Shift}
use Rattle.exact_simplex.specs.declared.table.Tableau.{Tableau}
use Rattle.exact_simplex.specs.Cells.{row_of}
use Rattle.exact_simplex.specs.Forms.{forms_of, parts_of}
use Rattle.exact_simplex.specs.Rebounds.{IsRowShifted, IsUnitWithin, shifts_below}
use Rattle.exact_simplex.specs.Relaxing.{IsStanding}
use Rattle.exact_simplex.specs.Shapes.{HasShape}
use Rattle.exact_simplex.proofs.CertificateSteps.{units_differ}
use Rattle.exact_simplex.proofs.Moved.{moved_by, moved_positive, moved_stands}
use Rattle.exact_simplex.proofs.ShiftSteps.{all_within, units_below}
use Rattle.exact_simplex.proofs.ShiftPlaces.{rise_of, row_moved, row_of_units, row_shift, same_slopes}

pub moved_standing : (program : Program) (old new : Bounds) (at made : Tableau) → IsStanding (parts_of program old) at → made.units ≡ at.units → length made.cells ≡ length at.cells → ((i : ℕ) → i < length at.cells → IsRowShifted i (row_of made.cells i) (row_of at.cells i) (shifts_below at.units (length program.rows) old new (length at.units))) → IsStanding (parts_of program new) made
moved_standing program old new at made standing same_units same_size rows =
    let n = length program.columns in
    let m = length program.rows in
    let t = standing.scaled in
    let h = standing.stands in
    let size : length at.units ≡ n = h.shows.units_size in
    let cells : length at.cells ≡ suc (n + m + n) = h.rows in
    let most : (k : ℕ) → k < n → t.unit k ≤ n + m + n = λ k q. (let there : slice_index at.units k < length at.cells = at.shape.units_in k (omega arith) in let is = h.shows.units_are k q in omega arith) in
    record {
      scaled = moved_by n (row_shift program old new) t;
      stands = record {
        rows = same_size ∙ h.rows;
        shows = record {
          rows = λ i p.
              (let within : i < length at.cells = omega arith in
              row_moved program old new at.units t i (row_of at.cells i) (row_of made.cells i) size (row_of_units program old at.units t i size h.shows.units_are (units_differ (parts_of program old) at t h) h.stands) (omega arith) h.shows.units_are most h.stands.scale_above_none (h.shows.rows i within) (subst (λ (k : ℕ). IsRowShifted i (row_of made.cells i) (row_of at.cells i) (shifts_below at.units m old new k)) size (rows i within)));
          units_size = ap length same_units ∙ size;
          units_are = λ k q. ap (λ (us : List ℕ). slice_index us k) same_units ∙ h.shows.units_are k q;
        };
        stands = moved_stands n (forms_of (parts_of program old)) (forms_of (parts_of program new)) (rise_of old new) t (same_slopes program old new) h.stands;
        positive = moved_positive n (row_shift program old new) t h.positive;
        units = h.units;
      };
    }

pub moved_shape : (cells made : List (List Fraction)) (units same : List ℕ) (shifts : List Shift) → HasShape cells units → same ≡ units → length made ≡ length cells → ((i : ℕ) → i < length cells → IsRowShifted i (row_of made i) (row_of cells i) shifts) → HasShape made same
moved_shape cells made units same shifts h is size rows = record {
  rows = λ i p. (let within : i < length cells = omega arith in (rows i within).has.size ∙ h.rows i within ∙ ap (λ (us : List ℕ). suc (length us)) (sym is));
  units_in = λ k q. (let same_length = ap length is in let there : slice_index units k < length cells = h.units_in k (omega arith) in let at = ap (λ (us : List ℕ). slice_index us k) is in omega arith);
  few_units = (let same_length = ap length is in let few = h.few_units in omega arith);
}

pub within_rows : (at : Tableau) (cells : List (List Fraction)) (units : List ℕ) (rows : ℕ) (old new : Bounds) (shifts : List Shift) → cells ≡ at.cells → units ≡ at.units → shifts ≡ shifts_below units rows old new (length units) → (i : ℕ) → i < length cells → All (λ s. IsUnitWithin (row_of cells i) s) shifts
within_rows at cells units rows old new shifts is_cells is_units is_shifts i p =
    let within : i < length at.cells = subst (λ (cs : List (List Fraction)). i < length cs) is_cells p in
    let size : length (row_of cells i) ≡ suc (length units) = ap (λ (cs : List (List Fraction)). length (row_of cs i)) is_cells ∙ at.shape.rows i within ∙ ap (λ (us : List ℕ). suc (length us)) (sym is_units) in
    subst (λ (ss : List Shift). All (λ s. IsUnitWithin (row_of cells i) s) ss) (sym is_shifts) (all_within units (row_of cells i) (shifts_below units rows old new (length units)) size (units_below units rows old new (length units)))

pub moved_result : (program : Program) (old new : Bounds) (at made : Tableau) (cells made_rows : List (List Fraction)) (units : List ℕ) (count : ℕ) (shifts : List Shift) → IsStanding (parts_of program old) at → cells ≡ at.cells → units ≡ at.units → count ≡ length program.rows → shifts ≡ shifts_below units count old new (length units) → made.units ≡ units → made.cells ≡ made_rows → length made_rows ≡ length cells → ((i : ℕ) → i < length cells → IsRowShifted i (row_of made_rows i) (row_of cells i) shifts) → IsStanding (parts_of program new) made
moved_result program old new at made cells made_rows units count shifts standing is_cells is_units is_count is_shifts made_units made_cells size rows =
    let is : shifts ≡ shifts_below at.units (length program.rows) old new (length at.units) = is_shifts ∙ ap (λ (us : List ℕ). shifts_below us count old new (length us)) is_units ∙ ap (λ (r : ℕ). shifts_below at.units r old new (length at.units)) is_count in
    moved_standing program old new at made standing (made_units ∙ is_units) (ap length made_cells ∙ size ∙ ap length is_cells) (λ i p.
    let within : i < length cells = subst (λ (cs : List (List Fraction)). i < length cs) (sym is_cells) p in
    subst (λ (ss : List Shift). IsRowShifted i (row_of made.cells i) (row_of at.cells i) ss) is (subst (λ (cs : List (List Fraction)). IsRowShifted i (row_of made.cells i) (row_of cs i) shifts) is_cells (subst (λ (ms : List (List Fraction)). IsRowShifted i (row_of ms i) (row_of cells i) shifts) (sym made_cells) (rows i within))))
