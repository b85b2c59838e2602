-- What the parts of a relaxation say of its answer.
use Rattle.std.proofs.Common.{◌≡◌, ℕ, suc, ◌≤◌, sym, subst, length, Option, Some, Result, Ok, Err, IfOk}
use Rattle.ip_model.specs.declared.parts.Bounds.{Bounds}
use Rattle.ip_model.specs.declared.program.Program.{Program}
use Rattle.exact_simplex.specs.declared.table.Tableau.{Tableau}
use Rattle.exact_simplex.specs.declared.relaxed.Relaxed.{Relaxed}
use Rattle.exact_simplex.specs.declared.state.Advance.TheVariants.{Made, Wide}
use Rattle.exact_simplex.specs.Tableaus.{Scaled, pivot_of}
use Rattle.exact_simplex.specs.Forms.{Parts, parts_of}
use Rattle.exact_simplex.specs.Choices.{FirstCandidate}
use Rattle.exact_simplex.specs.Relaxing.{AdvanceGives, IsReached}
use Rattle.exact_simplex.specs.Answers.{IsMisfit, IsReachedAfter, IsReachedWithin, IsRelaxedFrom, IsWideWithin}

pub wide_kept : (column : Option ℕ) (p : Parts) (from : Scaled) (made : ℕ) (old new : Tableau) (row : ℕ) (t : Scaled) → AdvanceGives (Wide column) p from made old new row t → new ≡ old
wide_kept column p from made old new row t h = h.0

pub wide_within : (column : Option ℕ) (p : Parts) (from : Scaled) (made pivots : ℕ) (old new : Tableau) (row : ℕ) (t : Scaled) → made ≤ pivots → IsReached p from made old t → AdvanceGives (Wide column) p from made old new row t → IsWideWithin p from pivots new row column
wide_within column p from made pivots old new row t few reached h =
    let same = wide_kept column p from made old new row t h in
    subst (λ at. IsWideWithin p from pivots at row column) (sym same) (record { made = made; few = few; scaled = t; reached = reached; wide = h.1 })

pub wide_answer : {E : Type 0} (found : Result Relaxed E) (from : Scaled) (program : Program) (box : Bounds) (pivots first : ℕ) (at : Tableau) (row : ℕ) (column : Option ℕ) → FirstCandidate (Some first) at.cells row (length at.units) → IsWideWithin (parts_of program box) from pivots at row column → IfOk found (λ r. (b : Scaled) (n f : ℕ) → FirstCandidate (Some f) at.cells row (length at.units) → IsWideWithin (parts_of program box) b n at row column → IsRelaxedFrom b program box n r) → IfOk found (λ r. IsRelaxedFrom from program box pivots r)
wide_answer (Ok r) from program box pivots first at row column candidate wide h = h from pivots first candidate wide
wide_answer (Err e) from program box pivots first at row column candidate wide h = h

pub spent_answer : {E : Type 0} (found : Result Relaxed E) (from : Scaled) (program : Program) (box : Bounds) (pivots made : ℕ) (at : Tableau) → made ≡ pivots → IsReachedAfter (parts_of program box) from made at → IfOk found (λ r. (b : Scaled) → IsReachedAfter (parts_of program box) b pivots at → IsRelaxedFrom b program box pivots r) → IfOk found (λ r. IsRelaxedFrom from program box pivots r)
spent_answer (Ok r) from program box pivots made at same after h = h from (subst (λ (m : ℕ). IsReachedAfter (parts_of program box) from m at) same after)
spent_answer (Err e) from program box pivots made at same after h = h

-- the answer of a tableau that is over
pub over_answer : {E : Type 0} (found : Result Relaxed E) (from : Scaled) (program : Program) (box : Bounds) (pivots made : ℕ) (at : Tableau) → made ≤ pivots → IsReachedAfter (parts_of program box) from made at → IfOk found (λ r. (b : Scaled) (n : ℕ) → IsReachedWithin (parts_of program box) b n at → IsRelaxedFrom b program box n r) → IfOk found (λ r. IsRelaxedFrom from program box pivots r)
over_answer (Ok r) from program box pivots made at few after h = h from pivots (record { made = made; few = few; after = after })
over_answer (Err e) from program box pivots made at few after h = h

-- what holds of an answer for each tableau to begin with
pub for_each : {X E : Type 0} (found : Result X E) (A : Type 0) (H : A → Type 0) (P : A → X → Type 0) → ((a : A) → H a → IfOk found (λ x. P a x)) → IfOk found (λ x. (a : A) → H a → P a x)
for_each (Ok x) A H P h = h
for_each (Err e) A H P h = tt

-- what holds for each of them holds for this one
pub for_one : {X E : Type 0} (found : Result X E) (A : Type 0) (H : A → Type 0) (P : A → X → Type 0) (a : A) → H a → IfOk found (λ x. (b : A) → H b → P b x) → IfOk found (λ x. P a x)
for_one (Ok x) A H P a h f = f a h
for_one (Err e) A H P a h f = tt

-- a pivot more
pub made_more : (p : Parts) (from : Scaled) (made next unit : ℕ) (old new : Tableau) (row : ℕ) (t : Scaled) → next ≡ suc made → AdvanceGives (Made unit) p from made old new row t → IsReachedAfter p from next new
made_more p from made next unit old new row t is h = subst (λ (m : ℕ). IsReachedAfter p from m new) (sym is) (record { scaled = pivot_of t row unit; reached = h })

-- an answer that is right for a tableau that is over and does not fit
pub misfit_answer : {E : Type 0} (found : Result Relaxed E) (program : Program) (box : Bounds) (at : Tableau) → IsMisfit program box at → IfOk found (λ r. (b : Scaled) (n : ℕ) → IsReachedWithin (parts_of program box) b n at → IsMisfit program box at → IsRelaxedFrom b program box n r) → IfOk found (λ r. (b : Scaled) (n : ℕ) → IsReachedWithin (parts_of program box) b n at → IsRelaxedFrom b program box n r)
misfit_answer (Ok r) program box at misfit h = λ b n within. h b n within misfit
misfit_answer (Err e) program box at misfit h = h
