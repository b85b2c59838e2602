-- The answers that give a licence.
use Rattle.std.proofs.Common.{◌≡◌, ◌∙◌, ℕ, ◌≤◌, arith, subst, inl, inr, Result, Ok, Err, IfOk}
use Rattle.ip_model.specs.declared.parts.Bounds.{Bounds}
use Rattle.ip_model.specs.declared.program.Program.{Program}
use Rattle.exact_simplex.specs.declared.table.Tableau.{Tableau}
use Rattle.exact_simplex.specs.declared.relaxed.Relaxed.{Relaxed}
use Rattle.exact_simplex.specs.declared.relaxed.Relaxed.TheVariants.{Least, Empty, Wide, Misfit, Spent}
use Rattle.exact_simplex.specs.Answers.{IsMisfit, IsRelaxed}
use Rattle.exact_simplex.specs.Licences.{GivesLicence, IsOver, most_pivots}

over_of : (program : Program) (box : Bounds) (at : Tableau) → IsMisfit program box at → IsOver at
over_of program box at h =
    elim h [
      | inl x ↦ inl x.0
      | inr x ↦ inr x.0
    ]

few_of : (made pivots most : ℕ) → pivots ≡ most → made ≤ pivots → made ≤ most
few_of made pivots most same few = subst (λ (m : ℕ). made ≤ m) same few

few_same : (made most : ℕ) → made ≡ most → made ≤ most
few_same made most same = omega arith

gives : (program : Program) (box : Bounds) (pivots : ℕ) (found : Relaxed) → pivots ≡ most_pivots program → IsRelaxed program box pivots found → GivesLicence program box found
gives program box pivots (Least point duals at) same h = tt
gives program box pivots (Empty duals at) same h = tt
gives program box pivots (Wide at row col duals) same h = record {
  at = at;
  last = record {
    made = h.0.made;
    few = few_of h.0.made pivots (most_pivots program) same h.0.few;
    scaled = h.0.scaled;
    written = h.0.reached.written;
    last = inr (inr (row, h.1, (col, h.0.wide)));
  };
  stops = inl (row, h.1);
}
gives program box pivots (Misfit at duals) same h = record {
  at = at;
  last = record {
    made = h.0.made;
    few = few_of h.0.made pivots (most_pivots program) same h.0.few;
    scaled = h.0.after.scaled;
    written = h.0.after.reached.written;
    last = inr (inl (over_of program box at h.1));
  };
  stops = inr h.1;
}
gives program box pivots (Spent at made duals) same h =
    let all : made ≡ most_pivots program = h.1 ∙ same in
    record {
      at = at;
      last = record {
        made = made;
        few = few_same made (most_pivots program) all;
        scaled = h.0.scaled;
        written = h.0.reached.written;
        last = inl all;
      };
      stops = inl h.2;
    }

pub licence_of : {E : Type 0} (found : Result Relaxed E) (program : Program) (box : Bounds) (pivots : ℕ) → IfOk found (λ r. IsRelaxed program box pivots r) → IfOk found (λ r. pivots ≡ most_pivots program → GivesLicence program box r)
licence_of (Ok r) program box pivots h = λ same. gives program box pivots r same h
licence_of (Err e) program box pivots h = h
