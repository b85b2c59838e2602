use Rattle.std.proofs.Common.{◌≡◌, ◌∙◌, ap, sym, subst, length, ℕ, List}
use Rattle.exact_fraction.specs.declared.fraction.Fraction.{Fraction}
use Rattle.exact_simplex.specs.Cells.{cell_of}
use Rattle.exact_simplex.specs.Kept.{AreKept, value_of}
use Rattle.exact_simplex.specs.declared.tableau_row.Kept.{Kept}
use Rattle.exact_simplex.proofs.KeptFacts.{cell_is, size_is}
use Rattle.exact_simplex.proofs.tableau_row.TableauRow.kept.Goals as goal

pub returns-clause-kept : goal.returns-clause-kept
returns-clause-kept c =
    let size : c.self.inside.size ≡ length c.args.self.now = sym (size_is c.self.inside.size c.self.inside.kept) ∙ ap length c.self.view_is in
    subst (λ (n : ℕ). AreKept n c.as_slice.result.now) size (subst (λ (xs : List Kept). AreKept c.self.inside.size xs) (sym c.as_slice.ensures.items) c.self.invariant)

pub returns-clause-values : goal.returns-clause-values
returns-clause-values c = λ k.
    ap (λ (xs : List Kept). value_of xs k) c.as_slice.ensures.items ∙ cell_is c.self.inside.size c.self.inside.kept c.self.invariant.below k ∙ ap (λ (xs : List Fraction). cell_of xs k) c.self.view_is
