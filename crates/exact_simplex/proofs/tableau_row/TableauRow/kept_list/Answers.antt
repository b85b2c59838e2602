use Rattle.std.proofs.Common.{◌≡◌, ◌∙◌, ap, sym, subst, length, ℕ, List}
use Rattle.exact_fraction.specs.declared.fraction.Fraction.{Fraction}
use Rattle.exact_simplex.specs.Cells.{cell_of}
use Rattle.exact_simplex.specs.Kept.{AreKept}
use Rattle.exact_simplex.proofs.KeptFacts.{cell_is, size_is}
use Rattle.exact_simplex.proofs.tableau_row.TableauRow.kept_list.Goals as goal

pub returns-clause-kept : goal.returns-clause-kept
returns-clause-kept c =
    let size : c.self.inside.size ≡ length c.args.self.now = sym (size_is c.self.inside.size c.self.inside.kept) ∙ ap length c.self.view_is in
    subst (λ (n : ℕ). AreKept n c.self.inside.kept) size c.self.invariant

pub returns-clause-values : goal.returns-clause-values
returns-clause-values c = λ k. cell_is c.self.inside.size c.self.inside.kept c.self.invariant.below k ∙ ap (λ (xs : List Fraction). cell_of xs k) c.self.view_is
