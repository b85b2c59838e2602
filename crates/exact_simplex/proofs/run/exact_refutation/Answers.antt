use Rattle.std.proofs.Common.{◌∙◌, ◌≡◌, length}
use Rattle.bound_certificate.specs.declared.multipliers.Multipliers.{Multipliers}
use Rattle.exact_simplex.specs.Certificates.{AreExactRefutation, RefutationFits}
use Rattle.exact_simplex.specs.Duals.{AreMultipliers}
use Rattle.exact_simplex.proofs.WeightSteps.{refutation_from, refutation_back, some_of, none_of}
use Rattle.exact_simplex.proofs.run.exact_refutation.Goals as goal

pub returns-clause-refutation : goal.returns-clause-refutation
returns-clause-refutation c =
    let program = c.args.program.now in
    let weights = c.in_ok-weights.weights.items in
    let size : length weights ≡ length program.rows = c.in_ok-weights.ensures.size ∙ c.len.ensures in
    let are = rw c.len.ensures at c.in_ok-weights.ensures.weights in
    some_of (λ y. AreMultipliers weights y) (λ y. AreExactRefutation program c.args.at.now y) c.exact_multipliers.result (λ y h. refutation_from program c.args.at.now c.args.row weights y c.requires.below size are h) (rw c.as_slice.ensures.value at c.exact_multipliers.ensures.exact)

pub returns-clause-none : goal.returns-clause-none
returns-clause-none c =
    let program = c.args.program.now in
    let weights = c.in_ok-weights.weights.items in
    let size : length weights ≡ length program.rows = c.in_ok-weights.ensures.size ∙ c.len.ensures in
    let are = rw c.len.ensures at c.in_ok-weights.ensures.weights in
    none_of ((y : Multipliers) → AreMultipliers weights y → ⊥) (RefutationFits program c.args.at.now → ⊥) c.exact_multipliers.result (λ none fits. none fits.duals (refutation_back program c.args.at.now c.args.row weights fits.duals c.requires.below size are fits.are)) (rw c.as_slice.ensures.value at c.exact_multipliers.ensures.none)
