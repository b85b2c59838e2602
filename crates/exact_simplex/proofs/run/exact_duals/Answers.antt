use Rattle.std.proofs.Common.{◌∙◌, ◌≡◌, length}
use Rattle.bound_certificate.specs.declared.multipliers.Multipliers.{Multipliers}
use Rattle.exact_simplex.specs.Certificates.{AreExactDuals}
use Rattle.exact_simplex.specs.Duals.{AreMultipliers}
use Rattle.exact_simplex.proofs.WeightSteps.{duals_from, duals_back, some_of, none_of}
use Rattle.exact_simplex.proofs.run.exact_duals.Goals as goal

pub returns-clause-duals : goal.returns-clause-duals
returns-clause-duals c =
    let program = c.args.program.now in
    let weights = c.in_ok-weights.weights.items in
    let size : length weights ≡ length program.rows = c.in_ok-weights.ensures.size ∙ c.len.ensures in
    let are = rw c.len.ensures at c.in_ok-weights.ensures.weights in
    some_of (λ y. AreMultipliers weights y) (λ y. AreExactDuals program c.args.at.now y) c.exact_multipliers.result (λ y h. duals_from program c.args.at.now weights y size are h) (rw c.as_slice.ensures.value at c.exact_multipliers.ensures.exact)

pub returns-clause-none : goal.returns-clause-none
returns-clause-none c =
    let program = c.args.program.now in
    let weights = c.in_ok-weights.weights.items in
    let size : length weights ≡ length program.rows = c.in_ok-weights.ensures.size ∙ c.len.ensures in
    let are = rw c.len.ensures at c.in_ok-weights.ensures.weights in
    none_of ((y : Multipliers) → AreMultipliers weights y → ⊥) ((y : Multipliers) → AreExactDuals program c.args.at.now y → ⊥) c.exact_multipliers.result (λ none y h. none y (duals_back program c.args.at.now weights y size are h)) (rw c.as_slice.ensures.value at c.exact_multipliers.ensures.none)
