-- What a tableau that is over certifies.
use Rattle.std.proofs.Common.{◌≡◌, ℕ, zero, suc, ◌*◌, ◌<◌, ℤ, pos, negsuc, ◌+ℤ◌, ◌*ℤ◌, ◌≤ℤ◌, ◌<ℤ◌, refl, sym, ap, subst, ◌∙◌, arith, length}
use Rattle.std.proofs.lemmas.Int.{ints}
use Rattle.ip_model.specs.declared.parts.Bounds.{Bounds}
use Rattle.ip_model.specs.declared.program.Program.{Program}
use Rattle.ip_model.specs.Points.{IsBoxOf, value_over}
use Rattle.bound_certificate.specs.declared.multipliers.Multipliers.{Multipliers}
use Rattle.bound_certificate.specs.Bound.{unrounded_numerator, refutation, Refutes}
use Rattle.bound_certificate.proofs.LeafBound.{weighted_under}
use Rattle.exact_simplex.specs.Tableaus.{Scaled, StandsFor, IsPositive}
use Rattle.exact_simplex.specs.Forms.{place_of, forms_of, parts_of}
use Rattle.exact_simplex.specs.Duals.{AreWeights}
use Rattle.exact_simplex.proofs.Ring.{mul_comm, none_times}
use Rattle.exact_simplex.proofs.Integers.{mul-le}
use Rattle.exact_simplex.proofs.Weights.{shown_by}
use Rattle.exact_simplex.proofs.Places.{IsProper, surplus_share}
use Rattle.exact_simplex.proofs.Ends.{UnitsProper, duals_of, duals_show, refuting, refuting_shows}
use Rattle.exact_simplex.proofs.Least.{IsLeast, point_of, least_lies, least_value}
use Rattle.exact_simplex.proofs.Link.{shown_scale}
use Rattle.exact_simplex.proofs.Order.{above_product}
use Rattle.bound_certificate.proofs.RuleFacts.{multipliers_range}

none_both : (a b : ℤ) → pos 0 *ℤ a ≡ b *ℤ pos 0
none_both a b = none_times a ∙ sym (none_times b) ∙ mul_comm (pos 0) b

above_factor : (n : ℕ) (z : ℤ) → pos 0 <ℤ (pos n *ℤ z) → pos 0 <ℤ z
above_factor n (pos zero) h = absurd (omega (arith, ints))
above_factor n (pos (suc m)) h = omega (arith, ints)
above_factor n (negsuc m) h = absurd (omega (arith, ints))

-- the unrounded bound of the duals equals the point's value: over the denominators of both
pub duals_equal : (program : Program) (box : Bounds) (y : Multipliers) (t : Scaled) → IsBoxOf program box → StandsFor (length program.columns) (forms_of (parts_of program box)) t → UnitsProper (parts_of program box) t → IsPositive (length program.columns) t → IsLeast t → AreWeights (length program.rows) y.den t.scale y.tops (duals_of (parts_of program box) t) → pos t.scale *ℤ unrounded_numerator program box y ≡ pos (y.den * value_over program t.scale (point_of box t))
duals_equal program box y t is_box h proper positive least duals =
    let p = parts_of program box in
    let shown = duals_show p t is_box.ordered h proper positive in
    let total = shown_scale program box y.tops y.den t.scale y.den (pos t.scale) (duals_of p t) duals refl in
    let lies = least_lies program box t h least in
    let under = weighted_under program box y y.den t.scale (point_of box t) lies in
    let value = least_value program box t h least in
    let base : pos t.scale *ℤ pos program.base ≡ pos (t.scale * program.base) = refl in
    let above : (pos y.den *ℤ (pos (t.scale * program.base) +ℤ t.value 0)) ≤ℤ (pos y.den *ℤ (pos t.scale *ℤ pos program.base +ℤ shown_by p (pos t.scale) (duals_of p t))) = mul-le y.den _ _ (omega (arith, ints)) in
    let same : pos y.den *ℤ pos (value_over program t.scale (point_of box t)) ≡ pos y.den *ℤ (pos (t.scale * program.base) +ℤ t.value 0) = ap (λ z. pos y.den *ℤ z) value in
    omega (arith, ints)

-- the refutation of an empty tableau refutes the box
pub empty_refutes : (program : Program) (box : Bounds) (y : Multipliers) (t : Scaled) (r : ℕ) → IsBoxOf program box → StandsFor (length program.columns) (forms_of (parts_of program box)) t → UnitsProper (parts_of program box) t → IsProper (parts_of program box) (place_of (length program.columns) (length program.rows) r) → t.value r <ℤ pos 0 → ((k : ℕ) → k < length program.columns → t.factor r k ≤ℤ pos 0) → AreWeights (length program.rows) y.den t.scale y.tops (refuting surplus_share (parts_of program box) t r) → Refutes program box y
empty_refutes program box y t r is_box h proper there low below weights =
    let p = parts_of program box in
    let shown = refuting_shows p t r is_box.ordered h proper there low below in
    let total = shown_scale program box y.tops y.den t.scale 0 (pos 0) (refuting surplus_share p t r) weights (none_both (pos t.scale) (pos y.den)) in
    let plain : pos 0 *ℤ pos program.base +ℤ shown_by p (pos 0) (refuting surplus_share p t r) ≡ shown_by p (pos 0) (refuting surplus_share p t r) = omega (arith, ints, none_times (pos program.base)) in
    let some : pos 0 <ℤ pos y.den = (let d = (multipliers_range y).den_above_none in omega (arith, ints)) in
    let above : pos 0 <ℤ (pos t.scale *ℤ refutation program box y) = subst (λ z. pos 0 <ℤ z) (sym (total ∙ ap (λ z. pos y.den *ℤ z) plain)) (above_product (pos y.den) _ some shown) in
    above_factor t.scale (refutation program box y) above
