use Rattle.std.proofs.Common.{◌≡◌, ◌∙◌, add-one, suc, sym, subst, ℕ}
use Rattle.exact_simplex.specs.Choices.{ChoiceFits, IsHeld, IsSetting}
use Rattle.exact_simplex.specs.Pivots.{PivotFits}
use Rattle.exact_simplex.proofs.ReachSteps.{setting_of, reached_more}
use Rattle.exact_simplex.proofs.table.Tableau.advance.Goals as goal

pub returns-then-made : goal.returns-then-made
returns-then-made c = λ p from made t reached.
    let h = reached.stands in
    let cells = c.args.self.now.cells in
    let gives = simp c.as_slice.ensures.items at c.in-Some.ensures.gives in
    let same : c.len-units.result ≡ p.columns = c.len-units.ensures ∙ h.shows.units_size in
    let setting = subst (λ (m : ℕ). IsSetting m cells t) (sym same) (setting_of p c.args.self.now t h) in
    let chosen = subst (λ (m : ℕ). IsHeld cells t c.args.row m c.in-Some.unit × ChoiceFits m cells t c.args.row) same (gives t setting) in
    reached_more p from made c.args.self.now c.pivot.new.self t c.args.row c.in-Some.unit reached c.requires.row chosen.0 chosen.1 (c.in_ok-made.ensures.fits c.if-made.true) c.in_ok-made.ensures.rows (c.in_ok-made.ensures.made c.if-made.true)

pub returns-else-made : goal.returns-else-made
returns-else-made c = λ p from made t reached.
    let h = reached.stands in
    let cells = c.args.self.now.cells in
    let gives = simp c.as_slice.ensures.items at c.in-Some.ensures.gives in
    let same : c.len-units.result ≡ p.columns = c.len-units.ensures ∙ h.shows.units_size in
    let setting = subst (λ (m : ℕ). IsSetting m cells t) (sym same) (setting_of p c.args.self.now t h) in
    let held = subst (λ (m : ℕ). IsHeld cells t c.args.row m c.in-Some.unit) same (gives t setting).0 in
    let none : PivotFits cells c.args.row (suc c.in-Some.unit) → ⊥ = c.in_ok-made.ensures.none c.if-made.false in
    (c.in_ok-made.ensures.kept c.if-made.false, (c.in-Some.unit, add-one c.in-Some.unit, held, subst (λ (m : ℕ). PivotFits cells c.args.row m → ⊥) (sym (add-one c.in-Some.unit)) none))
