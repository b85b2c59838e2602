use Rattle.std.proofs.Common.{◌≡◌, ◌-◌, None, Some, get_or, ap, sym, ◌∙◌}
use Rattle.std.specs.Option.{option_map_or}
use Rattle.std.proofs.lemmas.List.{get_or_read}
use Rattle.plan_model.specs.declared.cases.Goal.{Goal}
use Rattle.plan_model.specs.Units.{want_of, no_want, units_in_center}
use Rattle.class_expand.specs.Lifting.{lack as lack_of}
use Rattle.class_expand.proofs.Dealings.{get-some}
use Rattle.class_expand.proofs.Counted.{center-within, minus-none}
use Rattle.class_expand.proofs.counting.lack.Goals as goal

pub in_center-requires-clause-center : goal.in_center-requires-clause-center
in_center-requires-clause-center c =
    let case = c.args.case.now in
    let none : Goal = record { center = None; least = 0; weight = 0 } in
    let want = get_or_read case.wants c.args.r c.index-as_slice-r.result c.requires.there (rw c.as_slice.ensures.items at c.index-as_slice-r.is) no_want in
    let near = c.as_slice-2.ensures.items ∙ ap (λ w. w.near) want in
    center-within case c.args.r c.args.entry c.in-Some.center c.requires.there c.requires.entry
    (sym (ap (λ gs. (get_or gs c.args.entry none).center) near) ∙ c.in-Some.is)

pub returns-in-Some : goal.returns-in-Some
returns-in-Some c =
    let case = c.args.case.now in
    let none : Goal = record { center = None; least = 0; weight = 0 } in
    let want = get_or_read case.wants c.args.r c.index-as_slice-r.result c.requires.there (rw c.as_slice.ensures.items at c.index-as_slice-r.is) no_want in
    let near = c.as_slice-2.ensures.items ∙ ap (λ w. w.near) want in
    let g : Goal = get_or (want_of case c.args.r).near c.args.entry none in
    let center : g.center ≡ Some c.in-Some.center = sym (ap (λ gs. (get_or gs c.args.entry none).center) near) ∙ c.in-Some.is in
    c.saturating_sub.ensures
    ∙ ap (λ n. (get_or c.as_slice-2.result.now c.args.entry none).least - n) c.in_center.ensures.units
    ∙ ap (λ gs. (get_or gs c.args.entry none).least - units_in_center case c.args.a.now c.args.r c.in-Some.center) near
    ∙ ap (λ o. g.least - option_map_or (units_in_center case c.args.a.now c.args.r) o 0) (sym center)
    ∙ ap (lack_of case c.args.a.now c.args.r) (sym (get-some (want_of case c.args.r).near c.args.entry none c.requires.entry))

pub returns-in-None : goal.returns-in-None
returns-in-None c =
    let case = c.args.case.now in
    let none : Goal = record { center = None; least = 0; weight = 0 } in
    let want = get_or_read case.wants c.args.r c.index-as_slice-r.result c.requires.there (rw c.as_slice.ensures.items at c.index-as_slice-r.is) no_want in
    let near = c.as_slice-2.ensures.items ∙ ap (λ w. w.near) want in
    let g : Goal = get_or (want_of case c.args.r).near c.args.entry none in
    let center : g.center ≡ None = sym (ap (λ gs. (get_or gs c.args.entry none).center) near) ∙ c.in-None.is in
    ap (λ gs. (get_or gs c.args.entry none).least) near
    ∙ minus-none g.least
    ∙ ap (λ o. g.least - option_map_or (units_in_center case c.args.a.now c.args.r) o 0) (sym center)
    ∙ ap (lack_of case c.args.a.now c.args.r) (sym (get-some (want_of case c.args.r).near c.args.entry none c.requires.entry))
