use Rattle.std.proofs.Common.{ℕ, ◌<◌, ◌++◌, [], ◌∷◌, All, List, Some, take, length, ap, sym, ◌∙◌, arith, subst}
use Rattle.std.specs.Prelude.{fold}
use Rattle.std.specs.List.{enumerate_from}
use Rattle.std.proofs.lemmas.List.Sums.{fold_push}
use Rattle.class_expand.specs.Dealing.{deal, dealt, put_all}
use Rattle.class_expand.proofs.Dealings.{get-some}
use Rattle.program_rows.proofs.Steps.{enumerate-more}
use Rattle.class_expand.proofs.expansion.hand_all_out.Goals as goal

pub hand_out-requires-clause-within : goal.hand_out-requires-clause-within
hand_out-requires-clause-within c =
    let i = c.loop-number.number in
    let class = c.index-classes-number.result in
    let given = c.requires.dealt i class (get-some c.args.classes.now i class c.loop-number-test.true ∙ ap (λ k. Some k) (sym c.index-classes-number.is)) in
    subst (λ (ms : List ℕ). All (λ m. m < length c.loop-number.a.of) ms) (sym c.as_slice.ensures.items)
    (subst (λ (n : ℕ). All (λ m. m < n) class.members) (sym c.loop-number.invariant.1) given.within)

pub hand_out-requires-clause-enough : goal.hand_out-requires-clause-enough
hand_out-requires-clause-enough c =
    let i = c.loop-number.number in
    let class = c.index-classes-number.result in
    let given = c.requires.dealt i class (get-some c.args.classes.now i class c.loop-number-test.true ∙ ap (λ k. Some k) (sym c.index-classes-number.is)) in
    let whole = given.whole in
    omega (arith, whole, ap length c.as_slice.ensures.items)

pub loop-number-preserved : goal.loop-number-preserved
loop-number-preserved c =
    let i = c.loop-number.number in
    let class = c.index-classes-number.result in
    let classes = c.args.classes.now in
    let f = deal c.args.columns.now c.args.point.now in
    let init = c.args.a.now.of in
    let before = enumerate_from 0 (take i classes) in (
      c.hand_out.ensures.given
          ∙ ap (λ ms. put_all c.loop-number.a.of ms (dealt i c.args.columns.now c.args.point.now)) c.as_slice.ensures.items
          ∙ ap (λ of. f of (i, class)) c.loop-number.invariant.0
          ∙ sym (fold_push f init before (i, class))
          ∙ ap (λ k. fold f init (before ++ (i, k) ∷ [])) c.index-classes-number.is
          ∙ ap (fold f init) (sym (enumerate-more classes i class c.loop-number-test.true)),
      c.hand_out.ensures.size ∙ c.loop-number.invariant.1,
    )
