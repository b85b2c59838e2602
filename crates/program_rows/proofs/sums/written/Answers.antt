use Rattle.std.proofs.Common.{◌≡◌, ap, sym, ◌∙◌, ◌++◌, List, [], ◌∷◌, length, to_z, of_z, w32, None, rules, arith, SFits}
use Rattle.std.specs.Prelude.{ℤ}
use Rattle.std.proofs.lemmas.Int.{to_z-of_z}
use Rattle.std.proofs.lemmas.List.{length_push}
use Rattle.ip_model.specs.declared.parts.Column.{Column}
use Rattle.ip_model.specs.declared.parts.Term.{Term}
use Rattle.ip_model.specs.declared.parts.Line.{Line}
use Rattle.ip_model.specs.declared.parts.Mark.{Mark}
use Rattle.ip_model.specs.declared.parts.Mark.TheVariants.{Count}
use Rattle.program_rows.specs.Programs.{is_zero}
use Rattle.program_rows.specs.Sums.{factor_of}
use Rattle.program_rows.proofs.Terms.{terms_up_to, terms-some, terms-none, terms-all_columns}
use Rattle.program_rows.proofs.sums.written.Goals as goal
use Rattle.program_rows.proofs.sums.written.Goals.{then-not-is_zero+in_ok-push, else-not-is_zero}

pub loop-j-preserved : goal.loop-j-preserved
loop-j-preserved c =
    let z : ℤ = c.factor-factor.result in
    let fits : SFits w32 z = search rules in
    let same : to_z w32 (of_z w32 z) ≡ z = to_z-of_z w32 z fits in
    let columns = c.args.columns.now in
    let d : Column = record { cost = 0; top = 0; mark = Count 0 None } in
    let f : Mark → ℤ = factor_of c.args.case.now c.args.classes.now c.args.row.now.sum in
    let j = c.loop-j.j in
    let term : ℤ → Term = λ k. record { column = j; factor = k } in
    let zero = ap is_zero (sym c.factor-factor.ensures) ∙ ap is_zero (sym same) ∙ sym c.is_zero.ensures in
    elim c.if-not-is_zero.branch [
      | then-not-is_zero+in_ok-push w ↦ (
        ap (λ v. v.items) w.terms-is ∙ w.in_ok-push.ensures.items
            ∙ ap (λ ts. ts ++ term (to_z w32 (of_z w32 z)) ∷ []) c.loop-j.invariant.0
            ∙ ap (λ k. terms_up_to columns f j ++ term k ∷ []) (same ∙ c.factor-factor.ensures)
            ∙ sym (terms-some columns f j d c.loop-j-test.true (zero ∙ w.if-not-is_zero.true)),
        omega (arith, ap (λ v. length v.items) w.terms-is, ap length w.in_ok-push.ensures.items, length_push c.loop-j.terms.items (term (to_z w32 (of_z w32 z))), c.loop-j.invariant.1),
      )
      | else-not-is_zero w ↦ (
        ap (λ v. v.items) w.terms-is ∙ c.loop-j.invariant.0
            ∙ sym (terms-none columns f j d c.loop-j-test.true (zero ∙ w.if-not-is_zero.false)),
        omega (arith, ap (λ v. length v.items) w.terms-is, c.loop-j.invariant.1),
      )
    ]

pub returns : goal.returns
returns c =
    let z : ℤ = c.args.row.now.least in
    let fits : SFits w32 z = search rules in
    let f : Mark → ℤ = factor_of c.args.case.now c.args.classes.now c.args.row.now.sum in
    let made : List Term → ℤ → Line = λ ts k. record { terms = ts; least = k; kind = c.args.row.now.kind } in
    ap (λ k. made c.from_vec.result k) (to_z-of_z w32 z fits)
    ∙ ap (λ ts. made ts z) (c.from_vec.ensures ∙ c.loop-j.invariant.0 ∙ terms-all_columns c.args.columns.now f c.loop-j.j c.loop-j-test.false)
