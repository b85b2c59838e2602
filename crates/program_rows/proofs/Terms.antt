-- The terms of a row, column by column.
use Rattle.std.proofs.Common.{◌≡◌, ℕ, ◌+◌, ◌<◌, ◌≤◌, Bool, true, false, cond, List, [], ◌∷◌, ◌++◌, length, get_or, take, ap, ◌∙◌}
use Rattle.std.specs.Prelude.{filter, map, not, ℤ}
use Rattle.std.specs.List.{enumerate_from}
use Rattle.std.proofs.lemmas.List.{append-nil, map-append, take_all}
use Rattle.std.proofs.lemmas.List.Elements.{filter-append}
use Rattle.ip_model.specs.declared.parts.Mark.{Mark}
use Rattle.ip_model.specs.declared.parts.Column.{Column}
use Rattle.ip_model.specs.declared.parts.Term.{Term}
use Rattle.program_rows.specs.Programs.{is_zero}
use Rattle.program_rows.proofs.Steps.{enumerate-more}

-- the terms of the first n columns
abbrev pub terms_up_to : List Column → (Mark → ℤ) → ℕ → List Term
terms_up_to columns factor n =
    filter (λ t. not (is_zero t.factor)) (map (λ c. record { column = c.0; factor = factor c.1.mark }) (enumerate_from 0 (take n columns)))

filter-one : {X : Type 0} (p : X → Bool) (x : X) (b : Bool) → p x ≡ b → filter p (x ∷ []) ≡ cond b (x ∷ []) []
filter-one p x true e = ap (λ b. cond b (x ∷ []) []) e
filter-one p x false e = ap (λ b. cond b (x ∷ []) []) e

module _ (columns : List Column) (factor : Mark → ℤ) (j : ℕ) (d : Column) (within : j < length columns) where
  abbrev here : Term
  here = record { column = j; factor = factor (get_or columns j d).mark }

  terms-more : (b : Bool) → not (is_zero (factor (get_or columns j d).mark)) ≡ b → terms_up_to columns factor (j + 1) ≡ terms_up_to columns factor j ++ cond b (here ∷ []) []
  terms-more b e =
      let make : ℕ × Column → Term = λ c. record { column = c.0; factor = factor c.1.mark } in
      let some : Term → Bool = λ t. not (is_zero t.factor) in
      let before = enumerate_from 0 (take j columns) in
      ap (λ cs. filter some (map make cs)) (enumerate-more columns j d within)
      ∙ ap (filter some) (map-append make before ((j, get_or columns j d) ∷ []))
      ∙ filter-append some (map make before) (here ∷ [])
      ∙ ap (λ ts. terms_up_to columns factor j ++ ts) (filter-one some here b e)

  pub terms-some : is_zero (factor (get_or columns j d).mark) ≡ false → terms_up_to columns factor (j + 1) ≡ terms_up_to columns factor j ++ here ∷ []
  terms-some e = terms-more true (ap not e)

  pub terms-none : is_zero (factor (get_or columns j d).mark) ≡ true → terms_up_to columns factor (j + 1) ≡ terms_up_to columns factor j
  terms-none e = terms-more false (ap not e) ∙ append-nil (terms_up_to columns factor j)

-- all columns
pub terms-all_columns : (columns : List Column) (factor : Mark → ℤ) (n : ℕ) → length columns ≤ n
    → terms_up_to columns factor n ≡ filter (λ t. not (is_zero t.factor)) (map (λ c. record { column = c.0; factor = factor c.1.mark }) (enumerate_from 0 columns))
terms-all_columns columns factor n past =
    ap (λ cs. filter (λ (t : Term). not (is_zero t.factor)) (map (λ (c : ℕ × Column). record { column = c.0; factor = factor c.1.mark }) (enumerate_from 0 cs))) (take_all n columns past)
