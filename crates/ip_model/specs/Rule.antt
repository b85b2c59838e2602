-- The rules that a program, a point and multipliers' numbers always keep, as tests.
use Rattle.std.specs.Prelude.{ℕ, ◌*◌, Bool, true, false, not, ◌&&◌, ◌||◌, List, [], ◌∷◌, length, filter, pos, ℤ, ◌+ℤ◌, ◌*ℤ◌, unsigned_abs, nat_le, nat_lt, int_le, if◌then◌else◌}
use Rattle.std.specs.List.{list_all}
use Rattle.std.specs.Int.{int_min}
use Rattle.ip_model.specs.declared.parts.Column.{Column}
use Rattle.ip_model.specs.declared.parts.Term.{Term}
use Rattle.ip_model.specs.declared.parts.Line.{Line}
use Rattle.ip_model.specs.Limits.{helper_at, is_helper, top_of}

-- its cost and top are within their limits, and a helper costs something
abbrev pub column_in_range : Column → Bool
column_in_range c = nat_le c.cost 10000 && nat_le c.top 20000000 && (not (is_helper c.mark) || nat_le 1 c.cost)

-- it names a column, its factor is of magnitude 1 to 1,000, and that of a helper is 1
abbrev pub term_in_range : List Column → Term → Bool
term_in_range columns t =
    nat_lt t.column (length columns) && nat_le 1 (unsigned_abs t.factor) && nat_le (unsigned_abs t.factor) 1000
    && (not (helper_at columns t.column) || int_le t.factor (pos 1) && int_le (pos 1) t.factor)

abbrev pub columns_rise : List Term → Bool
columns_rise [] = true
columns_rise (s ∷ ts) = list_all (λ t. nat_lt s.column t.column) ts && columns_rise ts

-- the least that a term can be, a helper being at its top
abbrev pub term_reach : List Column → Term → ℤ
term_reach columns t =
    if helper_at columns t.column then t.factor *ℤ pos (top_of columns t.column) else int_min (pos 0) (t.factor *ℤ pos (top_of columns t.column))

-- the least that the sum of the terms can be, the helpers being at their tops
abbrev pub terms_reach : List Column → List Term → ℤ
terms_reach columns [] = pos 0
terms_reach columns (t ∷ ts) = term_reach columns t +ℤ terms_reach columns ts

-- at most one helper, and a helper at its top meets the row at any whole numbers of the other columns within their tops
abbrev pub line_in_range : List Column → Line → Bool
line_in_range columns line =
    let helpers = filter (λ t. helper_at columns t.column) line.terms in
    nat_le (unsigned_abs line.least) 20000000 && list_all (term_in_range columns) line.terms && columns_rise line.terms
    && nat_le (length helpers) 1 && (nat_le (length helpers) 0 || int_le line.least (terms_reach columns line.terms))

-- the rule of a program. The base is at most 2^48
abbrev pub program_rule : ℕ → List Column → List Line → Bool
program_rule base columns rows =
    nat_le (length columns) 2048 && nat_le (length rows) 2048 && nat_le base 281474976710656
    && list_all column_in_range columns && list_all (line_in_range columns) rows

-- the rule of a point: a denominator from 1 to 2^60, and each part below it
abbrev pub point_rule : ℕ → List ℕ → List ℕ → Bool
point_rule den whole part = nat_le 1 den && nat_le den 1152921504606846976 && list_all (λ n. nat_lt n den) part
