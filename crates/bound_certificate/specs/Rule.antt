-- The rule that multipliers always keep, as a test.
use Rattle.std.specs.Prelude.{ℕ, Bool, true, ◌&&◌, List, [], ◌∷◌, nat_le, nat_lt}
use Rattle.std.specs.List.{list_all}
use Rattle.bound_certificate.specs.declared.multipliers.Top.{Top}

-- from 1 to 2^60
abbrev pub numerator_in_range : ℕ → Bool
numerator_in_range n = nat_le 1 n && nat_le n 1152921504606846976

abbrev pub rows_rise : List Top → Bool
rows_rise [] = true
rows_rise (s ∷ ts) = list_all (λ t. nat_lt s.row t.row) ts && rows_rise ts

-- the denominator and each numerator are from 1 to 2^60, and the rows rise
abbrev pub multipliers_rule : ℕ → List Top → Bool
multipliers_rule den tops = numerator_in_range den && list_all (λ t. numerator_in_range t.num) tops && rows_rise tops
