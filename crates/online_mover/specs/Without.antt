-- An assignment in which one server gets something else.
use Rattle.std.specs.Prelude.{ℕ, slice_set, Option, None}
use Rattle.plan_model.specs.declared.cases.Assignment.{Assignment}

-- an assignment in which one server gets another reservation, or none
abbrev pub with_place : Assignment → ℕ → Option ℕ → Assignment
with_place a s to = record { of = slice_set a.of s to }

abbrev pub without : Assignment → ℕ → Assignment
without a s = with_place a s None
