-- The sequence of draws.
use Rattle.std.specs.Prelude.{ℕ, zero, suc, ◌+◌, ◌*◌, ◌%◌}

-- one draw after another
abbrev pub drawn : ℕ → ℕ
drawn x = (75 * x + 74) % 65537

-- what a number became after so many draws
abbrev pub drawn_after : ℕ → ℕ → ℕ
drawn_after number zero = number
drawn_after number (suc n) = drawn (drawn_after number n)

-- the draw of a server: on each switchboard there is one for each of its four servers
abbrev pub draw_of : ℕ → ℕ → ℕ → ℕ
draw_of number switchboard place = drawn_after number (4 * switchboard + place + 1)
