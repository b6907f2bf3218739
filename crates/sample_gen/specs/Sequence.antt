-- The sequence of a sample's numbers (this project's profile): a linear congruential one, of whose states the upper bits are drawn.
use Rattle.std.specs.Prelude.{ℕ, zero, suc, ◌+◌, ◌*◌, ◌/◌, ◌%◌, ◌^◌}

abbrev pub next : ℕ → ℕ
next x = (x * 1103515245 + 12345) % 2 ^ 31

-- x_i, where x_0 is s
abbrev pub state : ℕ → ℕ → ℕ
state s zero = s
state s (suc i) = next (state s i)

abbrev pub upper : ℕ → ℕ
upper x = x / 65536

-- y_i
abbrev pub drawn : ℕ → ℕ → ℕ
drawn s i = upper (state s i)
