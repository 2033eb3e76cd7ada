-- The numbers that are drawn from a seed: the upper bits of the states of a linear congruential generator modulo 2^64, with
-- the multiplier and the increment of Knuth's MMIX (The Art of Computer Programming, volume 2).
use Rattle.std.specs.Prelude.{ℕ, zero, suc, ◌+◌, ◌*◌, ◌/◌, ◌%◌, ◌^◌}
use Rattle.storm.specs.declared.draws.TheConstants.{MULTIPLIER, INCREMENT}

abbrev pub next_state : ℕ → ℕ
next_state x = (x * MULTIPLIER + INCREMENT) % 2 ^ 64

-- the state after so many draws from state x
unfoldable pub state_after : ℕ → ℕ → ℕ
state_after x zero = x
state_after x (suc k) = next_state (state_after x k)

-- the draw from state x with this number, counted from 0: a number below `most`
abbrev pub draw : ℕ → ℕ → ℕ → ℕ
draw x k most = (state_after x (k + 1) / 2 ^ 33) % most
