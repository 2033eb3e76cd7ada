-- The remainder after so many bits that are 0.
use Rattle.std.specs.Prelude.{ℕ, zero, suc}
use Rattle.kbatch.specs.Crc.{after_bit}

unfoldable pub after_zeros : ℕ → ℕ → ℕ
after_zeros zero remainder = remainder
after_zeros (suc more) remainder = after_zeros more (after_bit remainder 0)
