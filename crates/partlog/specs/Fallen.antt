-- Numbers of a log none of which is smaller than it was.
use Rattle.std.specs.Prelude.{◌≤◌}
use Rattle.partlog.specs.declared.numbers.Numbers.{Numbers}

pub record NoneFell (before after : Numbers) : Type 0 where
  pub end : before.end ≤ after.end
  pub high : before.high ≤ after.high
  pub visible : before.visible ≤ after.visible
  pub bytes : before.bytes ≤ after.bytes
