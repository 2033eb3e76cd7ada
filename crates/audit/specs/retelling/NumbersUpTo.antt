-- The numbers of a history before its first entries, in order.
use Rattle.std.specs.Prelude.{ℕ, zero, suc, List, [], ◌∷◌, ◌++◌}
use Rattle.partlog.specs.declared.numbers.Numbers.{Numbers}
use Rattle.partlog.specs.Gauges.{numbers_of}
use Rattle.partlog.specs.History.{History}
use Rattle.partlog.specs.State.{state_before}

abbrev pub numbers_upto : History → ℕ → List Numbers
numbers_upto h zero = []
numbers_upto h (suc count) = numbers_upto h count ++ numbers_of (state_before h count) ∷ []
