use Rattle.std.proofs.Common.{◌≡◌, ◌+◌}
use Rattle.partlog.specs.State.{front_of}
use Rattle.audit.specs.Histories.{history_of}
use Rattle.audit.specs.retelling.NumbersUpTo.{numbers_upto}
use Rattle.audit.proofs.retelling.past.Past.of.Given as goal

abbrev pub invariant-loop-place : goal.invariant-loop-place
invariant-loop-place l = record {
  log : l.log ≡ front_of (history_of l.part) l.place;
  numbers : l.numbers ≡ numbers_upto (history_of l.part) (l.place + 1);
}
