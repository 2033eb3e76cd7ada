use Rattle.std.proofs.Common.{◌≡◌, take}
use Rattle.std.specs.Str.Parse.{AllDigits, digits_value}
use Rattle.trace_file.proofs.number.digits.Given as goal

abbrev pub invariant-loop-c : goal.invariant-loop-c
invariant-loop-c l = record {
  number : l.n ≡ digits_value 10 (take l.c-index l.word);
  digits : AllDigits 10 (take l.c-index l.word);
}
