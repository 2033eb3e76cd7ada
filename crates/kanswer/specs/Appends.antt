-- A partition that was appended to.
use Rattle.std.specs.Prelude.{Bool, true, false}
use Rattle.kanswer.specs.declared.accepted.Accepted.{Accepted}
use Rattle.kanswer.specs.declared.accepted.Accepted.TheVariants.{Refused, Appended, Seen}

abbrev pub is_appended : Accepted → Bool
is_appended (Refused code) = false
is_appended (Appended part base count) = true
is_appended (Seen part start) = false
