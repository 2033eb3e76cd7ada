use Rattle.std.proofs.Common.{take}
use Rattle.std.specs.Prelude.{All}
use Rattle.audit.specs.retelling.Shares.{IsTextOf, sessions_in}
use Rattle.trace_workers.specs.Telling.{HasKept, HaveDesks, HaveLinesFrom, joined}
use Rattle.trace_workers.proofs.played.kept_parts.Given as goal

abbrev pub invariant-loop-number : goal.invariant-loop-number
invariant-loop-number l = record {
  kept : All (HasKept l.account) l.desks;
  desks : HaveDesks l.account l.desks;
  lines : HaveLinesFrom l.number l.desks;
  text : IsTextOf l.account (sessions_in (take l.number l.account.passes)) (joined l.account l.parts);
}
