use Rattle.std.specs.Prelude.{All}
use Rattle.bench_parts.specs.Seats.{IsFreshPass, IsFreshSource}
use Rattle.bench_parts.proofs.room_seat.room_seats.Given as goal

abbrev pub invariant-loop : goal.invariant-loop
invariant-loop l = record {
  sources : All (IsFreshSource l.room) l.sources;
  passes : All (IsFreshPass l.room) l.passes;
}
